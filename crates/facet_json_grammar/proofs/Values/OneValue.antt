-- Bytes that are read as one value, wherever they stand and whatever follows that cannot go on with a number: scalars, and white
-- space before a value.
use Rattle.std.proofs.Common.{◌≡◌, ℕ, ◌+◌, ◌≤◌, true, List, [], ◌∷◌, ◌++◌, length, take, drop, refl, sym, ap, ap₂, ◌∙◌, subst, arith, append_assoc, append-nil, length-append, length-drop, take-append-drop}
use Rattle.std.specs.List.{list_all}
use Rattle.std.proofs.lemmas.List.{drop-drop, length-take}
use Rattle.std.proofs.lemmas.Bool.{and_parts}
use Rattle.std.proofs.lemmas.Bool.Decides.{nat_tests}
use Rattle.std.proofs.Math.Seq.{drop-append_seam}
use Rattle.facet_format.specs.Bytes.{is_space}
use Rattle.facet_format.specs.Span.{span_at}
use Rattle.facet_json_token.specs.Cut.{cut, cut_here, past_gap, token}
use Rattle.facet_json_token.specs.Shape.{IsStructural, IsShape}
use Rattle.facet_json_token.specs.Gap.{plain, whole}
use Rattle.facet_json_token.specs.GapLen.{piece_len, gap_len}
use Rattle.facet_json_token.specs.Token.{Kind, Token}
use Rattle.facet_json_token.specs.Tokens.{ended, next}
use Rattle.facet_json_token.specs.TokenList.{tokens_from}
use Rattle.facet_json_token.proofs.Gaps.{piece_len-blank, gap_len-none, gap_len-some}
use Rattle.facet_json_token.proofs.ShapesCut.{cut_here-shape}
use Rattle.facet_json_token.proofs.TokensSteps.{tokens_by_first, cut-end, tokens_from-nothing}
use Rattle.facet_json_grammar.specs.Document.{Reads, IsWholeDocument}
use Rattle.facet_json_grammar.specs.Language.{Rules, lenient_rules, strict_rules}
use Rattle.facet_json_grammar.specs.Meaning.{tree_of, meaning}
use Rattle.facet_json_grammar.specs.Node.{Node, scalar, Spells, one_token}
use Rattle.facet_json_grammar.specs.StrictDocument.{none_left}
use Rattle.facet_json_grammar.specs.Tree.{Tree}
use Rattle.facet_json_grammar.proofs.WalkComes.{Fits}
use Rattle.facet_json_grammar.specs.RfcText.{AreSpaces}
use Rattle.facet_json_grammar.proofs.Scalars.OneToken.{ends_number, IsCutAs, IsTokenBy, IsOneScalar}
use Rattle.facet_json_grammar.proofs.Cuts.ShapesBetween.{structural-no_gap}
use Rattle.facet_json_grammar.proofs.Values.FitBefore.{scalar-fits}

-- ---- what is left from an offset on

-- From this offset on these bytes are left of the buffer.
pub record IsLeft (buffer : List ℕ) (from : ℕ) (left : List ℕ) : Type 0 where
  pub within : from ≤ length buffer
  pub here : drop from buffer ≡ left

-- After the first of them the others are left.
pub IsLeft-past : {buffer : List ℕ} {from : ℕ} (first rest : List ℕ) → IsLeft buffer from (first ++ rest) →
    IsLeft buffer (from + length first) rest
IsLeft-past {buffer} {from} first rest h = record {
  within = omega (arith, length-drop from buffer, ap length h.here, length-append first rest, h.within);
  here = sym (drop-drop (length first) from buffer) ∙ ap (drop (length first)) h.here ∙ drop-append_seam first rest;
}

-- The same bytes, written in another way.
pub IsLeft-as : {buffer l m : List ℕ} {from : ℕ} → l ≡ m → IsLeft buffer from l → IsLeft buffer from m
IsLeft-as e h = record { within = h.within; here = h.here ∙ e }

-- ---- white space

-- A space does not go on with a number.
space-ends_number : (b : ℕ) (rest : List ℕ) → is_space b ≡ true → ends_number (b ∷ rest) ≡ true
space-ends_number b rest e = grind (arith, nat_tests)

-- Nor does white space before bytes that do not.
pub blank-ends_number : (blank rest : List ℕ) → AreSpaces blank → ends_number rest ≡ true →
    ends_number (blank ++ rest) ≡ true
blank-ends_number [] rest e h = h
blank-ends_number (b ∷ blank) rest e h = space-ends_number b (blank ++ rest) (and_parts (is_space b) _ e).0

-- White space is a gap, with the gap after it.
pub gap_len-blank : (blank rest : List ℕ) → AreSpaces blank →
    gap_len plain whole (blank ++ rest) ≡ length blank + gap_len plain whole rest
gap_len-blank [] rest e = omega arith
gap_len-blank (b ∷ blank) rest e =
    let both = and_parts (is_space b) (list_all is_space blank) e in
    omega (arith, gap_len-some plain whole b (blank ++ rest) 0 (piece_len-blank plain whole b (blank ++ rest) both.0), gap_len-blank blank rest both.1)

cut-past_gap : (buffer : List ℕ) (p q : ℕ) → past_gap buffer p plain ≡ past_gap buffer q plain →
    cut buffer p plain ≡ cut buffer q plain
unfolding cut
cut-past_gap buffer p q e = ap (λ n. cut_here plain n (drop n buffer)) e

-- After white space the same is cut as before it.
pub cut-blank : (buffer : List ℕ) (from : ℕ) (blank rest : List ℕ) → AreSpaces blank → IsLeft buffer from (blank ++ rest) →
    cut buffer from plain ≡ cut buffer (from + length blank) plain
cut-blank buffer from blank rest e left =
    let there = IsLeft-past blank rest left in
    let before : gap_len plain whole (drop from buffer) ≡ length blank + gap_len plain whole rest =
    ap (gap_len plain whole) left.here ∙ gap_len-blank blank rest e in
    let after : gap_len plain whole (drop (from + length blank) buffer) ≡ gap_len plain whole rest =
    ap (gap_len plain whole) there.here in
    cut-past_gap buffer from (from + length blank) (omega arith)

-- After white space the same tokens stand as before it.
pub tokens_from-blank : (buffer : List ℕ) (from : ℕ) (blank rest : List ℕ) → AreSpaces blank →
    IsLeft buffer from (blank ++ rest) →
    tokens_from buffer plain from ≡ tokens_from buffer plain (from + length blank)
tokens_from-blank buffer from blank rest e left =
    tokens_by_first buffer plain from (cut buffer (from + length blank) plain) (cut-blank buffer from blank rest e left)
    ∙ sym (tokens_by_first buffer plain (from + length blank) (cut buffer (from + length blank) plain) refl)

-- ---- a structural byte

-- the token of a structural byte
abbrev pub mark_at : Kind → ℕ → Token
mark_at kind from = record { kind = kind; span = span_at from 1 }

-- Where no gap stands, what is cut is cut right there.
pub cut-no_gap : (buffer : List ℕ) (from : ℕ) (left : List ℕ) → piece_len plain whole left ≡ 0 →
    IsLeft buffer from left → cut buffer from plain ≡ cut_here plain from left
unfolding cut
cut-no_gap buffer from left e h =
    let none : gap_len plain whole (drop from buffer) ≡ 0 =
    ap (gap_len plain whole) h.here ∙ gap_len-none plain whole left e in
    let same : past_gap buffer from plain ≡ from = omega arith in
    ap (λ n. cut_here plain n (drop n buffer)) same ∙ ap (cut_here plain from) h.here

-- A structural byte is cut as its token.
pub tokens_from-structural : (buffer : List ℕ) (from b : ℕ) (kind : Kind) (rest : List ℕ) → IsStructural b kind →
    IsLeft buffer from (b ∷ rest) →
    tokens_from buffer plain from ≡ next (mark_at kind from) (tokens_from buffer plain (from + 1))
tokens_from-structural buffer from b kind rest s left =
    tokens_by_first buffer plain from (token (mark_at kind from))
    (cut-no_gap buffer from (b ∷ rest) (structural-no_gap b kind rest s) left
    ∙ cut_here-shape plain from (b ∷ []) rest kind (IsShape.structural b kind rest s))

-- ---- what is read as one value

-- From an offset of the buffer on, up to another, the tokens spell a node with this tree; and they may stand as they do by these rules,
-- where those that follow them may.
pub record IsReadFrom (by : Rules) (buffer : List ℕ) (from to : ℕ) (value : Tree) : Type 0 where
  pub root : Node
  pub reads : Reads buffer (tokens_from buffer plain from) root value (tokens_from buffer plain to)
  pub fits : Fits by buffer (tokens_from buffer plain to) → Fits by buffer (tokens_from buffer plain from)

-- Wherever the bytes stand, they are read as this value.
abbrev pub IsOneValue : Rules → List ℕ → Tree → Type 0
IsOneValue by bytes value = (buffer : List ℕ) (from : ℕ) (after : List ℕ) → IsLeft buffer from (bytes ++ after) →
    ends_number after ≡ true → IsReadFrom by buffer from (from + length bytes) value

-- What is left after an offset stands after as many bytes.
pub IsLeft-split : {buffer left : List ℕ} {from : ℕ} → IsLeft buffer from left →
    (before : List ℕ) × (length before ≡ from) × (before ++ left ≡ buffer)
IsLeft-split {buffer} {left} {from} h =
    (take from buffer, omega (arith, length-take from buffer, h.within), ap (λ l. take from buffer ++ l) (sym h.here) ∙ take-append-drop from buffer)

-- A token that is cut there is cut in the buffer.
pub cut_as-from : {buffer bytes after before : List ℕ} {from : ℕ} {t : Token} → length before ≡ from →
    before ++ bytes ++ after ≡ buffer → IsCutAs before bytes after t →
    tokens_from buffer plain from ≡ next t (tokens_from buffer plain (from + length bytes))
cut_as-from {buffer} {bytes} {after} {before} {from} {t} e same h =
    tokens_by_first buffer plain from (token t)
    (ap₂ (λ l n. cut l n plain) (sym same) (sym e) ∙ h.is_cut)
    ∙ ap (λ n. next t (tokens_from buffer plain n)) (h.stops ∙ ap (λ n. n + length bytes) e)

-- One scalar's token is read as its meaning.
pub scalar-one_value : (by : Rules) (bytes : List ℕ) (value : Tree) → IsOneScalar by bytes value → IsOneValue by bytes value
unfolding tree_of
scalar-one_value by bytes value h buffer from after left ends =
    let s = IsLeft-split left in
    let same : s.0 ++ bytes ++ after ≡ buffer = append_assoc s.0 bytes after ∙ s.2 in
    let c = h s.0 after ends in
    let there = cut_as-from s.1 same c.1 in
    let spells : Spells (tokens_from buffer plain from) (scalar c.0) (tokens_from buffer plain (from + length bytes)) =
    rw there (one_token c.0 _ c.2) in
    let has : IsTokenBy by buffer c.0 = subst (λ l. IsTokenBy by l c.0) same c.4 in
    record {
      root = scalar c.0;
      reads = record { spells = spells; has_tree = ap (λ l. meaning l c.0) (sym same) ∙ c.3 };
      fits = λ f. rw there (scalar-fits by buffer c.0 _ c.2 has f);
    }

-- White space before a value is passed.
pub blank-one_value : (by : Rules) (blank bytes : List ℕ) (value : Tree) → AreSpaces blank → IsOneValue by bytes value →
    IsOneValue by (blank ++ bytes) value
blank-one_value by blank bytes value e h buffer from after left ends =
    let whole = IsLeft-as (append_assoc blank bytes after) left in
    let r = h buffer (from + length blank) after (IsLeft-past blank (bytes ++ after) whole) ends in
    let to : from + length blank + length bytes ≡ from + length (blank ++ bytes) = omega (arith, length-append blank bytes) in
    let start = tokens_from-blank buffer from blank (bytes ++ after) e whole in
    rw (← to) record { root = r.root; reads = rw start r.reads; fits = λ f. rw start (r.fits f) }

-- So is white space after it.
pub one_value-blank : (by : Rules) (bytes blank : List ℕ) (value : Tree) → IsOneValue by bytes value → AreSpaces blank →
    IsOneValue by (bytes ++ blank) value
one_value-blank by bytes blank value h e buffer from after left ends =
    let whole = IsLeft-as (append_assoc bytes blank after) left in
    let r = h buffer from (blank ++ after) whole (blank-ends_number blank after e ends) in
    let to : from + length bytes + length blank ≡ from + length (bytes ++ blank) = omega (arith, length-append bytes blank) in
    let end = tokens_from-blank buffer (from + length bytes) blank after e (IsLeft-past bytes (blank ++ after) whole) in
    rw (← to) record { root = r.root; reads = rw (← end) r.reads; fits = λ f. r.fits (rw end f) }

-- ---- whole texts

-- The text is one document, with this tree, whose tokens may stand as they do by these rules.
pub record IsDocumentBy (by : Rules) (bytes : List ℕ) (value : Tree) : Type 0 where
  pub root : Node
  pub whole : IsWholeDocument bytes root value
  pub fits : Fits by bytes (tokens_from bytes plain 0)

fits-ended : (by : Rules) (buffer : List ℕ) → Fits by buffer ended
fits-ended lenient_rules buffer = tt
fits-ended strict_rules buffer = none_left

-- Bytes that are one value are a whole document.
pub one_value-document : (by : Rules) (bytes : List ℕ) (value : Tree) → IsOneValue by bytes value → IsDocumentBy by bytes value
one_value-document by bytes value one =
    let left : IsLeft bytes 0 (bytes ++ []) = record { within = omega arith; here = sym (append-nil bytes) } in
    let read = one bytes 0 [] left refl in
    let none : tokens_from bytes plain (0 + length bytes) ≡ ended =
    tokens_from-nothing bytes (0 + length bytes) plain (cut-end bytes (0 + length bytes) plain (omega arith)) in
    record {
      root = read.root;
      whole = record { reads = rw none at read.reads };
      fits = read.fits (rw none (fits-ended by bytes));
    }
