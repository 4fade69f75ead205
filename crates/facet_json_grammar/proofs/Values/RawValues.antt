-- Text that is a whole document by itself is read as one value, wherever it stands.
use Rattle.std.proofs.Common.{◌≡◌, ℕ, ◌+◌, ◌-◌, ◌≤◌, ◌<◌, Bool, true, false, cond, List, [], ◌∷◌, ◌++◌, length, take, drop, get_or, Option, Some, None, refl, sym, ap, ap₂, ◌∙◌, arith, append_assoc, length-append, length-drop, inl, inr}
use Rattle.std.specs.Prelude.{slice_range}
use Rattle.std.specs.Option.{option_map}
use Rattle.std.proofs.lemmas.Bool.{and_from, cases_Bool}
use Rattle.std.proofs.lemmas.List.{drop-drop, drop-append-le, take-append-le}
use Rattle.std.proofs.lemmas.Option.{slice_get-get_or}
use Rattle.facet_format.specs.Bytes.{is_space}
use Rattle.facet_format.specs.NumberValue as numbers
use Rattle.facet_format.specs.Span.{Span, stop}
use Rattle.facet_json_token.specs.Decoded.{decoded}
use Rattle.facet_json_token.specs.Cut.{Cut, nothing_left, token, fault, cut, cut_here}
use Rattle.facet_json_token.specs.Gap.{plain}
use Rattle.facet_json_token.specs.Token.{Fault, Kind, Token, string, number}
use Rattle.facet_json_token.specs.Tokens.{Tokens, ended, next}
use Rattle.facet_json_token.specs.TokenList.{tokens_from}
use Rattle.facet_json_token.proofs.CutBounds.{KindFits, cut-token_fits}
use Rattle.facet_json_token.proofs.FirstBytes.{cut_here-something}
use Rattle.facet_json_token.proofs.TokensSteps.{by_first, tokens_by_first, tokens_from-others, cut-end}
use Rattle.facet_json_token.specs.Strict.{wrong_at, strict_fault_of}
use Rattle.facet_json_token.specs.RfcNumberTest.{is_rfc_number}
use Rattle.facet_json_grammar.proofs.WalkComes.{Fits}
use Rattle.facet_json_grammar.specs.Language.{Rules, lenient_rules, strict_rules}
use Rattle.facet_json_grammar.proofs.Spelling.TokenSuffixes.{IsSuffix, all, later, Spells-suffix}
use Rattle.facet_json_grammar.specs.Document.{Reads, IsWholeDocument}
use Rattle.facet_json_grammar.specs.Meaning.{meaning_of, tree_of_number}
use Rattle.facet_json_grammar.specs.Node.{Node}
use Rattle.facet_json_grammar.specs.Tree.{Tree, text}
use Rattle.facet_json_grammar.proofs.Cuts.CutsBefore.{cut_here-moved}
use Rattle.facet_json_grammar.proofs.Cuts.MovedTokens.{moved_kind, moved, onto, moved_node, moved-stop, spells-moved, MeanTheSame, tree-moved}
use Rattle.facet_json_grammar.specs.RfcText.{AreSpaces}
use Rattle.facet_json_grammar.proofs.Scalars.OneToken.{ends_number}
use Rattle.facet_json_grammar.proofs.Values.StrictMoved.{StayRight, value-commas, strict-moved}
use Rattle.facet_json_grammar.proofs.Values.OneValue.{IsLeft, IsLeft-past, IsLeft-as, cut-blank, tokens_from-blank, cut-no_gap, IsOneValue}

-- ---- the bytes of a token

-- The same bytes stand n bytes later.
pub slice-moved : (buffer raw after : List ℕ) (n start finish : ℕ) → IsLeft buffer n (raw ++ after) → start ≤ finish →
    finish ≤ length raw → slice_range buffer (n + start) (n + finish) ≡ slice_range raw start finish
slice-moved buffer raw after n start finish left le within =
    let size : n + finish - (n + start) ≡ finish - start = omega arith in
    let rest : drop (n + start) buffer ≡ drop start raw ++ after =
    sym (drop-drop start n buffer) ∙ ap (drop start) left.here ∙ drop-append-le start raw after (omega arith) in
    ap₂ take size rest
    ∙ take-append-le (finish - start) (drop start raw) after (omega (arith, length-drop start raw))

-- A token means n bytes later what it means in the text.
meaning-moved : (buffer raw after : List ℕ) (n : ℕ) (span : Span) (kind : Kind) → IsLeft buffer n (raw ++ after) →
    stop span ≤ length raw → KindFits raw span kind →
    meaning_of buffer (moved_kind n kind) ≡ meaning_of raw kind
meaning-moved buffer raw after n span (string start finish has_escapes) left within fits =
    ap (λ l. option_map text (decoded l))
    (slice-moved buffer raw after n start finish left fits.ordered (omega (arith, fits.within)))
meaning-moved buffer raw after n span (number start finish hint) left within fits =
    ap (λ l. option_map tree_of_number (numbers.number l hint))
    (slice-moved buffer raw after n start finish left (omega (arith, fits.starts, fits.finishes)) (omega (arith, fits.finishes)))
meaning-moved buffer raw after n span kind left within fits = refl

-- Without a fault nothing is wrong.
no_fault-none : {A B : Type 0} (f : A → B) (o : Option A) → option_map f o ≡ None → o ≡ None
no_fault-none f None e = refl
no_fault-none f (Some a) e = cc

no_fault-true : (b : Bool) (f : Fault) → cond b None (Some f) ≡ None → b ≡ true
no_fault-true true f e = refl
no_fault-true false f e = cc

-- A token that RFC 8259 has in the text it has n bytes later.
right-moved : (buffer raw after : List ℕ) (n : ℕ) (t u : Token) (kind : Kind) → IsLeft buffer n (raw ++ after) →
    stop t.span ≤ length raw → KindFits raw t.span kind → strict_fault_of raw t kind ≡ None →
    strict_fault_of buffer u (moved_kind n kind) ≡ None
right-moved buffer raw after n t u (string start finish has_escapes) left within fits right =
    let same = slice-moved buffer raw after n start finish left fits.ordered (omega (arith, fits.within)) in
    let none : wrong_at false (slice_range raw start finish) ≡ None = no_fault-none _ (wrong_at false (slice_range raw start finish)) right in
    rw (same, none) refl
right-moved buffer raw after n t u (number start finish hint) left within fits right =
    let same = slice-moved buffer raw after n start finish left (omega (arith, fits.starts, fits.finishes)) (omega (arith, fits.finishes)) in
    let is : is_rfc_number (slice_range raw start finish) ≡ true = no_fault-true (is_rfc_number (slice_range raw start finish)) _ right in
    rw (same, is) refl
right-moved buffer raw after n t u kind left within fits right = refl

-- ---- what is cut at an offset of the text

-- The bytes are white space up to the end, or up to another byte.
data BlankUpTo : List ℕ → Type 0 where
  the_end : (blank : List ℕ) → AreSpaces blank → BlankUpTo (blank ++ [])
  a_byte : (blank : List ℕ) (b : ℕ) (rest : List ℕ) → AreSpaces blank → is_space b ≡ false → BlankUpTo (blank ++ b ∷ rest)

-- White space before them is no matter.
one_more_space : (b : ℕ) (bytes : List ℕ) → is_space b ≡ true → BlankUpTo bytes → BlankUpTo (b ∷ bytes)
one_more_space b _ s (the_end blank e) = the_end (b ∷ blank) (and_from (is_space b) _ s e)
one_more_space b _ s (a_byte blank c rest e other) = a_byte (b ∷ blank) c rest (and_from (is_space b) _ s e) other

blank_up_to : (bytes : List ℕ) → BlankUpTo bytes
blank_up_to [] = the_end [] refl
blank_up_to (b ∷ bytes) = elim (cases_Bool (is_space b)) [
  | inl s ↦ one_more_space b bytes s (blank_up_to bytes)
  | inr other ↦ a_byte [] b bytes refl other
]

-- Where a byte stands that is no white space, something is cut.
something-cut : (raw : List ℕ) (at b : ℕ) (rest : List ℕ) → IsLeft raw at (b ∷ rest) →
    cut_here plain at (b ∷ rest) ≡ nothing_left → ⊥
something-cut raw at b rest left e =
    let some : at < length raw = omega (arith, length-drop at raw, ap length left.here, left.within) in
    cut_here-something plain raw at (get_or raw at 0) (slice_get-get_or raw at 0 some) (ap (cut_here plain at) left.here ∙ e)

-- What is left of the text, with what follows it, is left of the buffer.
left-within : (buffer raw after bytes : List ℕ) (from at : ℕ) → IsLeft buffer from (raw ++ after) → IsLeft raw at bytes →
    IsLeft buffer (from + at) (bytes ++ after)
left-within buffer raw after bytes from at left inside = record {
  within = omega (arith, length-drop from buffer, ap length left.here, length-append raw after, left.within, inside.within);
  here = sym (drop-drop at from buffer) ∙ ap (drop at) left.here ∙ drop-append-le at raw after inside.within
      ∙ ap (λ l. l ++ after) inside.here;
}

-- A token that is cut of the text is cut of the buffer, moved.
token-moved : (buffer raw after bytes : List ℕ) (from at : ℕ) (t : Token) → IsLeft buffer from (raw ++ after) →
    ends_number after ≡ true → IsLeft raw at bytes → BlankUpTo bytes → cut raw at plain ≡ token t →
    cut buffer (from + at) plain ≡ token (moved from t)
token-moved buffer raw after _ from at t left ends inside (the_end blank e) is =
    let there = IsLeft-past blank [] inside in
    let none : cut raw at plain ≡ nothing_left =
    cut-blank raw at blank [] e inside
    ∙ cut-end raw (at + length blank) plain (omega (arith, length-drop (at + length blank) raw, ap length there.here)) in
    cc
token-moved buffer raw after _ from at t left ends inside (a_byte blank b rest e other) is =
    let there = IsLeft-past blank (b ∷ rest) inside in
    let whole : IsLeft buffer (from + at) (blank ++ b ∷ (rest ++ after)) =
    IsLeft-as (append_assoc blank (b ∷ rest) after) (left-within buffer raw after (blank ++ b ∷ rest) from at left inside) in
    let past : from + at + length blank ≡ from + (at + length blank) = omega arith in
    let here : cut_here plain (at + length blank) (b ∷ rest) ≡ token t =
    sym (cut-blank raw at blank (b ∷ rest) e inside ∙ cut-no_gap raw (at + length blank) (b ∷ rest) (rw other refl) there) ∙ is in
    cut-blank buffer (from + at) blank (b ∷ (rest ++ after)) e whole
    ∙ cut-no_gap buffer (from + at + length blank) (b ∷ (rest ++ after)) (rw other refl) (IsLeft-past blank (b ∷ (rest ++ after)) whole)
    ∙ ap (λ p. cut_here plain p (b ∷ (rest ++ after))) past
    ∙ cut_here-moved from (at + length blank) b rest after t ends here

-- Where nothing is left of the text, the tokens of the buffer go on after it.
end-moved : (buffer raw after bytes : List ℕ) (from at : ℕ) → IsLeft buffer from (raw ++ after) → IsLeft raw at bytes →
    BlankUpTo bytes → cut raw at plain ≡ nothing_left →
    tokens_from buffer plain (from + at) ≡ tokens_from buffer plain (from + length raw)
end-moved buffer raw after _ from at left inside (the_end blank e) is =
    let there = IsLeft-past blank [] inside in
    let whole : IsLeft buffer (from + at) (blank ++ after) =
    IsLeft-as (append_assoc blank [] after) (left-within buffer raw after (blank ++ []) from at left inside) in
    let to : from + at + length blank ≡ from + length raw =
    omega (arith, length-drop (at + length blank) raw, ap length there.here, there.within) in
    tokens_from-blank buffer (from + at) blank after e whole ∙ ap (tokens_from buffer plain) to
end-moved buffer raw after _ from at left inside (a_byte blank b rest e other) is =
    let there = IsLeft-past blank (b ∷ rest) inside in
    absurd (something-cut raw (at + length blank) b rest there
    (sym (cut-blank raw at blank (b ∷ rest) e inside ∙ cut-no_gap raw (at + length blank) (b ∷ rest) (rw other refl) there) ∙ is))

-- ---- all tokens

-- Where no token stands first, nothing is left.
first-ended : (buffer : List ℕ) (c : Cut) → by_first buffer plain c ≡ ended → c ≡ nothing_left
first-ended buffer nothing_left e = refl
first-ended buffer (token t) e = cc
first-ended buffer (fault f) e = cc

-- The first token is the one that is cut.
pub first-token : (buffer : List ℕ) (c : Cut) (t : Token) (others : Tokens) → by_first buffer plain c ≡ next t others → c ≡ token t
first-token buffer nothing_left t others e = cc
first-token buffer (token u) t others e = cc
first-token buffer (fault f) t others e = cc

-- The tokens of a text up to its end stand in the buffer, moved, and those that follow it come after them; they mean the same, and RFC 8259
-- has them where it has those of the text.
record AreMoved (buffer raw : List ℕ) (from at : ℕ) (ts : Tokens) : Type 0 where
  tokens : tokens_from buffer plain (from + at) ≡ onto from (tokens_from buffer plain (from + length raw)) ts
  mean : MeanTheSame buffer raw from ts
  right : StayRight buffer raw from ts

tokens-moved : (buffer raw after : List ℕ) (from : ℕ) → IsLeft buffer from (raw ++ after) → ends_number after ≡ true →
    (ts : Tokens) (at : ℕ) → at ≤ length raw → IsSuffix ts ended → tokens_from raw plain at ≡ ts →
    AreMoved buffer raw from at ts
tokens-moved buffer raw after from left ends _ at h (all _) same =
    let inside : IsLeft raw at (drop at raw) = record { within = h; here = refl } in
    let is = first-ended raw (cut raw at plain) (sym (tokens_by_first raw plain at (cut raw at plain) refl) ∙ same) in
    record { tokens = end-moved buffer raw after (drop at raw) from at left inside (blank_up_to (drop at raw)) is; mean = tt; right = tt }
tokens-moved buffer raw after from left ends _ at h (later t ts _ s) same =
    let inside : IsLeft raw at (drop at raw) = record { within = h; here = refl } in
    let is = first-token raw (cut raw at plain) t ts (sym (tokens_by_first raw plain at (cut raw at plain) refl) ∙ same) in
    let fits = cut-token_fits raw at plain t h is in
    let others = tokens-moved buffer raw after from left ends ts (stop t.span) fits.within s (tokens_from-others raw plain at t ts same) in
    let first = token-moved buffer raw after (drop at raw) from at t left ends inside (blank_up_to (drop at raw)) is in
    record {
      tokens =
          tokens_by_first buffer plain (from + at) (token (moved from t)) first
          ∙ ap (λ p. next (moved from t) (tokens_from buffer plain p)) (moved-stop from t)
          ∙ ap (next (moved from t)) others.tokens;
      mean = (meaning-moved buffer raw after from t.span t.kind left fits.within fits.kind_fits, others.mean);
      right = (right-moved buffer raw after from t (moved from t) t.kind left fits.within fits.kind_fits, others.right);
    }

-- So do those of a whole document.
document_tokens-moved : (raw : List ℕ) (root : Node) (value : Tree) → IsWholeDocument raw root value → (buffer : List ℕ) (from : ℕ)
    (after : List ℕ) → IsLeft buffer from (raw ++ after) → ends_number after ≡ true → AreMoved buffer raw from 0 (tokens_from raw plain 0)
document_tokens-moved raw root value d buffer from after left ends =
    let ts = tokens_from raw plain 0 in
    tokens-moved buffer raw after from left ends ts 0 (omega arith) (Spells-suffix ts root ended d.reads.spells) refl

-- From its start on they stand, and after them those that follow it.
moved-start : (buffer raw : List ℕ) (from : ℕ) → AreMoved buffer raw from 0 (tokens_from raw plain 0) →
    onto from (tokens_from buffer plain (from + length raw)) (tokens_from raw plain 0) ≡ tokens_from buffer plain from
moved-start buffer raw from all_moved =
    let start : from + 0 ≡ from = omega arith in sym all_moved.tokens ∙ ap (tokens_from buffer plain) start

-- The node of a whole document is spelled wherever the document stands, moved.
pub document-moved : (raw : List ℕ) (root : Node) (value : Tree) → IsWholeDocument raw root value → (buffer : List ℕ) (from : ℕ)
    (after : List ℕ) → IsLeft buffer from (raw ++ after) → ends_number after ≡ true →
    Reads buffer (tokens_from buffer plain from) (moved_node from root) value (tokens_from buffer plain (from + length raw))
document-moved raw root value d buffer from after left ends =
    let ts = tokens_from raw plain 0 in
    let all_moved = document_tokens-moved raw root value d buffer from after left ends in
    let spells = spells-moved from (tokens_from buffer plain (from + length raw)) ts root ended d.reads.spells in
    record {
      spells = rw (moved-start buffer raw from all_moved) at spells;
      has_tree = (tree-moved buffer raw from ts root ended d.reads.spells all_moved.mean).0 ∙ d.reads.has_tree;
    }

-- Its tokens may stand there as they do, where those that follow it may.
document-fits : (by : Rules) (raw : List ℕ) (root : Node) (value : Tree) → IsWholeDocument raw root value → Fits by raw (tokens_from raw plain 0) →
    (buffer : List ℕ) (from : ℕ) (after : List ℕ) → IsLeft buffer from (raw ++ after) → ends_number after ≡ true →
    Fits by buffer (tokens_from buffer plain (from + length raw)) → Fits by buffer (tokens_from buffer plain from)
document-fits lenient_rules raw root value d own buffer from after left ends f = tt
document-fits strict_rules raw root value d own buffer from after left ends f =
    let all_moved = document_tokens-moved raw root value d buffer from after left ends in
    let there = strict-moved buffer raw from (tokens_from buffer plain (from + length raw)) own (value-commas d.reads.spells tt) all_moved.right f in
    rw (moved-start buffer raw from all_moved) at there

-- A whole document is read as its value wherever it stands.
pub document-one_value : (by : Rules) (raw : List ℕ) (root : Node) (value : Tree) → IsWholeDocument raw root value →
    Fits by raw (tokens_from raw plain 0) → IsOneValue by raw value
document-one_value by raw root value d own buffer from after left ends = record {
  root = moved_node from root;
  reads = document-moved raw root value d buffer from after left ends;
  fits = document-fits by raw root value d own buffer from after left ends;
}
