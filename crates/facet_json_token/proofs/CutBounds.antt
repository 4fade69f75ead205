-- Where what is cut stands: after the position, within the buffer. What a string and a number say of their bytes.
use Rattle.std.proofs.Common.{◌≡◌, ℕ, suc, ◌+◌, ◌-◌, ◌≤◌, ◌<◌, Bool, true, false, ◌==◌, List, [], ◌∷◌, length, take, drop, Option, Some, None, refl, sym, ap, ◌∙◌, subst, arith, length-drop}
use Rattle.std.specs.Prelude.{slice_get, slice_range}
use Rattle.std.specs.List.{list_any}
use Rattle.std.proofs.lemmas.Bool.{cond_both, eqb-true}
use Rattle.std.proofs.lemmas.List.{drop-drop}
use Rattle.std.proofs.lemmas.Option.{slice_get_within}
use Rattle.facet_format.specs.Bytes.{backslash, star}
use Rattle.facet_json_token.specs.Gap.{Mode, plain, jsonc, whole}
use Rattle.facet_format.specs.Number.{Hint}
use Rattle.facet_format.specs.NumberParts.{parts, parts_len, parts_hint, is_bare, starts_number, is_number}
use Rattle.facet_format.specs.Span.{Span, stop, span_at}
use Rattle.facet_json_token.specs.Token.{Kind, string, number, Token, Fault, unexpected_eof, unexpected_char, in_literal}
use Rattle.facet_json_token.specs.Cut.{Cut, nothing_left, token, fault, Start, start_of, token_at, fault_at, common_len, cut_word, content_len, cut_text, cut_bare_minus, cut_number, cut_slash, cut_by, cut_here, past_gap, cut}
use Rattle.facet_json_token.specs.Shape.{IsStructural, object_starts, IsLiteral, null_stands}
use Rattle.facet_json_token.proofs.Starts.{Begins, a_mark, a_word, a_text, a_number, a_comment, no_token, start_of-begins}
use Rattle.facet_json_token.proofs.TextShapes.{Below, content_len-below}
use Rattle.facet_json_token.proofs.Gaps.{gap_len-bound}
use Rattle.facet_format.proofs.NumberPrefixes.{cond_bound, parts_len-bound, is_bare-some, is_number-front}

-- ---- what is shown

-- A string's content stands between its quotes, within the buffer, and the mark says whether a backslash is in it.
pub record StringFits (buffer : List ℕ) (span : Span) (start finish : ℕ) (has_escapes : Bool) : Type 0 where
  pub starts : start ≡ suc span.offset
  pub finishes : suc finish ≡ stop span
  pub ordered : start ≤ finish
  pub within : finish < length buffer
  pub escapes : has_escapes ≡ list_any (λ b. b == backslash) (slice_range buffer start finish)

-- A number stands where its token stands, and its bytes are a number with that hint.
pub record NumberFits (buffer : List ℕ) (span : Span) (start finish : ℕ) (hint : Hint) : Type 0 where
  pub starts : start ≡ span.offset
  pub finishes : finish ≡ stop span
  pub is_a_number : is_number (slice_range buffer start finish) hint ≡ true

-- The kind of a token that takes this span says the truth of the buffer.
abbrev pub KindFits : List ℕ → Span → Kind → Type 0
KindFits buffer span (string start finish has_escapes) = StringFits buffer span start finish has_escapes
KindFits buffer span (number start finish hint) = NumberFits buffer span start finish hint
KindFits buffer span _ = Unit {0}

-- A token stands at or after the position, has bytes, ends within the buffer, and its kind says the truth.
pub record TokenFits (buffer : List ℕ) (position : ℕ) (t : Token) : Type 0 where
  pub behind : position ≤ t.span.offset
  pub some : t.span.offset < stop t.span
  pub within : stop t.span ≤ length buffer
  pub kind_fits : KindFits buffer t.span t.kind

-- A fault stands at or after the position, and ends within the buffer.
pub record FaultFits (buffer : List ℕ) (position : ℕ) (f : Fault) : Type 0 where
  pub behind : position ≤ f.span.offset
  pub within : f.span.offset + f.span.len ≤ length buffer

-- What is cut at a position fits there.
abbrev pub CutFits : List ℕ → ℕ → Cut → Type 0
CutFits buffer position nothing_left = Unit {0}
CutFits buffer position (token t) = TokenFits buffer position t
CutFits buffer position (fault f) = FaultFits buffer position f

-- ---- lengths

-- No longer prefix of the bytes than all of them is a prefix of a word.
pub common_len-bound : (word bytes : List ℕ) → common_len word bytes ≤ length bytes
common_len-bound [] bytes = omega arith
common_len-bound (w ∷ word) [] = omega arith
common_len-bound (w ∷ word) (b ∷ bytes) = cond_bound (b == w) _ _ (common_len-bound word bytes)

-- ---- bytes of the buffer

-- The next n bytes at a place.
pub slice_at : (buffer bytes : List ℕ) (at n : ℕ) → drop at buffer ≡ bytes →
    slice_range buffer at (at + n) ≡ take n bytes
slice_at buffer bytes at n e =
    let m : at + n - at ≡ n = omega arith in ap (λ k. take k (drop at buffer)) m ∙ ap (take n) e

-- What stands after one more byte.
pub drop_next : (buffer bytes : List ℕ) (at b : ℕ) → drop at buffer ≡ b ∷ bytes → drop (suc at) buffer ≡ bytes
drop_next buffer bytes at b e =
    let m : suc at ≡ at + 1 = omega arith in
    ap (λ k. drop k buffer) m ∙ sym (drop-drop 1 at buffer) ∙ ap (drop 1) e

-- ---- what is cut where a token should begin

-- a kind that says nothing of the bytes
abbrev IsBareKind : Kind → Type 0
IsBareKind (string start finish has_escapes) = ⊥
IsBareKind (number start finish hint) = ⊥
IsBareKind _ = Unit {0}

-- A kind that says nothing of the bytes fits.
bare_fits : (buffer : List ℕ) (span : Span) (kind : Kind) → IsBareKind kind → KindFits buffer span kind
bare_fits buffer span (string start finish has_escapes) h = absurd h
bare_fits buffer span (number start finish hint) h = absurd h
bare_fits buffer span _ h = tt

-- A token whose kind says nothing of its bytes.
bare_token_fits : (buffer : List ℕ) (at n : ℕ) (kind : Kind) → IsBareKind kind → 0 < n → at + n ≤ length buffer →
    CutFits buffer at (token_at kind at n)
bare_token_fits buffer at n kind h some room =
    record {
      behind = omega arith;
      some = omega arith;
      within = omega arith;
      kind_fits = bare_fits buffer (span_at at n) kind h;
    }

-- A word that breaks off is a fault within the bytes.
broken_fits : (buffer bytes : List ℕ) (at n : ℕ) (found : Option ℕ) → slice_get bytes n ≡ found → n ≤ length bytes →
    at + length bytes ≡ length buffer →
    CutFits buffer at (elim found
    [ None ↦ fault_at (unexpected_eof in_literal) at n | Some b ↦ fault_at (unexpected_char b) (at + n) 1 ])
broken_fits buffer bytes at n None e h room = record { behind = omega arith; within = omega arith }
broken_fits buffer bytes at n (Some b) e h room =
    record { behind = omega arith; within = omega (arith, slice_get_within bytes n b e) }

-- A word, or where it breaks off, fits.
word_fits : (buffer bytes word : List ℕ) (at n : ℕ) (kind : Kind) → IsBareKind kind → 0 < length word →
    n ≤ length bytes → at + length bytes ≡ length buffer →
    CutFits buffer at (cut_word at bytes word kind n)
word_fits buffer bytes word at n kind bare some h room =
    cond_both (n == length word) _ _ (CutFits buffer at)
    (λ e. bare_token_fits buffer at n kind bare (omega (arith, eqb-true n (length word) e)) (omega arith))
    (λ e. broken_fits buffer bytes at n (slice_get bytes n) refl h room)

-- A string, or a string that does not end, fits.
text_fits : (buffer bytes : List ℕ) (at b : ℕ) (o : Option ℕ) → Below o (length bytes) → drop at buffer ≡ b ∷ bytes →
    at + suc (length bytes) ≡ length buffer →
    CutFits buffer at (cut_text at bytes o)
text_fits buffer bytes at b None below here room = record { behind = omega arith; within = omega arith }
text_fits buffer bytes at b (Some n) below here room = record {
  behind = omega arith;
  some = omega arith;
  within = omega arith;
  kind_fits = record {
    starts = refl;
    finishes = omega arith;
    ordered = omega arith;
    within = omega arith;
    escapes =
        sym (ap (list_any (λ b. b == backslash)) (slice_at buffer bytes (suc at) n (drop_next buffer bytes at b here)));
  };
}

-- A minus without a number fits.
bare_minus_fits : (buffer bytes : List ℕ) (at : ℕ) → at + suc (length bytes) ≡ length buffer →
    CutFits buffer at (cut_bare_minus at bytes)
bare_minus_fits buffer [] at room = record { behind = omega arith; within = omega arith }
bare_minus_fits buffer (b ∷ bytes) at room = record { behind = omega arith; within = omega arith }

-- A number, or a minus alone, fits.
number_fits : (buffer bytes : List ℕ) (at b : ℕ) (bare : Bool) → is_bare (parts (b ∷ bytes)) ≡ bare →
    starts_number b ≡ true →
    drop at buffer ≡ b ∷ bytes → at + suc (length bytes) ≡ length buffer →
    CutFits buffer at (cut_number at bytes (parts_len (parts (b ∷ bytes))) (parts_hint (parts (b ∷ bytes))) bare)
number_fits buffer bytes at b true e starts here room = bare_minus_fits buffer bytes at room
number_fits buffer bytes at b false e starts here room =
    let p = parts (b ∷ bytes) in
    let n = parts_len p in
    let some : 0 < n = is_bare-some p e in
    let bound : n ≤ suc (length bytes) = parts_len-bound (b ∷ bytes) in
    record {
      behind = omega arith;
      some = omega arith;
      within = omega arith;
      kind_fits = record {
        starts = refl;
        finishes = refl;
        is_a_number =
            ap (λ text. is_number text (parts_hint p)) (slice_at buffer (b ∷ bytes) at n here)
            ∙ is_number-front (b ∷ bytes) starts e;
      };
    }

-- A slash where no closed comment stands fits.
slash_fits : (mode : Mode) (buffer bytes : List ℕ) (at : ℕ) → at + suc (length bytes) ≡ length buffer →
    CutFits buffer at (cut_slash mode at bytes)
slash_fits plain buffer bytes at room = record { behind = omega arith; within = omega arith }
slash_fits jsonc buffer [] at room = record { behind = omega arith; within = omega arith }
slash_fits jsonc buffer (b ∷ bytes) at room =
    cond_both (b == star) _ _ (CutFits buffer at) (λ e. record { behind = omega arith; within = omega arith })
    (λ e. record { behind = omega arith; within = omega arith })

-- Brackets, colon and comma say nothing of the bytes.
structural_is_bare : (b : ℕ) (kind : Kind) → IsStructural b kind → IsBareKind kind
structural_is_bare _ _ object_starts = tt
structural_is_bare _ _ _ = tt

-- Literals say nothing of the bytes.
literal_is_bare : (word : List ℕ) (kind : Kind) → IsLiteral word kind → IsBareKind kind
literal_is_bare _ _ null_stands = tt
literal_is_bare _ _ _ = tt

-- What is cut by its first byte fits.
by_fits : (mode : Mode) (buffer bytes : List ℕ) (at b : ℕ) (start : Start) → Begins b start →
    drop at buffer ≡ b ∷ bytes → at + suc (length bytes) ≡ length buffer →
    CutFits buffer at (cut_by start mode at b bytes)
by_fits mode buffer bytes at b _ (a_mark _ kind h) here room =
    bare_token_fits buffer at 1 kind (structural_is_bare b kind h) (omega arith) (omega arith)
by_fits mode buffer bytes at b _ (a_word _ letters kind h) here room =
    word_fits buffer (b ∷ bytes) (b ∷ letters) at (common_len (b ∷ letters) (b ∷ bytes)) kind
    (literal_is_bare _ kind h) (omega arith) (common_len-bound (b ∷ letters) (b ∷ bytes)) room
by_fits mode buffer bytes at b _ a_text here room =
    text_fits buffer bytes at b (content_len false bytes) (content_len-below false bytes) here room
by_fits mode buffer bytes at b _ (a_number _ h) here room =
    number_fits buffer bytes at b (is_bare (parts (b ∷ bytes))) refl h here room
by_fits mode buffer bytes at b _ a_comment here room = slash_fits mode buffer bytes at room
by_fits mode buffer bytes at b _ (no_token _ h) here room = record { behind = omega arith; within = omega arith }

-- What is cut where no gap is before it fits.
pub here_fits : (mode : Mode) (buffer bytes : List ℕ) (at : ℕ) → drop at buffer ≡ bytes →
    at + length bytes ≡ length buffer → CutFits buffer at (cut_here mode at bytes)
unfolding cut_here
here_fits mode buffer [] at here room = tt
here_fits mode buffer (b ∷ bytes) at here room =
    by_fits mode buffer bytes at b (start_of b) (start_of-begins b) here room

-- ---- what is cut at a position

-- The gap ends within the buffer.
pub past_gap-bound : (buffer : List ℕ) (position : ℕ) (mode : Mode) → position ≤ length buffer →
    past_gap buffer position mode ≤ length buffer
past_gap-bound buffer position mode h =
    omega (arith, gap_len-bound mode whole (drop position buffer), length-drop position buffer)

-- What fits at a place fits at an earlier position.
earlier : (buffer : List ℕ) (position at : ℕ) (c : Cut) → position ≤ at → CutFits buffer at c →
    CutFits buffer position c
earlier buffer position at nothing_left h fits = tt
earlier buffer position at (token t) h fits =
    record { behind = omega arith; some = fits.some; within = fits.within; kind_fits = fits.kind_fits }
earlier buffer position at (fault f) h fits = record { behind = omega arith; within = fits.within }

-- What is cut stands after the position and within the buffer.
pub cut-fits : (buffer : List ℕ) (position : ℕ) (mode : Mode) → position ≤ length buffer →
    CutFits buffer position (cut buffer position mode)
unfolding cut
cut-fits buffer position mode h =
    let at = past_gap buffer position mode in
    let room : at + length (drop at buffer) ≡ length buffer =
    omega (arith, past_gap-bound buffer position mode h, length-drop at buffer) in
    earlier buffer position at _ (omega arith) (here_fits mode buffer (drop at buffer) at refl room)

-- Where the token stands that is cut.
pub cut-token_fits : (buffer : List ℕ) (position : ℕ) (mode : Mode) (t : Token) → position ≤ length buffer →
    cut buffer position mode ≡ token t → TokenFits buffer position t
cut-token_fits buffer position mode t h e = subst (CutFits buffer position) e (cut-fits buffer position mode h)
