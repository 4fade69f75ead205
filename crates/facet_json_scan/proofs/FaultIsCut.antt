-- A fault is cut exactly where its relation holds, so at one place stands at most one.
use Rattle.std.proofs.Common.{◌≡◌, ◌≢◌, ℕ, zero, suc, ◌+◌, ◌≤◌, ◌<◌, Bool, true, false, cond, ◌==◌, List, [], ◌∷◌, ◌++◌, length, take, drop, Option, Some, None, slice_get, refl, sym, ap, ◌∙◌, subst, arith, length-append}
use Rattle.std.proofs.lemmas.Bool.{cond_both, eqb-true, eqb-false, eq-eqb, ne_eqb}
use Rattle.std.proofs.lemmas.List.{take-append-drop}
use Rattle.facet_format.specs.Bytes.{is_space, quote, backslash, slash, star, minus}
use Rattle.facet_format.specs.NumberParts.{Parts, parts, parts_len, parts_hint, is_bare, starts_number}
use Rattle.facet_format.specs.Span.{Span, span_at}
use Rattle.facet_json_token.specs.Gap.{Mode, plain, jsonc, whole}
use Rattle.facet_json_token.specs.GapLen.{with_line_mark, through_line_end, piece_len}
use Rattle.facet_json_token.specs.Token.{Kind, FaultKind, Fault, unexpected_char, unexpected_eof, in_string, in_literal, in_block_comment}
use Rattle.facet_json_token.specs.Cut.{Cut, nothing_left, token, fault, Start, opens_nothing, start_of, token_at, fault_at, common_len, cut_word, content_len, cut_text, cut_number, cut_slash, cut_by, cut_here, past_gap, cut}
use Rattle.facet_json_token.specs.Shape.{IsLiteral}
use Rattle.facet_json_token.specs.Faults.{BeginsToken, BeginsNoNumber, IsFault}
use Rattle.facet_json_token.specs.Laws.{FaultIsCut, FaultIsUnique}
use Rattle.facet_format.proofs.NumberLaws.{number_is_longest, parts_len-some}
use Rattle.facet_json_token.proofs.CutBounds.{common_len-bound}
use Rattle.facet_json_token.proofs.Gaps.{piece_len-blank, past_gap-ends}
use Rattle.facet_json_token.proofs.ShapesCut.{bare_behind, cut_here-shape, cut_here-text}
use Rattle.facet_json_token.proofs.Starts.{Begins, a_mark, a_word, a_text, a_number, a_comment, no_token, start_of-begins, start_of-structural, start_of-number}
use Rattle.facet_json_scan.proofs.Pieces.Beginnings.{literal_starts, pieces_go_on, pieces_go_on_escaped}
use Rattle.facet_json_scan.proofs.Growth.GrowthOfGap.{opens_block, with_mark-none}
use Rattle.facet_json_scan.proofs.Growth.GrowthOfText.{IsUnended, content_len-none}
use Rattle.facet_json_scan.proofs.Pieces.PendingWord.{common_len-prefix, prefix_of_word}

-- ---- what is wrong is cut

-- A byte that begins neither a token nor a comment begins nothing.
begins_nothing : (b : ℕ) (start : Start) → Begins b start → (BeginsToken b → ⊥) → b ≢ slash → start ≡ opens_nothing
begins_nothing b _ (a_mark _ kind h) never no_slash = absurd (never (BeginsToken.mark b kind h))
begins_nothing b _ (a_word _ letters kind h) never no_slash = absurd (never (BeginsToken.letter b letters kind h))
begins_nothing _ _ a_text never no_slash = absurd (never BeginsToken.string)
begins_nothing b _ (a_number _ h) never no_slash = absurd (never (BeginsToken.number b h))
begins_nothing _ _ a_comment never no_slash = absurd (no_slash refl)
begins_nothing b _ (no_token _ h) never no_slash = refl

-- Up to a letter that differs the bytes share the word's letters.
common_len-differs : (same others rest : List ℕ) (wanted b : ℕ) → b ≢ wanted →
    common_len (same ++ wanted ∷ others) (same ++ b ∷ rest) ≡ length same
common_len-differs [] others rest wanted b apart = rw (ne_eqb b wanted apart) refl
common_len-differs (c ∷ same) others rest wanted b apart =
    ap (λ t. cond t (suc (common_len (same ++ wanted ∷ others) (same ++ b ∷ rest))) 0) (eq-eqb c c refl)
    ∙ ap suc (common_len-differs same others rest wanted b apart)

-- The byte after them.
byte_after : (same rest : List ℕ) (b : ℕ) → slice_get (same ++ b ∷ rest) (length same) ≡ Some b
byte_after [] rest b = refl
byte_after (c ∷ same) rest b = byte_after same rest b

-- After all bytes stands none.
none_after : (bytes : List ℕ) → slice_get bytes (length bytes) ≡ None
none_after [] = refl
none_after (b ∷ bytes) = none_after bytes

-- where a word breaks off, by the byte there
abbrev broken : ℕ → ℕ → Option ℕ → Cut
broken at n None = fault_at (unexpected_eof in_literal) at n
broken at n (Some b) = fault_at (unexpected_char b) (at + n) 1

-- What is cut of a word of which not all letters stand.
cut_word-broken : (at n : ℕ) (bytes word : List ℕ) (kind : Kind) (found : Option ℕ) → n < length word →
    slice_get bytes n ≡ found → cut_word at bytes word kind n ≡ broken at n found
cut_word-broken at n bytes word kind None short e =
    let other : (n == length word) ≡ false = ne_eqb n (length word) (λ s. omega arith) in rw (other, e) refl
cut_word-broken at n bytes word kind (Some b) short e =
    let other : (n == length word) ≡ false = ne_eqb n (length word) (λ s. omega arith) in rw (other, e) refl

-- A word that begins with a letter is cut there.
cut_here-word : (mode : Mode) (at c : ℕ) (bytes word letters : List ℕ) (kind : Kind) → IsLiteral word kind →
    word ≡ c ∷ letters →
    cut_here mode at (c ∷ bytes) ≡ cut_word at (c ∷ bytes) word kind (common_len word (c ∷ bytes))
unfolding cut_here
cut_here-word mode at c bytes word letters kind h is =
    ap (λ s. cut_by s mode at c bytes) (literal_starts c word letters kind h is)

-- A literal that differs is cut as a fault.
differs_here : (mode : Mode) (at : ℕ) (same others rest : List ℕ) (wanted b : ℕ) (kind : Kind) →
    IsLiteral (same ++ wanted ∷ others) kind → same ≢ [] → b ≢ wanted →
    cut_here mode at (same ++ b ∷ rest) ≡ fault_at (unexpected_char b) (at + length same) 1
differs_here mode at [] others rest wanted b kind h some apart = absurd (some refl)
differs_here mode at (c ∷ same) others rest wanted b kind h some apart =
    let word = c ∷ same ++ wanted ∷ others in
    let bytes = c ∷ same ++ b ∷ rest in
    let n = length (c ∷ same) in
    cut_here-word mode at c (same ++ b ∷ rest) word (same ++ wanted ∷ others) kind h refl
    ∙ ap (cut_word at bytes word kind) (common_len-differs (c ∷ same) others rest wanted b apart)
    ∙ cut_word-broken at n bytes word kind (Some b) (omega (arith, length-append (c ∷ same) (wanted ∷ others)))
    (byte_after (c ∷ same) rest b)

-- So is one that the end cuts.
part_here : (mode : Mode) (at : ℕ) (same others : List ℕ) (kind : Kind) → IsLiteral (same ++ others) kind → same ≢ [] →
    others ≢ [] → cut_here mode at same ≡ fault_at (unexpected_eof in_literal) at (length same)
part_here mode at [] others kind h some more = absurd (some refl)
part_here mode at (c ∷ same) [] kind h some more = absurd (more refl)
part_here mode at (c ∷ same) (wanted ∷ others) kind h some more =
    let word = c ∷ same ++ wanted ∷ others in
    let bytes = c ∷ same in
    cut_here-word mode at c same word (same ++ wanted ∷ others) kind h refl
    ∙ ap (cut_word at bytes word kind) (common_len-prefix bytes (wanted ∷ others))
    ∙ cut_word-broken at (length bytes) bytes word kind None (omega (arith, length-append bytes (wanted ∷ others)))
    (none_after bytes)

-- A minus that begins no number is cut as a fault.
minus_here : (mode : Mode) (at b : ℕ) (rest : List ℕ) → BeginsNoNumber (minus ∷ b ∷ rest) →
    cut_here mode at (minus ∷ b ∷ rest) ≡ fault_at (unexpected_char b) at 1
unfolding cut_here start_of
minus_here mode at b rest never = by_bare (is_bare p) refl
  where
    p : Parts
    p = parts (minus ∷ b ∷ rest)

    by_bare : (t : Bool) → is_bare p ≡ t →
        cut_number at (b ∷ rest) (parts_len p) (parts_hint p) t ≡ fault_at (unexpected_char b) at 1
    by_bare true e = refl
    by_bare false e = absurd (never _ _ (number_is_longest (minus ∷ b ∷ rest) refl e).1)

-- A slash before a byte that makes no comment of it is cut as a fault.
slash_here : (at b : ℕ) (rest : List ℕ) → b ≢ star →
    cut_here jsonc at (slash ∷ b ∷ rest) ≡ fault_at (unexpected_char slash) at 1
unfolding cut_here start_of
slash_here at b rest no_star = rw (ne_eqb b star no_star) refl

-- What the relation says is cut.
pub fault_here : (at : ℕ) (mode : Mode) (bytes : List ℕ) (kind : FaultKind) (span : Span) →
    IsFault at mode bytes kind span → cut_here mode at bytes ≡ fault (record { kind = kind; span = span })
unfolding cut_here start_of parts
fault_here at _ _ _ _ (IsFault.other mode b rest never no_slash no_space) =
    ap (λ s. cut_by s mode at b rest) (begins_nothing b (start_of b) (start_of-begins b) never no_slash)
fault_here at _ _ _ _ (IsFault.slash_stands rest) = refl
fault_here at _ _ _ _ (IsFault.slash_before b rest no_star no_slash) = slash_here at b rest no_star
fault_here at _ _ _ _ IsFault.slash_last = refl
fault_here at _ _ _ _ (IsFault.block body h) = refl
fault_here at _ _ _ _ (IsFault.text mode content has_escapes h) =
    cut_here-text mode at content ∙ ap (cut_text at content) (pieces_go_on content has_escapes h)
fault_here at _ _ _ _ (IsFault.escape mode content has_escapes h) =
    cut_here-text mode at (content ++ backslash ∷ [])
    ∙ ap (cut_text at (content ++ backslash ∷ [])) (pieces_go_on_escaped content has_escapes h)
fault_here at _ _ _ _ (IsFault.literal mode same others rest wanted b kind h some apart) =
    differs_here mode at same others rest wanted b kind h some apart
fault_here at _ _ _ _ (IsFault.part mode same others kind h some more) = part_here mode at same others kind h some more
fault_here at _ _ _ _ (IsFault.minus_before mode b rest never) = minus_here mode at b rest never
fault_here at _ _ _ _ (IsFault.minus_last mode) = refl

-- ---- what is cut is wrong

-- A fault that is cut is one by the relation.
abbrev CutFault : ℕ → Mode → List ℕ → Cut → Type 0
CutFault at mode bytes nothing_left = Unit {0}
CutFault at mode bytes (token t) = Unit {0}
CutFault at mode bytes (fault f) = IsFault at mode bytes f.kind f.span

-- Where no byte stands after n, there are no more than n.
no_byte : (bytes : List ℕ) (n : ℕ) → slice_get bytes n ≡ None → length bytes ≤ n
no_byte [] n e = omega arith
no_byte (b ∷ bytes) zero e = cc
no_byte (b ∷ bytes) (suc n) e = omega (arith, no_byte bytes n e)

-- The bytes differ from the word after these letters, so many.
record Differs (word bytes : List ℕ) (b n : ℕ) : Type 0 where
  same : List ℕ
  others : List ℕ
  rest : List ℕ
  wanted : ℕ
  word_is : word ≡ same ++ wanted ∷ others
  bytes_are : bytes ≡ same ++ b ∷ rest
  apart : b ≢ wanted
  long : length same ≡ n

-- The bytes differ from the word where a byte stands after the letters that they share.
word_differs : (word bytes : List ℕ) (b : ℕ) → slice_get bytes (common_len word bytes) ≡ Some b →
    common_len word bytes ≢ length word → Differs word bytes b (common_len word bytes)
word_differs [] bytes b e short = absurd (short refl)
word_differs (w ∷ word) [] b e short = cc
word_differs (w ∷ word) (c ∷ bytes) b e short = by_letter (word_differs word bytes b) (c == w) refl e short
  where
    by_letter : (slice_get bytes (common_len word bytes) ≡ Some b → common_len word bytes ≢ length word →
        Differs word bytes b (common_len word bytes)) → (t : Bool) → (c == w) ≡ t →
        slice_get (c ∷ bytes) (cond t (suc (common_len word bytes)) 0) ≡ Some b →
        cond t (suc (common_len word bytes)) 0 ≢ suc (length word) →
        Differs (w ∷ word) (c ∷ bytes) b (cond t (suc (common_len word bytes)) 0)
    by_letter more true is e short =
        let d = more e (λ s. short (ap suc s)) in
        record {
          same = w ∷ d.same;
          others = d.others;
          rest = d.rest;
          wanted = d.wanted;
          word_is = ap (λ l. w ∷ l) d.word_is;
          bytes_are = ap (λ x. x ∷ bytes) (eqb-true c w is) ∙ ap (λ l. w ∷ l) d.bytes_are;
          apart = d.apart;
          long = ap suc d.long;
        }
    by_letter more false is e short =
        let first : c ≡ b = cc in
        record {
          same = [];
          others = word;
          rest = bytes;
          wanted = w;
          word_is = refl;
          bytes_are = ap (λ x. x ∷ bytes) first;
          apart = λ s. eqb-false c w is (first ∙ s);
          long = refl;
        }

-- A word that breaks off is a fault by the relation.
broken_fault : (mode : Mode) (at c : ℕ) (bytes letters : List ℕ) (kind : Kind) (found : Option ℕ) →
    IsLiteral (c ∷ letters) kind →
    let n = common_len (c ∷ letters) (c ∷ bytes) in
    n ≢ length (c ∷ letters) → slice_get (c ∷ bytes) n ≡ found → CutFault at mode (c ∷ bytes) (broken at n found)
broken_fault mode at c bytes letters kind None h short e =
    let word = c ∷ letters in
    let front = c ∷ bytes in
    let n = common_len word front in
    let all : n ≡ length front = omega (arith, no_byte front n e, common_len-bound word front) in
    let others = drop (length front) word in
    let is : word ≡ front ++ others = prefix_of_word word front all in
    let more : others ≢ [] = λ nil. short (omega (arith, all, ap length is, length-append front others, ap length nil)) in
    subst (λ k. IsFault at mode front (unexpected_eof in_literal) (span_at at k)) (sym all)
    (IsFault.part mode front others kind (subst (λ w. IsLiteral w kind) is h) (λ nil. cc) more)
broken_fault mode at c bytes letters kind (Some b) h short e =
    let word = c ∷ letters in
    let front = c ∷ bytes in
    let n = common_len word front in
    let d = word_differs word front b e short in
    let one : n ≡ suc (common_len letters bytes) =
    ap (λ t. cond t (suc (common_len letters bytes)) 0) (eq-eqb c c refl) in
    let some : d.same ≢ [] = λ nil. omega (arith, one, d.long, ap length nil) in
    let stands : IsFault at mode (d.same ++ b ∷ d.rest) (unexpected_char b) (span_at (at + length d.same) 1) =
    IsFault.literal mode d.same d.others d.rest d.wanted b kind (subst (λ w. IsLiteral w kind) d.word_is h) some d.apart in
    subst (λ l. IsFault at mode l (unexpected_char b) (span_at (at + n) 1)) (sym d.bytes_are)
    (subst (λ k. IsFault at mode (d.same ++ b ∷ d.rest) (unexpected_char b) (span_at (at + k) 1)) d.long stands)

-- So is a word that isn't cut as a token.
word_fault : (mode : Mode) (at c : ℕ) (bytes letters : List ℕ) (kind : Kind) → IsLiteral (c ∷ letters) kind →
    CutFault at mode (c ∷ bytes)
    (cut_word at (c ∷ bytes) (c ∷ letters) kind (common_len (c ∷ letters) (c ∷ bytes)))
word_fault mode at c bytes letters kind h =
    let word = c ∷ letters in
    let n = common_len word (c ∷ bytes) in
    cond_both (n == length word) _ _ (CutFault at mode (c ∷ bytes)) (λ e. tt)
    (λ e. by_found n (slice_get (c ∷ bytes) n)
    (broken_fault mode at c bytes letters kind (slice_get (c ∷ bytes) n) h (eqb-false n (length word) e) refl))
  where
    by_found : (n : ℕ) (found : Option ℕ) → CutFault at mode (c ∷ bytes) (broken at n found) →
        CutFault at mode (c ∷ bytes) (elim found
        [ None ↦ fault_at (unexpected_eof in_literal) at n | Some b ↦ fault_at (unexpected_char b) (at + n) 1 ])
    by_found n None h = h
    by_found n (Some b) h = h

-- So is a string without an end.
unended_fault : (mode : Mode) (at : ℕ) (bytes : List ℕ) → IsUnended bytes →
    IsFault at mode (quote ∷ bytes) (unexpected_eof in_string) (span_at at (suc (length bytes)))
unended_fault mode at bytes (IsUnended.whole _ e pieces) = IsFault.text mode bytes e pieces
unended_fault mode at bytes (IsUnended.escaped content _ e pieces is) = rw is (IsFault.escape mode content e pieces)

-- By its end, if it has one.
text_fault : (mode : Mode) (at : ℕ) (bytes : List ℕ) (o : Option ℕ) → content_len false bytes ≡ o →
    CutFault at mode (quote ∷ bytes) (cut_text at bytes o)
text_fault mode at bytes None e = unended_fault mode at bytes (content_len-none false bytes e)
text_fault mode at bytes (Some n) e = tt

-- Nothing but a minus is a minus.
bare_is_minus : (b : ℕ) (bytes : List ℕ) → starts_number b ≡ true → is_bare (parts (b ∷ bytes)) ≡ true → b ≡ minus
unfolding parts
bare_is_minus b bytes starts bare = by_minus (b == minus) refl
  where
    none : parts_len (parts (b ∷ bytes)) ≡ (parts (b ∷ bytes)).sign
    none = eqb-true (parts_len (parts (b ∷ bytes))) (parts (b ∷ bytes)).sign bare

    by_minus : (t : Bool) → (b == minus) ≡ t → b ≡ minus
    by_minus true e = eqb-true b minus e
    by_minus false e =
        let sign : (parts (b ∷ bytes)).sign ≡ 0 = ap (λ t. cond t 1 0) e in
        absurd (omega (arith, none, sign, parts_len-some (b ∷ bytes) starts))

-- It begins no number.
bare_no_number : (bytes : List ℕ) → is_bare (parts bytes) ≡ true → BeginsNoNumber bytes
bare_no_number bytes bare n hint h =
    let more : is_bare (parts (take n bytes ++ drop n bytes)) ≡ false = bare_behind (take n bytes) (drop n bytes) hint h in
    let same : is_bare (parts (take n bytes ++ drop n bytes)) ≡ true =
    ap (λ l. is_bare (parts l)) (take-append-drop n bytes) ∙ bare in cc

-- A number that isn't cut as a token is a minus that begins none.
number_fault : (mode : Mode) (at b : ℕ) (bytes : List ℕ) (bare : Bool) → starts_number b ≡ true →
    is_bare (parts (b ∷ bytes)) ≡ bare →
    CutFault at mode (b ∷ bytes) (cut_number at bytes (parts_len (parts (b ∷ bytes))) (parts_hint (parts (b ∷ bytes))) bare)
number_fault mode at b [] true starts e = rw (bare_is_minus b [] starts e) (IsFault.minus_last mode)
number_fault mode at b (c ∷ bytes) true starts e =
    let is = bare_is_minus b (c ∷ bytes) starts e in
    rw is (IsFault.minus_before mode c bytes (bare_no_number (minus ∷ c ∷ bytes) (rw is at e)))
number_fault mode at b bytes false starts e = tt

-- A line comment is a piece of a gap.
line_is_piece : (bytes : List ℕ) (o : Option ℕ) → with_line_mark whole bytes o ≡ 0 → ⊥
line_is_piece bytes None e = cc
line_is_piece bytes (Some n) e = cc

-- A slash where no piece of a gap stands is a fault by the relation.
slash_fault : (mode : Mode) (at : ℕ) (bytes : List ℕ) → piece_len mode whole (slash ∷ bytes) ≡ 0 →
    CutFault at mode (slash ∷ bytes) (cut_slash mode at bytes)
slash_fault plain at bytes none = IsFault.slash_stands bytes
slash_fault jsonc at [] none = IsFault.slash_last
slash_fault jsonc at (b ∷ bytes) none =
    cond_both (b == star) _ _ (CutFault at jsonc (slash ∷ b ∷ bytes)) (λ e. at_star (eqb-true b star e))
    (λ e. IsFault.slash_before b bytes (eqb-false b star e) no_line)
  where
    at_star : b ≡ star → CutFault at jsonc (slash ∷ b ∷ bytes)
        (fault_at (unexpected_eof in_block_comment) at (suc (suc (length bytes))))
    at_star is = rw is (IsFault.block bytes (opens_block bytes (with_mark-none _ (rw is at none))))

    no_line : b ≢ slash
    no_line is = line_is_piece bytes (through_line_end bytes) (rw is at none)

-- Where no piece of a gap stands, no white space does.
no_space : (mode : Mode) (b : ℕ) (bytes : List ℕ) → piece_len mode whole (b ∷ bytes) ≡ 0 → is_space b ≡ false
no_space mode b bytes none = by_space (is_space b) refl
  where
    by_space : (t : Bool) → is_space b ≡ t → t ≡ false
    by_space false e = refl
    by_space true e = absurd (omega (arith, none, piece_len-blank mode whole b bytes e))

-- What begins a token begins something.
token_begins : (b : ℕ) → BeginsToken b → start_of b ≢ opens_nothing
unfolding start_of
token_begins _ (BeginsToken.mark b kind h) e = let is = start_of-structural b kind h in cc
token_begins _ (BeginsToken.letter b letters kind h) e = let is = literal_starts b (b ∷ letters) letters kind h refl in cc
token_begins _ BeginsToken.string e = cc
token_begins _ (BeginsToken.number b h) e = let is = start_of-number b h in cc

-- So does a slash.
slash_begins : start_of slash ≢ opens_nothing
unfolding start_of
slash_begins e = cc

-- A fault that is cut by the first byte is one by the relation.
fault_by : (mode : Mode) (at b : ℕ) (bytes : List ℕ) (start : Start) → Begins b start → start_of b ≡ start →
    piece_len mode whole (b ∷ bytes) ≡ 0 → CutFault at mode (b ∷ bytes) (cut_by start mode at b bytes)
fault_by mode at b bytes _ (a_mark _ kind h) is none = tt
fault_by mode at b bytes _ (a_word _ letters kind h) is none = word_fault mode at b bytes letters kind h
fault_by mode at _ bytes _ a_text is none = text_fault mode at bytes (content_len false bytes) refl
fault_by mode at b bytes _ (a_number _ h) is none = number_fault mode at b bytes (is_bare (parts (b ∷ bytes))) h refl
fault_by mode at _ bytes _ a_comment is none = slash_fault mode at bytes none
fault_by mode at b bytes _ (no_token _ h) is none =
    IsFault.other mode b bytes (λ begins. token_begins b begins is)
    (λ e. slash_begins (ap start_of (sym e) ∙ is)) (no_space mode b bytes none)

-- A fault that is cut where no gap is before it is one by the relation.
cut_fault : (mode : Mode) (at : ℕ) (bytes : List ℕ) → piece_len mode whole bytes ≡ 0 →
    CutFault at mode bytes (cut_here mode at bytes)
unfolding cut_here
cut_fault mode at [] none = tt
cut_fault mode at (b ∷ bytes) none = fault_by mode at b bytes (start_of b) (start_of-begins b) refl none

-- ---- the laws

-- A fault is cut exactly where its relation holds of what is left after the gap.
pub fault_is_cut : FaultIsCut
unfolding cut
fault_is_cut buffer position mode kind span =
    let at = past_gap buffer position mode in
    let bytes = drop at buffer in (
      fault_here at mode bytes kind span,
      λ e. subst (CutFault at mode bytes) e (cut_fault mode at bytes (past_gap-ends buffer position mode)),
    )

-- At one place stands at most one fault, and none where a token's shape stands.
pub fault_is_unique : FaultIsUnique
fault_is_unique at mode bytes kind span h = (
  λ other place k.
      let f : Fault = record { kind = kind; span = span } in
      let g : Fault = record { kind = other; span = place } in
      let both : fault f ≡ fault g = sym (fault_here at mode bytes kind span h) ∙ fault_here at mode bytes other place k in
      let same : f ≡ g = cc in
      (ap (λ x. x.kind) same, ap (λ x. x.span) same),
  λ front rest t shape e.
      let cuts : cut_here mode at bytes ≡ token_at t at (length front) =
      ap (cut_here mode at) (sym e) ∙ cut_here-shape mode at front rest t shape in
      let wrong = fault_here at mode bytes kind span h in
      cc,
)
