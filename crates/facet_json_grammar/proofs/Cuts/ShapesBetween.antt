-- A token's shape between other bytes is cut as one token.
use Rattle.std.proofs.Common.{◌≡◌, ℕ, ◌+◌, ◌-◌, true, List, [], ◌∷◌, ◌++◌, length, take, drop, refl, ap, ◌∙◌, arith, append_assoc}
use Rattle.std.specs.Prelude.{slice_range}
use Rattle.std.proofs.lemmas.List.{take_at, drop_at}
use Rattle.facet_format.specs.NumberParts.{begins_number}
use Rattle.facet_format.specs.Span.{span_at}
use Rattle.facet_format.proofs.NumberLaws.{begins_number-is}
use Rattle.facet_json_token.specs.Cut.{cut_here, past_gap, cut}
use Rattle.facet_json_token.specs.Shape.{IsStructural, object_starts, object_ends, array_starts, array_ends, colon_stands, comma_stands, IsLiteral, null_stands, true_stands, false_stands, IsShape}
use Rattle.facet_json_token.specs.Gap.{plain, whole}
use Rattle.facet_json_token.specs.GapLen.{piece_len, gap_len}
use Rattle.facet_json_token.specs.Token.{Kind}
use Rattle.facet_json_token.proofs.Gaps.{gap_len-none}
use Rattle.facet_json_token.proofs.ShapesCut.{cut_here-shape}
use Rattle.facet_json_token.proofs.Starts.{number_byte}
use Rattle.facet_json_grammar.proofs.Scalars.OneToken.{IsCutAs}

-- The bytes between others, as a range.
pub range-between : (before bytes after : List ℕ) (start finish : ℕ) → length before ≡ start →
    start + length bytes ≡ finish → slice_range (before ++ bytes ++ after) start finish ≡ bytes
range-between before bytes after start finish e f =
    let size : length bytes ≡ finish - start = omega arith in
    ap (λ l. take (finish - start) (drop start l)) (append_assoc before bytes after)
    ∙ ap (take (finish - start)) (drop_at before (bytes ++ after) start e) ∙ take_at bytes after (finish - start) size

-- ---- no gap stands before a token

-- No gap stands before a number.
number-no_gap : (bytes rest : List ℕ) → begins_number bytes ≡ true → piece_len plain whole (bytes ++ rest) ≡ 0
number-no_gap [] rest e = cc
number-no_gap (b ∷ bytes) rest e = rw ((number_byte b e).0) refl

-- No gap stands before a bracket, a colon or a comma.
pub structural-no_gap : (b : ℕ) (kind : Kind) (rest : List ℕ) → IsStructural b kind → piece_len plain whole (b ∷ rest) ≡ 0
structural-no_gap _ _ rest object_starts = refl
structural-no_gap _ _ rest object_ends = refl
structural-no_gap _ _ rest array_starts = refl
structural-no_gap _ _ rest array_ends = refl
structural-no_gap _ _ rest colon_stands = refl
structural-no_gap _ _ rest comma_stands = refl

-- No gap stands before a literal.
literal-no_gap : (word : List ℕ) (kind : Kind) (rest : List ℕ) → IsLiteral word kind →
    piece_len plain whole (word ++ rest) ≡ 0
literal-no_gap _ _ rest null_stands = refl
literal-no_gap _ _ rest true_stands = refl
literal-no_gap _ _ rest false_stands = refl

-- No gap stands before a token.
shape-no_gap : (at : ℕ) (bytes rest : List ℕ) (kind : Kind) → IsShape at bytes rest kind →
    piece_len plain whole (bytes ++ rest) ≡ 0
shape-no_gap at _ _ _ (IsShape.structural b kind rest h) = structural-no_gap b kind rest h
shape-no_gap at _ _ _ (IsShape.literal word kind rest h) = literal-no_gap word kind rest h
shape-no_gap at _ _ _ (IsShape.text content rest has_escapes h) = refl
shape-no_gap at _ _ _ (IsShape.numeral text rest hint is longest) =
    number-no_gap text rest (begins_number-is text hint is.numeral)

-- ---- what is cut

-- Where no gap stands after other bytes, what is cut after them is what is cut here.
cut-after : (before bytes : List ℕ) → piece_len plain whole bytes ≡ 0 →
    cut (before ++ bytes) (length before) plain ≡ cut_here plain (length before) bytes
unfolding cut
cut-after before bytes e =
    let at = length before in
    let left : drop at (before ++ bytes) ≡ bytes = drop_at before bytes at refl in
    let start : past_gap (before ++ bytes) at plain ≡ at =
    ap (λ l. at + gap_len plain whole l) left ∙ omega (arith, gap_len-none plain whole bytes e) in
    ap (λ n. cut_here plain n (drop n (before ++ bytes))) start ∙ ap (cut_here plain at) left

-- A token's shape between other bytes is cut.
pub shape-is_cut : (before bytes after : List ℕ) (kind : Kind) → IsShape (length before) bytes after kind →
    IsCutAs before bytes after (record { kind = kind; span = span_at (length before) (length bytes) })
shape-is_cut before bytes after kind is =
    let at = length before in
    record {
      is_cut =
          ap (λ l. cut l at plain) (append_assoc before bytes after)
          ∙ cut-after before (bytes ++ after) (shape-no_gap at bytes after kind is)
          ∙ cut_here-shape plain at bytes after kind is;
      stops = refl;
    }
