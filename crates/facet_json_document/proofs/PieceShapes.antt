-- A token is the same piece wherever it stands.
use Rattle.std.proofs.Common.{◌≡◌, ℕ, zero, suc, ◌-◌, ◌+◌, true, false, ◌==◌, List, [], ◌∷◌, ◌++◌, length, take, drop, refl, sym, ap, ◌∙◌, subst, arith, append-nil}
use Rattle.std.proofs.lemmas.Bool.Decides.{nat_tests}
use Rattle.std.proofs.lemmas.List.{take_at, drop_at}
use Rattle.facet_format.specs.Bytes.{is_space, slash, quote, left_brace, left_bracket, right_brace, right_bracket, comma, colon}
use Rattle.facet_format.specs.Number.{Hint, IsNumber}
use Rattle.facet_format.specs.NumberParts.{starts_number, begins_number}
use Rattle.facet_format.proofs.NumberLaws.{begins_number-is}
use Rattle.facet_json_token.specs.Gap.{Mode, plain, jsonc, whole}
use Rattle.facet_json_token.specs.GapLen.{piece_len, comment_len}
use Rattle.facet_json_token.specs.Token.{Kind, Token, number}
use Rattle.facet_json_token.specs.Cut.{token, token_at, cut_here}
use Rattle.facet_json_token.specs.Shape.{IsStructural, object_starts, object_ends, array_starts, array_ends, colon_stands, comma_stands, IsLiteral, null_stands, true_stands, false_stands, IsLongest, IsShape}
use Rattle.facet_json_token.proofs.ShapesCut.{cut_here-shape}
use Rattle.facet_json_token.proofs.ShapeIsCut.{IsShape-cut, ShapeAt, CutShape, here_shape}
use Rattle.facet_json_token.proofs.Starts.{number_byte}
use Rattle.facet_json_grammar.proofs.Cuts.CutsBefore.{cut_here-moved}
use Rattle.facet_json_grammar.proofs.Cuts.MovedTokens.{moved_kind}
use Rattle.facet_json_document.specs.declared.pieces.Sort.TheVariants as sort
use Rattle.facet_json_document.specs.Pieces.{token_text, pieces_from, pieces}
use Rattle.facet_json_document.specs.Inner.Layout.{ends_number, may_follow, sort_by}
use Rattle.facet_json_document.proofs.PieceSteps.{pieces-cut, pieces-skip}

-- the first byte of some bytes
abbrev pub first_of : List ℕ → ℕ
first_of [] = 0
first_of (b ∷ bytes) = b

-- ---- no gap stands before a token

no_comment : (b : ℕ) (bytes : List ℕ) → (b == slash) ≡ false → comment_len whole (b ∷ bytes) ≡ 0
no_comment b [] e = refl
no_comment b (c ∷ bytes) e = rw e refl

pub no_gap : (mode : Mode) (b : ℕ) (bytes : List ℕ) → is_space b ≡ false → (b == slash) ≡ false → piece_len mode whole (b ∷ bytes) ≡ 0
no_gap plain b bytes e f = rw e refl
no_gap jsonc b bytes e f = rw e (no_comment b bytes f)

-- what is known of a token's text before other bytes
pub record IsTokenText (mode : Mode) (text k : List ℕ) : Type 0 where
  pub b : ℕ
  pub others : List ℕ
  pub is : text ≡ b ∷ others
  pub no_space : is_space b ≡ false
  pub no_slash : (b == slash) ≡ false
  pub kind : Kind
  pub shape : IsShape 0 text k kind

begins-structural : (b : ℕ) (kind : Kind) → IsStructural b kind → (is_space b ≡ false) × ((b == slash) ≡ false)
begins-structural _ _ object_starts = (refl, refl)
begins-structural _ _ object_ends = (refl, refl)
begins-structural _ _ array_starts = (refl, refl)
begins-structural _ _ array_ends = (refl, refl)
begins-structural _ _ colon_stands = (refl, refl)
begins-structural _ _ comma_stands = (refl, refl)

by-literal : (mode : Mode) (word k : List ℕ) (kind : Kind) → IsLiteral word kind → IsTokenText mode word k
by-literal mode _ k _ null_stands = record { b = 0x6e; others = 0x75 ∷ 0x6c ∷ 0x6c ∷ []; is = refl; no_space = refl; no_slash = refl; kind = _; shape = IsShape.literal _ _ k null_stands }
by-literal mode _ k _ true_stands = record { b = 0x74; others = 0x72 ∷ 0x75 ∷ 0x65 ∷ []; is = refl; no_space = refl; no_slash = refl; kind = _; shape = IsShape.literal _ _ k true_stands }
by-literal mode _ k _ false_stands = record { b = 0x66; others = 0x61 ∷ 0x6c ∷ 0x73 ∷ 0x65 ∷ []; is = refl; no_space = refl; no_slash = refl; kind = _; shape = IsShape.literal _ _ k false_stands }

number-sort : (b : ℕ) → starts_number b ≡ true → sort_by b ≡ sort.Scalar
number-sort b e =
    let one : (b == left_brace) ≡ false = grind (arith, nat_tests) in
    let two : (b == left_bracket) ≡ false = grind (arith, nat_tests) in
    let three : (b == right_brace) ≡ false = grind (arith, nat_tests) in
    let four : (b == right_bracket) ≡ false = grind (arith, nat_tests) in
    let five : (b == comma) ≡ false = grind (arith, nat_tests) in
    let six : (b == colon) ≡ false = grind (arith, nat_tests) in
    rw (one, two, three, four, five, six) refl

-- A number before bytes that do not go on with it.
number-before : (b : ℕ) (others k : List ℕ) (kind : Kind) → IsShape 0 (b ∷ others) [] kind → ends_number k ≡ true →
    IsShape 0 (b ∷ others) k (moved_kind 0 kind)
number-before b others k kind s ends =
    let alone : cut_here plain 0 (b ∷ others) ≡ token_at kind 0 (length (b ∷ others)) =
    ap (cut_here plain 0) (sym (append-nil (b ∷ others))) ∙ cut_here-shape plain 0 (b ∷ others) [] kind s in
    IsShape-cut plain 0 (b ∷ others) k (moved_kind 0 kind) (cut_here-moved 0 0 b others k _ ends alone)

by-number : (mode : Mode) (text k : List ℕ) (hint : Hint) → IsNumber text hint → begins_number text ≡ true →
    (may_follow (sort_by (first_of text)) k ≡ true) → IsTokenText mode text k
by-number mode [] k hint is begins ends = cc
by-number mode (b ∷ others) k hint is begins ends =
    let bytes = number_byte b begins in
    let follows : ends_number k ≡ true = rw (number-sort b begins) at ends in
    let alone : IsShape 0 (b ∷ others) [] (number 0 (0 + length (b ∷ others)) hint) =
    IsShape.numeral (b ∷ others) [] hint is (λ n h longer. nothing n) in
    record { b = b; others = others; is = refl; no_space = bytes.0; no_slash = bytes.1; kind = _; shape = number-before b others k _ alone follows }
  where
    nothing : (n : ℕ) → take {A = ℕ} n [] ≡ []
    nothing zero = refl
    nothing (suc n) = refl

-- A token's text is one before whatever may follow it.
pub token-before : (mode : Mode) (at : ℕ) (text rest k : List ℕ) (kind : Kind) → IsShape at text rest kind →
    may_follow (sort_by (first_of text)) k ≡ true → IsTokenText mode text k
token-before mode at _ _ k _ (IsShape.structural b kind rest h) ends =
    let bytes = begins-structural b kind h in
    record { b = b; others = []; is = refl; no_space = bytes.0; no_slash = bytes.1; kind = kind; shape = IsShape.structural b kind k h }
token-before mode at _ _ k _ (IsShape.literal word kind rest h) ends = by-literal mode word k kind h
token-before mode at _ _ k _ (IsShape.text content rest has_escapes h) ends =
    record { b = quote; others = content ++ quote ∷ []; is = refl; no_space = refl; no_slash = refl; kind = _; shape = IsShape.text content k has_escapes h }
token-before mode at _ _ k _ (IsShape.numeral text rest hint is longest) ends =
    by-number mode text k hint is (begins_number-is text hint is.numeral) ends

-- A token's shape is that of one at another offset.
pub token-elsewhere : (at to : ℕ) (text rest : List ℕ) (kind : Kind) → IsShape at text rest kind → (k : Kind) × IsShape to text rest k
token-elsewhere at to _ _ _ (IsShape.structural b kind rest h) = (_, IsShape.structural b kind rest h)
token-elsewhere at to _ _ _ (IsShape.literal word kind rest h) = (_, IsShape.literal word kind rest h)
token-elsewhere at to _ _ _ (IsShape.text content rest has_escapes h) = (_, IsShape.text content rest has_escapes h)
token-elsewhere at to _ _ _ (IsShape.numeral text rest hint is longest) = (_, IsShape.numeral text rest hint is longest)

number-here : (mode : Mode) (text rest : List ℕ) (hint : Hint) → IsNumber text hint → begins_number text ≡ true → IsLongest text rest → IsTokenText mode text rest
number-here mode [] rest hint is begins longest = cc
number-here mode (b ∷ others) rest hint is begins longest =
    let bytes = number_byte b begins in
    record { b = b; others = others; is = refl; no_space = bytes.0; no_slash = bytes.1; kind = _; shape = IsShape.numeral (b ∷ others) rest hint is longest }

-- A token's text is one where it stands.
pub token-here : (mode : Mode) (at : ℕ) (text rest : List ℕ) (kind : Kind) → IsShape at text rest kind → IsTokenText mode text rest
token-here mode at _ _ _ (IsShape.structural b kind rest h) =
    let bytes = begins-structural b kind h in
    record { b = b; others = []; is = refl; no_space = bytes.0; no_slash = bytes.1; kind = kind; shape = IsShape.structural b kind rest h }
token-here mode at _ _ _ (IsShape.literal word kind rest h) = by-literal mode word rest kind h
token-here mode at _ _ _ (IsShape.text content rest has_escapes h) =
    record { b = quote; others = content ++ quote ∷ []; is = refl; no_space = refl; no_slash = refl; kind = _; shape = IsShape.text content rest has_escapes h }
token-here mode at _ _ _ (IsShape.numeral text rest hint is longest) = number-here mode text rest hint is (begins_number-is text hint is.numeral) longest

-- Such a text is the first piece, and the others are those of what follows.
pub token-piece : (mode : Mode) (text k : List ℕ) → IsTokenText mode text k → pieces mode (text ++ k) ≡ token_text text ∷ pieces mode k
token-piece mode text k t =
    let all = t.b ∷ (t.others ++ k) in
    let whole_is : text ++ k ≡ all = ap (λ l. l ++ k) t.is in
    let none : piece_len mode whole all ≡ 0 = no_gap mode t.b (t.others ++ k) t.no_space t.no_slash in
    let len : length text ≡ suc (length t.others) = ap length t.is in
    let cut : cut_here mode 0 all ≡ token_at t.kind 0 (length text) =
    ap (cut_here mode 0) (sym whole_is) ∙ cut_here-shape mode 0 text k t.kind t.shape in
    let front : take (length text) all ≡ text = ap (take (length text)) (sym whole_is) ∙ take_at text k (length text) refl in
    let less : length text - 1 ≡ length t.others = omega (arith, len) in
    let behind : pieces_from mode (length text - 1) (t.others ++ k) ≡ pieces mode k =
    ap (λ n. pieces_from mode n (t.others ++ k)) less ∙ pieces-skip mode (length t.others) (t.others ++ k)
    ∙ ap (pieces mode) (drop_at t.others k (length t.others) refl) in
    ap (pieces mode) whole_is ∙ pieces-cut mode t.b (t.others ++ k) _ none cut
    ∙ ap (λ l. token_text l ∷ pieces_from mode (length text - 1) (t.others ++ k)) front ∙ ap (λ ps. token_text text ∷ ps) behind

-- ---- what is cut at an offset

-- What is cut as a token has a text.
pub cut-before : (mode : Mode) (at : ℕ) (bytes k : List ℕ) (t : Token) → cut_here mode at bytes ≡ token t →
    may_follow (sort_by (first_of (take t.span.len bytes))) k ≡ true → IsTokenText mode (take t.span.len bytes) k
cut-before mode at bytes k t e ends =
    let here : ShapeAt at bytes t = subst (CutShape at bytes) e (here_shape mode at bytes) in
    token-before mode at (take t.span.len bytes) (drop t.span.len bytes) k t.kind here.shape ends
