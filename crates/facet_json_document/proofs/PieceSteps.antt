-- The pieces of a text, by what stands first in it.
use Rattle.std.proofs.Common.{◌≡◌, ℕ, zero, suc, ◌-◌, true, List, [], ◌∷◌, ◌++◌, take, drop, refl, ap, ◌∙◌}
use Rattle.std.specs.List.{list_all}
use Rattle.std.proofs.lemmas.Bool.{and_parts}
use Rattle.facet_format.specs.Bytes.{is_space}
use Rattle.facet_json_token.specs.Gap.{Mode, whole}
use Rattle.facet_json_token.specs.GapLen.{piece_len}
use Rattle.facet_json_token.specs.Cut.{Cut, nothing_left, token, fault, cut_here}
use Rattle.facet_json_token.proofs.Gaps.{piece_len-blank}
use Rattle.facet_json_grammar.specs.RfcText.{AreSpaces}
use Rattle.facet_json_document.specs.Pieces.{TextPiece, token_text, no_token, trimmed, with_comment, pieces_from, pieces}

-- After the bytes of a piece stand the pieces of what is left.
pub pieces-skip : (mode : Mode) (n : ℕ) (bytes : List ℕ) → pieces_from mode n bytes ≡ pieces mode (drop n bytes)
unfolding pieces_from
pieces-skip mode zero bytes = refl
pieces-skip mode (suc n) [] = refl
pieces-skip mode (suc n) (b ∷ bytes) = pieces-skip mode n bytes

-- what follows by what is cut, where no piece of a gap stands
abbrev pub after_cut : Mode → List ℕ → List ℕ → Cut → List TextPiece
after_cut mode all bytes (token t) = token_text (take t.span.len all) ∷ pieces_from mode (t.span.len - 1) bytes
after_cut mode all bytes (fault f) = no_token ∷ []
after_cut mode all bytes nothing_left = no_token ∷ []

-- what follows by how long the piece of a gap is that stands first
abbrev pub after_gap : Mode → List ℕ → List ℕ → ℕ → List TextPiece
after_gap mode all bytes zero = after_cut mode all bytes (cut_here mode 0 all)
after_gap mode all bytes (suc inside) = with_comment (trimmed (take (suc inside) all)) (pieces_from mode inside bytes)

pub pieces-first : (mode : Mode) (b : ℕ) (bytes : List ℕ) → pieces mode (b ∷ bytes) ≡ after_gap mode (b ∷ bytes) bytes (piece_len mode whole (b ∷ bytes))
unfolding pieces_from
pieces-first mode b bytes = refl

-- A piece of a gap.
pub pieces-gap : (mode : Mode) (b n : ℕ) (bytes : List ℕ) → piece_len mode whole (b ∷ bytes) ≡ suc n →
    pieces mode (b ∷ bytes) ≡ with_comment (trimmed (take (suc n) (b ∷ bytes))) (pieces mode (drop n bytes))
pieces-gap mode b n bytes e =
    pieces-first mode b bytes ∙ ap (after_gap mode (b ∷ bytes) bytes) e
    ∙ ap (with_comment (trimmed (take (suc n) (b ∷ bytes)))) (pieces-skip mode n bytes)

-- What is cut.
pub pieces-cut : (mode : Mode) (b : ℕ) (bytes : List ℕ) (c : Cut) → piece_len mode whole (b ∷ bytes) ≡ 0 → cut_here mode 0 (b ∷ bytes) ≡ c →
    pieces mode (b ∷ bytes) ≡ after_cut mode (b ∷ bytes) bytes c
pieces-cut mode b bytes c e is =
    pieces-first mode b bytes ∙ ap (after_gap mode (b ∷ bytes) bytes) e ∙ ap (after_cut mode (b ∷ bytes) bytes) is

-- White space is no piece.
pub pieces-blank : (mode : Mode) (b : ℕ) (bytes : List ℕ) → is_space b ≡ true → pieces mode (b ∷ bytes) ≡ pieces mode bytes
pieces-blank mode b bytes e =
    let none : trimmed (b ∷ []) ≡ [] = rw e refl in
    pieces-gap mode b 0 bytes (piece_len-blank mode whole b bytes e) ∙ ap (λ l. with_comment l (pieces mode bytes)) none

pub pieces-spaces : (mode : Mode) (spaces bytes : List ℕ) → AreSpaces spaces → pieces mode (spaces ++ bytes) ≡ pieces mode bytes
pieces-spaces mode [] bytes e = refl
pieces-spaces mode (b ∷ spaces) bytes e =
    let two = and_parts (is_space b) (list_all is_space spaces) e in
    pieces-blank mode b (spaces ++ bytes) two.0 ∙ pieces-spaces mode spaces bytes two.1

-- Nothing has no pieces.
pub pieces-none : (mode : Mode) → pieces mode [] ≡ []
unfolding pieces_from
pieces-none mode = refl
