-- Pieces by computation: small texts, and what is left of them where no comma trails.
use Rattle.std.proofs.Common.{◌≡◌, List, [], ◌∷◌, refl, codes}
use Rattle.facet_format.specs.NumberParts.{parts}
use Rattle.facet_json_token.specs.Cut.{start_of, cut_here}
use Rattle.facet_json_token.specs.Gap.{plain, jsonc}
use Rattle.facet_json_document.specs.Pieces.{TextPiece, token_text, comment, no_token, pieces_from, pieces, without_trailing_commas}

abbrev of : List TextPiece
of = token_text (codes "[") ∷ token_text (codes "1") ∷ token_text (codes ",") ∷ comment (codes "// a") ∷ token_text (codes "]") ∷ []

-- A line comment ends before the white space at its line's end, and a comma before it trails.
comment-row : pieces jsonc (codes "[1, // a \r\n]") ≡ of
unfolding pieces_from cut_here start_of parts
comment-row = refl

trailing-row : without_trailing_commas of ≡ token_text (codes "[") ∷ token_text (codes "1") ∷ comment (codes "// a") ∷ token_text (codes "]") ∷ []
trailing-row = refl

-- A block comment stays as it is; the end of the text ends a line comment.
block-row : pieces jsonc (codes "/* , */null//") ≡ comment (codes "/* , */") ∷ token_text (codes "null") ∷ comment (codes "//") ∷ []
unfolding pieces_from cut_here start_of parts
block-row = refl

-- Only the last of two commas trails; a string is no comment.
commas-row : without_trailing_commas (pieces plain (codes "[\"//\",,}")) ≡ token_text (codes "[") ∷ token_text (codes "\"//\"") ∷ token_text (codes ",") ∷ token_text (codes "}") ∷ []
unfolding pieces_from cut_here start_of parts
commas-row = refl

-- Where comments may not stand, a slash is no token, nor is one that opens no closed comment.
plain-row : pieces plain (codes "1 // a") ≡ token_text (codes "1") ∷ no_token ∷ []
unfolding pieces_from cut_here start_of parts
plain-row = refl

open-row : pieces jsonc (codes "1 /* a") ≡ token_text (codes "1") ∷ no_token ∷ []
unfolding pieces_from cut_here start_of parts
open-row = refl
