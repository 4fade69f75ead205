-- Bytes that are looked up at an offset, and what is left of the list from there on.
use Rattle.std.proofs.Common.{get_or, ◌≡◌, ℕ, ◌+◌, ◌<◌, List, ◌∷◌, length, drop, slice_get, Option, Some, None, refl, ap, sym, ◌∙◌, arith}
use Rattle.std.specs.Option.{option_map}
use Rattle.std.proofs.lemmas.List.{drop_more}
use Rattle.std.proofs.lemmas.Option.{slice_get_within, slice_get-get_or, get_or_from_slice_get}
use Rattle.facet_json_token.specs.GapLen.{one_more}

-- where a byte stands, it is the first of what is left
pub drop-at_byte : (bytes : List ℕ) (at b : ℕ) → slice_get bytes at ≡ Some b → drop at bytes ≡ b ∷ drop (at + 1) bytes
drop-at_byte bytes at b e =
    drop_more bytes at b (slice_get_within bytes at b e)
    ∙ ap (λ x. x ∷ drop (at + 1) bytes) (get_or_from_slice_get bytes at b b e)

-- an offset after one more byte
pub option_map-one_more : (at : ℕ) (o : Option ℕ) →
    option_map (λ n. at + n) (one_more o) ≡ option_map (λ n. (at + 1) + n) o
option_map-one_more at None = refl
option_map-one_more at (Some n) = ap Some (omega arith)

-- nothing is found after an offset
pub option_map-none : (at : ℕ) (o : Option ℕ) → None ≡ option_map (λ n. at + n) o → o ≡ None
option_map-none at None e = refl
option_map-none at (Some n) e = cc

-- what a look-up that finds a byte says
pub slice_get-from_read : (bytes : List ℕ) (at x b : ℕ) → (at < length bytes) × ((d : ℕ) → x ≡ get_or bytes at d) →
    x ≡ b → slice_get bytes at ≡ Some b
slice_get-from_read bytes at x b h e = slice_get-get_or bytes at b h.0 ∙ ap Some (sym (h.1 b) ∙ e)
