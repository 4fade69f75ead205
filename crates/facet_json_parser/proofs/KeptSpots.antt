-- The spots that are kept under the numbers of points: what is found, taken out and added among the points is so among the spots.
use Rattle.std.proofs.Common.{◌≡◌, ℕ, Bool, true, false, cond, ◌==◌, List, [], ◌∷◌, map, Option, Some, refl, ap}
use Rattle.std.specs.Option.{option_map}
use Rattle.facet_format.specs.Cursor.{Spot}
use Rattle.facet_format.specs.Kept.{found, without, with_point}
use Rattle.facet_json_grammar.specs.Reader.{Reader}
use Rattle.facet_json_parser.specs.Lookahead.{Lookahead, spot_of}
use Rattle.facet_json_parser.specs.Views.{kept_spot}

found_by : (same : Bool) (f : Lookahead) (o : Option Lookahead) (spots : Option (Spot Reader)) → spots ≡ option_map spot_of o →
    cond same (Some (spot_of f)) spots ≡ option_map spot_of (cond same (Some f) o)
found_by true f o spots e = refl
found_by false f o spots e = e

-- The spot of what is found.
pub found-spot : (number : ℕ) (points : List (ℕ × Lookahead)) →
    found number (map kept_spot points) ≡ option_map spot_of (found number points)
found-spot number [] = refl
found-spot number (point ∷ points) = found_by (point.0 == number) point.1 (found number points) _ (found-spot number points)

without_by : (same : Bool) (point : ℕ × Lookahead) (points : List (ℕ × Lookahead)) (spots : List (ℕ × Spot Reader)) →
    spots ≡ map kept_spot points → cond same spots (kept_spot point ∷ spots) ≡ map kept_spot (cond same points (point ∷ points))
without_by true point points spots e = e
without_by false point points spots e = ap (λ others. kept_spot point ∷ others) e

-- The spots of the points under other numbers.
pub without-spots : (number : ℕ) (points : List (ℕ × Lookahead)) →
    without number (map kept_spot points) ≡ map kept_spot (without number points)
without-spots number [] = refl
without-spots number (point ∷ points) = without_by (point.0 == number) point (without number points) _ (without-spots number points)

-- One more spot.
pub with_point-spots : (number : ℕ) (f : Lookahead) (points : List (ℕ × Lookahead)) →
    map kept_spot (with_point number f points) ≡ with_point number (spot_of f) (map kept_spot points)
with_point-spots number f [] = refl
with_point-spots number f (point ∷ points) = ap (λ others. kept_spot point ∷ others) (with_point-spots number f points)
