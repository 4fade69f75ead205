-- The value of a number that allocates nothing, by what is told of it.
use Rattle.std.specs.Option.{option_map}
use Rattle.std.proofs.Common.{◌≡◌, ℕ, ◌+◌, slice_range, List, Option, Some, None, refl, ap}
use Rattle.std.specs.Prelude.{IfSome, MatchOption}
use Rattle.facet_format.specs.Number.{float}
use Rattle.facet_format.specs.NumberValue.{decimal, number}
use Rattle.facet_format.specs.Event as event
use Rattle.facet_json_token.specs.Token as token
use Rattle.facet_json_grammar.specs.Meaning.{tree_of_number}
use Rattle.facet_json_reader.specs.Inner.Short.{IsDecimalThere}
use Rattle.facet_json_reader.specs.Inner.Whole.{whole_scalar}
use Rattle.facet_json_reader.specs.Values.{IsScalarThere, IsShortScalar, short_unsigned, short_signed}
use Rattle.facet_json_reader.specs.declared.number.Whole.{Whole}
use Rattle.facet_json_reader.specs.declared.number.Whole.TheVariants as whole

-- A decimal that has a value is a scalar.
pub decimal-there : (buffer : List ℕ) (at len : ℕ) (o : Option event.Text) → IsDecimalThere buffer at len →
    (let text = slice_range buffer at (at + len) in
    MatchOption o (number text float ≡ None) (λ d. (d ≡ event.borrowed text) × (number text float ≡ Some (decimal text)))) →
    IfSome o (λ d. (there : IsScalarThere buffer at len (event.decimal d)) × (there.kind ≡ token.number at (at + len) float))
decimal-there buffer at len None is means = tt
decimal-there buffer at len (Some d) is means =
    rw means.0 (
      record {
        kind = token.number at (at + len) float;
        meant = tree_of_number (decimal (slice_range buffer at (at + len)));
        cut = is.cut;
        scalar = refl;
        means = ap (option_map tree_of_number) means.1;
        read = refl;
      },
      refl,
    )

-- A whole number's value is no text.
pub whole-short : (w : Whole) → IsShortScalar (whole_scalar w)
whole-short (whole.Unsigned n) = short_unsigned n
whole-short (whole.Signed n) = short_signed n
