-- A number of RFC 8259 is allowed in each language.
use Rattle.std.proofs.Common.{◌+◌, slice_range, Option, Some, None}
use Rattle.std.specs.Prelude.{IfSome, ℕ}
use Rattle.facet_format.specs.Number.{float}
use Rattle.facet_json_grammar.specs.Language.{strict}
use Rattle.facet_json_token.specs.RfcNumber.{IsRfcNumber}
use Rattle.facet_json_token.specs.Gap.{Mode, plain}
use Rattle.facet_json_reader.specs.declared.number.Whole.{Whole}
use Rattle.facet_json_reader.specs.Inner.Short.{IsShortNumber, IsShortIn}
use Rattle.facet_json_reader.specs.Inner.Whole.{whole_scalar}
use Rattle.facet_json_reader.proofs.AllowedTexts.{rfc_number-allowed}
use Rattle.facet_json_reader.proofs.QuickEvents.{number-kind}
use Rattle.facet_json_reader.proofs.number.short_number_in.Goals as goal

pub returns-in-Strict : goal.returns-in-Strict
returns-in-Strict c = rw c.in-Strict.is (by plain c.short_number_strict.result c.short_number_strict.ensures.there c.short_number_strict.ensures.strict)
  where
    by : (mode : Mode) (o : Option (ℕ × Option Whole)) → IfSome o (λ r. IsShortNumber c.args.input.now c.args.at r.0 r.1) →
        IfSome o (λ r. IsRfcNumber (slice_range c.args.input.now c.args.at (c.args.at + r.0))) →
        IfSome o (λ r. IsShortIn (strict mode) c.args.input.now c.args.at r.0 r.1)
    by mode None short rfc = tt
    by mode (Some (len, Some told)) short rfc =
        let kind = number-kind c.args.input.now c.args.at len c.args.first (whole_scalar told) short c.requires.here c.requires.number in
        let is = kind.1 in
        (short, rw is (rfc_number-allowed (strict mode) c.args.input.now c.args.at (c.args.at + len) kind.0 _ rfc))
    by mode (Some (len, None)) short rfc = (short, rfc_number-allowed (strict mode) c.args.input.now c.args.at (c.args.at + len) float _ rfc)
