use Rattle.std.proofs.Common.{◌≡◌, true, Some, refl}
use Rattle.std.proofs.lemmas.Option.{same_Some}
use Rattle.facet_json_token.specs.declared.token.Token.{Token as RustToken}
use Rattle.facet_json_token.specs.declared.token.Token.TheVariants as code
use Rattle.facet_format.specs.Views.{span_of}
use Rattle.facet_json_token.specs.Token.{Kind, object_start, array_start}
use Rattle.facet_json_token.specs.Views.{kind_of, mode_of}
use Rattle.facet_json_grammar.specs.Node.{is_scalar}
use Rattle.facet_json_grammar.specs.Place.{root, goes_on}
use Rattle.facet_json_parser.proofs.RunSteps.{scalar-ends}
use Rattle.facet_json_parser.proofs.run.pass_run.Goals as goal

is_brace : (t : RustToken) → kind_of t ≡ Some object_start → t ≡ code.ObjectStart
is_brace code.ObjectStart e = refl
is_brace _ e = cc

is_bracket : (t : RustToken) → kind_of t ≡ Some array_start → t ≡ code.ArrayStart
is_bracket code.ArrayStart e = refl
is_bracket _ e = cc

-- What begins a value and is no opening bracket is a scalar.
is_one : (t : RustToken) (kind : Kind) → (t ≡ code.ObjectStart → ⊥) → (t ≡ code.ArrayStart → ⊥) → kind_of t ≡ Some kind →
    goes_on root kind ≡ true → is_scalar kind ≡ true
is_one t object_start no_brace no_bracket k e = absurd (no_brace (is_brace t k))
is_one t array_start no_brace no_bracket k e = absurd (no_bracket (is_bracket t k))
is_one t _ no_brace no_bracket k e = e

pub returns-in-ObjectStart-clause-run : goal.returns-in-ObjectStart-clause-run
returns-in-ObjectStart-clause-run c =
    λ kind k begins. let same = same_Some _ _ (rw c.in-ObjectStart.is at k) in rw (← same) c.pass_container.ensures.run

pub returns-in-ArrayStart-clause-run : goal.returns-in-ArrayStart-clause-run
returns-in-ArrayStart-clause-run c =
    λ kind k begins. let same = same_Some _ _ (rw c.in-ArrayStart.is at k) in rw (← same) c.pass_container-in-ArrayStart.ensures.run

pub returns-in_default-clause-run : goal.returns-in_default-clause-run
returns-in_default-clause-run c =
    λ kind k begins.
    scalar-ends c.args.input.now (mode_of c.args.mode) kind (span_of c.args.first.now.span) (is_one c.args.first.now.token kind c.in_default.not-ObjectStart c.in_default.not-ArrayStart k begins)
