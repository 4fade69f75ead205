use Rattle.std.proofs.Common.{[], refl, subst, rules}
use Rattle.facet_json_reader.specs.PlaceViews.{language_of}
use Rattle.facet_json_command.specs.Arguments.{AreWords}
use Rattle.facet_json_command.proofs.Operands.{bare_asks_nothing}
use Rattle.facet_json_command.proofs.arguments.bare.Goals as goal

pub returns-then-pretty : goal.returns-then-pretty
returns-then-pretty c rest words =
    (refl, bare_asks_nothing _ rest _ _ words c.in_default.not-fmt (λ name. c.if-pretty.true) (λ mode name same. c.if-pretty.true))

pub returns-else-pretty : goal.returns-else-pretty
returns-else-pretty c rest words =
    c.listing.ensures rest c.in_default.not-fmt (subst (λ p. AreWords (language_of c.args.language) p [] rest) c.if-pretty.false words)

pub returns-in-fmt : goal.returns-in-fmt
returns-in-fmt c = search rules
