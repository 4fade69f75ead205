use Rattle.std.proofs.Common.{refl}
use Rattle.facet_json_command.proofs.Operands.{bare_asks_nothing}
use Rattle.facet_json_command.proofs.arguments.listing.Goals as goal

pub returns-in_default : goal.returns-in_default
returns-in_default c rest other words = (
  refl,
  bare_asks_nothing _ rest _ _ words other (λ name. absurd (c.in_default.not-events name))
      (λ mode name same. absurd (c.in_default.not-tokens name)),
)
