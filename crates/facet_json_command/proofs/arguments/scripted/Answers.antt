use Rattle.std.proofs.Common.{refl, inl, inr}
use Rattle.facet_json_command.proofs.Operands.{operand_asks_nothing}
use Rattle.facet_json_command.proofs.arguments.scripted.Goals as goal

pub returns-in-Err : goal.returns-in-Err
returns-in-Err c rest words =
    elim c.in-Err.ensures.refused [
      | inl memory ↦ inl memory
      | inr wrong ↦ inr (wrong.0, operand_asks_nothing _ _ rest _ _ words (λ name compact. wrong.1))
    ]

pub returns-in_default : goal.returns-in_default
returns-in_default c rest words =
    inr (refl, operand_asks_nothing _ _ rest _ _ words (λ name compact. absurd (c.in_default.not-drive name)))
