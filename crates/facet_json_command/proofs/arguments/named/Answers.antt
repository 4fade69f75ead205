use Rattle.std.proofs.Common.{refl, inr, sym, ◌∙◌}
use Rattle.std.proofs.lemmas.Bool.{true≢false}
use Rattle.facet_json_command.proofs.Operands.{operand_asks_nothing}
use Rattle.facet_json_command.proofs.arguments.named.Goals as goal

pub returns-then-words : goal.returns-then-words
returns-then-words c rest words =
    let read = rw c.in-Some.is at words in
    inr (refl, operand_asks_nothing _ c.in-Some.script.now rest _ _ read (λ name compact. absurd (true≢false (sym c.if-words.true ∙ compact))))
