use Rattle.std.proofs.Common.{suc, ◌∷◌, ◌++◌, take, drop, sym, ap, subst, ◌∙◌}
use Rattle.facet_json_command.specs.Arguments.{AreWords, no_words}
use Rattle.facet_json_command.specs.OutcomeViews.{words_of}
use Rattle.facet_json_command.proofs.Operands.{words_split}
use Rattle.facet_json_command.proofs.arguments.words_after.Goals as goal

pub loop-word-init : goal.loop-word-init
loop-word-init c = no_words

pub returns-in_default : goal.returns-in_default
returns-in_default c language pretty operands few all =
    let i = c.loop-word.word-index in
    let front = words_of (take i c.args.words.now) in
    let rest = words_of (drop (suc i) c.args.words.now) in
    let split = words_split c.args.words.now i c.word-item.result c.loop-word-test.true c.word-item.is in
    let none = rw c.in_default.is at (c.with.ensures front c.loop-word.invariant) in
    none language pretty operands rest few
    (subst (AreWords language pretty operands) (split ∙ ap (λ w. front ++ (w ∷ rest)) (sym c.as_str.ensures.value)) all)
