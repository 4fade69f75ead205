-- All letters of the literal stand there.
use Rattle.std.proofs.Common.{Some, ap, sym, ◌∙◌}
use Rattle.facet_json_token.proofs.InSight.{cut_word-whole}
use Rattle.facet_json_token.proofs.quick.word_in_sight.Goals as goal

pub returns-then-starts_with : goal.returns-then-starts_with
returns-then-starts_with c =
    λ k is_kind. c.spanned.ensures k is_kind
    ∙ ap Some (cut_word-whole c.args.buffer.now c.args.at c.args.word.now k (sym c.starts_with.ensures.value ∙ c.if-starts_with.true))
