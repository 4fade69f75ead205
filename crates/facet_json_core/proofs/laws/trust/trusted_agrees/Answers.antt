use Rattle.std.proofs.Common.{sym, ◌∙◌, subst}
use Rattle.facet_json_grammar.specs.ParserLaws.{AnswerAlike}
use Rattle.facet_json_grammar.proofs.MovesAgree.{moves-agree}
use Rattle.facet_json_core.proofs.laws.trust.trusted_agrees.Goals as goal

pub returns-clause-alike : goal.returns-clause-alike
returns-clause-alike c =
    subst (AnswerAlike c.in_language-trusted.result) (c.in_language-trusted.ensures ∙ sym c.in_language-checking.ensures)
    (moves-agree c.in_language-trusted.result)
