-- A token that is cut has its slices, and what is wrong with it is the fault that is cut.
use Rattle.facet_json_token.specs.Gap.{plain}
use Rattle.facet_json_reader.proofs.Judged.{cut-slices, cut-refused}
use Rattle.facet_json_reader.proofs.place.cut_strict.Goals as goal

pub judge-requires : goal.judge-requires
judge-requires c = cut-slices c.args.buffer.now c.args.position plain c.in_ok-token.token c.requires c.in_ok-token.ensures.answer

pub returns-in-Err-clause-answer : goal.returns-in-Err-clause-answer
returns-in-Err-clause-answer c =
    cut-refused c.args.buffer.now c.args.position plain c.in_ok-token.token c.in-Err.fault c.in_ok-token.ensures.answer c.in-Err.ensures.judged c.in-Err.ensures.some
