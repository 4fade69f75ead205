use Rattle.facet_format.specs.Views.{span_of}
use Rattle.facet_json_grammar.specs.Refusal.{meaningless}
use Rattle.facet_json_reader.proofs.TokenMeanings.{named-stops}
use Rattle.facet_json_reader.proofs.reader.misplaced.Goals as goal

pub returns-in-Ok : goal.returns-in-Ok
returns-in-Ok c =
    λ kind place rest k e never.
    let named = rw k at c.in-Ok.ensures.named in
    named-stops c.args.input.now place kind (span_of c.args.token.now.span) rest c.in-Ok.got c.args.expected named e never

pub returns-in-Err : goal.returns-in-Err
returns-in-Err c =
    λ kind place rest k e never.
    let m = rw k at c.in-Err.ensures.refused in
    meaningless place (record { kind = kind; span = span_of c.args.token.now.span }) rest _ m.judged m.meaningless m.refused
