use Rattle.std.proofs.Common.{ap}
use Rattle.std.proofs.lemmas.Result.{err_from_is_err_and}
use Rattle.facet_format.specs.Views.{span_of, scalar_value_of}
use Rattle.facet_json_reader.proofs.EventsAtTurns.{scalar-given, scalar-refused}
use Rattle.facet_json_reader.proofs.reader.scalar.Goals as goal

pub returns-in_err-value : goal.returns-in_err-value
returns-in_err-value c =
    λ mode stack place position is.
    let p = err_from_is_err_and c.from_residual.result c.from_residual.ensures.1 in
    rw (p.1, p.2) (scalar-refused c.args.input.now mode stack place position c.args.token.now (span_of c.args.last) _ is (c.in_err-value.ensures is.kind is.is_kind))

pub returns : goal.returns
returns c =
    λ mode stack place position is.
    let v = c.in_ok-value.ensures is.kind is.is_kind in
    scalar-given c.args.input.now mode stack place position c.args.token.now is (scalar_value_of c.in_ok-value.value) v.0 v.1 _ c.event.ensures.event (ap span_of c.event.ensures.last)
