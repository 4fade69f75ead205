-- What is read from the start of a new parser is read of its input, and ends where the parser stands then.
use Rattle.std.proofs.Common.{◌∙◌, ap, arith}
use Rattle.std.proofs.lemmas.Result.{err_from_is_err_and}
use Rattle.std.specs.Prelude.{Err}
use Rattle.facet_format.specs.Span.{stop}
use Rattle.facet_json_grammar.specs.Now.{Now}
use Rattle.facet_json_facet.proofs.FirstRead.{first-value}
use Rattle.facet_json_facet.proofs.RunBegins.{ends-from, ends-within}
use Rattle.facet_json_facet.proofs.prefix.value_and_end.Goals as goal

pub returns-in_err-value-clause-value : goal.returns-in_err-value-clause-value
returns-in_err-value-clause-value g c input mode is =
    let p = err_from_is_err_and c.from_residual.result c.from_residual.ensures.1 in
    let e = c.in_err-value.ensures in
    rw (p.1, p.2) (first-value _ _ _ _ _ c.read_owned.ensures.keeps input mode is (Err c.in_err-value.field-0.0) tt e.unread (λ is. tt) tt e.within e.tells)

pub returns-clause-value : goal.returns-clause-value
returns-clause-value g c input mode is =
    let e = c.in_ok-value.ensures in
    first-value _ _ _ _ _ c.read_owned.ensures.keeps input mode is _ e.read tt e.document e.one_value tt tt

pub returns-clause-end : goal.returns-clause-end
returns-clause-end g c input mode small is =
    let same = c.read_owned.ensures.keeps.input.buffer ∙ ap (λ (now : Now). now.buffer) is in
    let within = rw same at c.last_span.ensures.within in
    let end = c.end.ensures.fits (omega (arith, small, within)) in
    rw (end, ap stop c.last_span.ensures.told) (ends-from input mode _ c.read_owned.new.parser is c.in_ok-value.ensures.one_value)

pub returns-clause-inside : goal.returns-clause-inside
returns-clause-inside g c input mode small is = ends-within input mode _ (returns-clause-end g c input mode small is)
