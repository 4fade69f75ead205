-- A number is judged by the grammar of RFC 8259.
use Rattle.facet_format.specs.Views.{hint_of}
use Rattle.facet_json_reader.proofs.Judged.{judged-number}
use Rattle.facet_json_reader.proofs.place.judge.Goals as goal

pub returns-in-Number-clause-judged : goal.returns-in-Number-clause-judged
returns-in-Number-clause-judged c =
    let is = c.in-Number.is in
    let slices = rw is at c.requires in
    rw is (judged-number c.args.buffer.now c.args.token.now.span c.in-Number.start c.in-Number.end (hint_of c.in-Number.hint) c.check_number_strict.result slices.2 slices.3 c.check_number_strict.ensures)
