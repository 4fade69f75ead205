-- A number is what its bytes say.
use Rattle.std.proofs.Common.{refl, sym, ◌∙◌}
use Rattle.facet_format.specs.Views.{span_of}
use Rattle.facet_json_document.proofs.PiecesTaken.{if-done, number-small, number-taken}
use Rattle.facet_json_document.proofs.document.build.BuiltTakes.take.Goals as goal

pub add_number-requires : goal.add_number-requires
add_number-requires c =
    let piece = c.in-Number.is in
    let told = rw piece at c.requires.piece in
    number-small _ told.0 told.1

pub returns-in-Number-clause-taken : goal.returns-in-Number-clause-taken
returns-in-Number-clause-taken c =
    λ done kind is.
    let piece = c.in-Number.is in
    let number = rw piece at is in
    number-taken c.args.input.now _ (span_of c.args.span) c.args.self.now c.add_number.new.self kind number refl
    (if-done c.add_number.result (sym c.is_ok-in-Number.ensures.value ∙ done) c.add_number.ensures.node) c.add_number.ensures.room
