-- Events are passed one after another, and their nodes added.
use Rattle.std.proofs.Common.{true, Ok, refl, sym, ap, ◌∙◌, arith}
use Rattle.std.proofs.lemmas.Result.{err_from_is_err_and}
use Rattle.facet_json_document.specs.Inner.Building.{AddsSoFar, built_view}
use Rattle.facet_json_document.proofs.EventsUp.{many-lower}
use Rattle.facet_json_document.proofs.NodesRead.{adds-end, adds-more, adds-input, adds-refused, adds-free}
use Rattle.facet_json_document.proofs.NodesTaken.{none-added, taken-more}
use Rattle.facet_json_document.proofs.document.build.build.Goals as goal

pub loop-built-init : goal.loop-built-init
loop-built-init c =
    let so_far = taken-more c.args.parser.now c.args.depth c.args.input.now c.args.parser.now.buffer (sym c.requires) c.args.parser.now _ _ _
    (none-added _ _ _ _ c.requires refl c.new-2.ensures.items c.new-3.ensures.items refl) c.pass_in_sight.ensures in
    record { passed = so_far.passed; buffer = so_far.buffer; input = so_far.input; level = so_far.level; free = so_far.free }

pub returns-in_err-adds_event-clause-refused : goal.returns-in_err-adds_event-clause-refused
returns-in_err-adds_event-clause-refused c free =
    let i = c.loop-built.invariant in
    let p = err_from_is_err_and c.from_residual.result c.from_residual.ensures.1 in
    rw (p.1, p.2) (adds-refused c.args.depth c.loop-built.built.room _ _ _ _ _ i.passed i.level i.buffer (i.free free) c.in_err-adds_event.ensures.refused)

pub loop-built-preserved : goal.loop-built-preserved
loop-built-preserved c =
    let i = c.loop-built.invariant in
    let told = rw c.if-branch.true at c.in_ok-adds_event.ensures.added in
    let one : AddsSoFar c.args.parser.now c.args.depth c.args.input.now c.adds_event.new.parser c.adds_event.new.self = record {
      passed = adds-more _ _ _ _ _ i.passed told;
      buffer = c.adds_event.ensures.same ∙ i.buffer;
      input = adds-input true c.loop-built.parser c.adds_event.new.parser (built_view c.loop-built.built) (built_view c.adds_event.new.self) told ∙ i.input;
      level = record { same = i.level.same ∙ (c.in_ok-adds_event.ensures.level (ap Ok c.if-branch.true)).same };
      free = λ free. adds-free _ _ _ _ _ c.in_ok-adds_event.ensures.added;
    } in
    let so_far = taken-more c.args.parser.now c.args.depth c.args.input.now c.adds_event.new.parser.buffer (sym (one.buffer ∙ c.requires)) c.adds_event.new.parser
    c.adds_event.new.self _ _ one c.pass_in_sight-in-loop-built.ensures in
    record { passed = so_far.passed; buffer = so_far.buffer; input = so_far.input; level = so_far.level; free = so_far.free }

pub loop-built-smaller : goal.loop-built-smaller
loop-built-smaller c =
    let shorter = c.adds_event.ensures.shorter (c.in_ok-adds_event.was ∙ ap Ok c.if-branch.true) in
    omega (arith, many-lower _ _ _ _ _ c.pass_in_sight-in-loop-built.ensures, shorter)

pub returns-clause-nodes : goal.returns-clause-nodes
returns-clause-nodes c =
    let told = rw c.if-branch.false at c.in_ok-adds_event.ensures.added in
    adds-end _ _ _ _ _ c.loop-built.invariant.passed told
