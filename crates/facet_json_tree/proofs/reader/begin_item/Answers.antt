use Rattle.std.proofs.Common.{ap}
use Rattle.std.proofs.lemmas.Result.{err_from_is_err_and}
use Rattle.facet_format.specs.Event.{sequence_end}
use Rattle.facet_format.specs.Views.{event_kind_of}
use Rattle.facet_json_core.proofs.Meaning.Walks.NextOnWalk.{goes-keeps}
use Rattle.facet_json_tree.proofs.BeyondEvents.{none-leveled}
use Rattle.facet_json_tree.proofs.ItemsRead.{not_list_end, items-none}
use Rattle.facet_json_tree.proofs.MovingOn.{moves-next}
use Rattle.facet_json_tree.proofs.ReadingWithin.{none-items-within, item-within, refused-within}
use Rattle.facet_json_tree.proofs.ValuesBegin.{began, span-within}
use Rattle.facet_json_core.proofs.Refusing.{lacks-tells}
use Rattle.facet_json_tree.proofs.ValuesPassed.{end-passed}
use Rattle.facet_json_tree.proofs.reader.begin_item.Goals as goal

pub returns-in_err-first-clause-refused : goal.returns-in_err-first-clause-refused
returns-in_err-first-clause-refused c =
    let p = err_from_is_err_and c.from_residual.result c.from_residual.ensures.1 in
    rw (p.1, p.2) (none-items-within c.args.depth c.args.parser.now _ (c.in_err-first.ensures.refused c.requires.free))

pub returns-in_err-begun-clause-refused : goal.returns-in_err-begun-clause-refused
returns-in_err-begun-clause-refused c =
    let g = c.in_ok-first.ensures.passed in
    let p = err_from_is_err_and c.from_residual-in_err-begun.result c.from_residual-in_err-begun.ensures.1 in
    rw (p.1, p.2) (item-within c.args.depth _ _ _ (items-none _) none-leveled _ _ _ _ g.comes (not_list_end _ c.in_default.not-SequenceEnd)
    (refused-within c.args.depth _ _ _ _ c.in_err-begun.ensures.refused))

pub returns-in_err-begun-clause-within : goal.returns-in_err-begun-clause-within
returns-in_err-begun-clause-within c =
    let p = err_from_is_err_and c.from_residual-in_err-begun.result c.from_residual-in_err-begun.ensures.1 in
    let inside = c.in_ok-first.ensures.event_within in
    rw (p.1, p.2) (span-within _ _ _ c.in_err-begun.ensures.span inside)

pub returns-in-SequenceEnd-clause-moves : goal.returns-in-SequenceEnd-clause-moves
returns-in-SequenceEnd-clause-moves c = moves-next c.in_ok-first.ensures.steps

pub returns-in-SequenceEnd-clause-begun : goal.returns-in-SequenceEnd-clause-begun
returns-in-SequenceEnd-clause-begun c =
    end-passed sequence_end _ _ _ c.in_ok-first.ensures.passed (ap event_kind_of c.in-SequenceEnd.is) c.in_ok-first.ensures.moves

pub returns : goal.returns
returns c = record {
  keeps = goes-keeps _ _ c.next_in_line.ensures.onward;
  moves = moves-next c.in_ok-first.ensures.steps;
  shorter = c.in_ok-first.ensures.shorter;
  begun = began _ _ _ _ _ c.in_ok-first.ensures.passed c.in_ok-begun.ensures.begun c.in_ok-first.ensures.moves;
  refused = tt;
  within = tt;
  tells = tt;
}

pub returns-in_err-begun-clause-tells : goal.returns-in_err-begun-clause-tells
returns-in_err-begun-clause-tells c =
    let p = err_from_is_err_and c.from_residual-in_err-begun.result c.from_residual-in_err-begun.ensures.1 in
    rw (p.1, p.2) (lacks-tells c.in_ok-first.ensures.passed c.in_err-begun.ensures.about)
