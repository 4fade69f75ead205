use Rattle.std.proofs.Common.{inl, inr}
use Rattle.std.proofs.lemmas.Option.{MatchOption-at_some, MatchOption-at_none}
use Rattle.std.proofs.lemmas.Result.{err_from_is_err_and}
use Rattle.facet_format.specs.Event.{struct_end}
use Rattle.facet_json_tree.proofs.BeyondEvents.{none-leveled}
use Rattle.facet_json_tree.proofs.MembersRead.{members-none}
use Rattle.facet_json_tree.proofs.ReadingWithin.{within-same, lacks-within, none-members-within, no_key-within, member-within}
use Rattle.facet_json_core.proofs.Meaning.Keeping.{keeps-then}
use Rattle.facet_json_core.proofs.Meaning.OfTrees.TreeOnWalk.{moves_trans}
use Rattle.facet_json_core.proofs.Meaning.Walks.NextOnWalk.{goes-keeps}
use Rattle.facet_json_tree.proofs.MovingOn.{moves-next}
use Rattle.facet_json_core.proofs.Refusing.{goes-there, lacks-tells, tells-later}
use Rattle.facet_json_tree.proofs.ValuesPassed.{end-passed, member-began}
use Rattle.facet_json_tree.proofs.reader.begin_member.Goals as goal

pub returns-in_err-next_in_line-clause-refused : goal.returns-in_err-next_in_line-clause-refused
returns-in_err-next_in_line-clause-refused c =
    let p = err_from_is_err_and c.from_residual.result c.from_residual.ensures.1 in
    rw (p.1, p.2) (none-members-within c.args.depth c.args.parser.now _ (c.in_err-next_in_line.ensures.refused c.requires.free))

pub returns-in_err-key-clause-refused : goal.returns-in_err-key-clause-refused
returns-in_err-key-clause-refused c =
    let g = c.in_ok-next_in_line.ensures.passed in
    let p = err_from_is_err_and c.from_residual-in_err-key.result c.from_residual-in_err-key.ensures.1 in
    rw (p.1, p.2) (elim c.in_err-key.ensures.refused [
      | inl lacks ↦ lacks-within lacks
      | inr other ↦ no_key-within c.args.depth _ _ _ (members-none _) none-leveled _ _ _ _ g.comes other
    ])

pub returns-in_err-begin_value-in-Some-clause-refused : goal.returns-in_err-begin_value-in-Some-clause-refused
returns-in_err-begin_value-in-Some-clause-refused c =
    let g = c.in_ok-next_in_line.ensures.passed in
    let key = MatchOption-at_some _ _ _ c.in-Some.is c.in_ok-key.ensures.key in
    let p = err_from_is_err_and c.from_residual-in_err-begin_value-in-Some.result c.from_residual-in_err-begin_value-in-Some.ensures.1 in
    rw (p.1, p.2) (member-within c.args.depth _ _ _ (members-none _) none-leveled _ _ _ _ g.comes key.name key.is_key
    (within-same c.next_in_line.ensures.onward.input.buffer (c.in_err-begin_value-in-Some.ensures.refused g.free)))

pub returns-in_ok-begin_value-in-Some-clause-moves : goal.returns-in_ok-begin_value-in-Some-clause-moves
returns-in_ok-begin_value-in-Some-clause-moves c =
    moves_trans _ _ _ (moves-next c.in_ok-next_in_line.ensures.steps) c.in_ok-begin_value-in-Some.ensures.moves

pub returns-in_err-begin_value-in-Some-clause-keeps : goal.returns-in_err-begin_value-in-Some-clause-keeps
returns-in_err-begin_value-in-Some-clause-keeps c =
    keeps-then _ _ _ (goes-keeps _ _ c.next_in_line.ensures.onward) c.begin_value.ensures.keeps

pub returns-in_ok-begin_value-in-Some-clause-keeps : goal.returns-in_ok-begin_value-in-Some-clause-keeps
returns-in_ok-begin_value-in-Some-clause-keeps c =
    keeps-then _ _ _ (goes-keeps _ _ c.next_in_line.ensures.onward) c.begin_value.ensures.keeps

pub returns-in-None-clause-moves : goal.returns-in-None-clause-moves
returns-in-None-clause-moves c = moves-next c.in_ok-next_in_line.ensures.steps

pub returns-in_err-key-clause-tells : goal.returns-in_err-key-clause-tells
returns-in_err-key-clause-tells c =
    let p = err_from_is_err_and c.from_residual-in_err-key.result c.from_residual-in_err-key.ensures.1 in
    rw (p.1, p.2) (lacks-tells c.in_ok-next_in_line.ensures.passed c.in_err-key.ensures.about)

pub returns-in_err-begin_value-in-Some-clause-tells : goal.returns-in_err-begin_value-in-Some-clause-tells
returns-in_err-begin_value-in-Some-clause-tells c =
    let p = err_from_is_err_and c.from_residual-in_err-begin_value-in-Some.result c.from_residual-in_err-begin_value-in-Some.ensures.1 in
    rw (p.1, p.2) (tells-later (goes-there c.next_in_line.ensures.onward) c.in_err-begin_value-in-Some.ensures.tells)

pub returns-in_ok-begin_value-in-Some-clause-begun : goal.returns-in_ok-begin_value-in-Some-clause-begun
returns-in_ok-begin_value-in-Some-clause-begun c =
    let event = c.in_ok-next_in_line.ensures in
    let key = MatchOption-at_some _ _ _ c.in-Some.is c.in_ok-key.ensures.key in
    member-began c.args.depth _ _ _ _ _ _ event.passed key event.moves c.in_ok-begin_value-in-Some.ensures.begun c.begin_value.ensures.keeps.input

pub returns-in-None-clause-begun : goal.returns-in-None-clause-begun
returns-in-None-clause-begun c =
    let event = c.in_ok-next_in_line.ensures in
    end-passed struct_end _ _ _ event.passed (MatchOption-at_none _ _ c.in-None.is c.in_ok-key.ensures.key) event.moves
