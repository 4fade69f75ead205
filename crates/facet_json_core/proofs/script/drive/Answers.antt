use Rattle.facet_format.specs.Cursor.{no_calls}
use Rattle.std.proofs.Common.{refl}
use Rattle.facet_json_core.proofs.CallsInOrder.{made-none, made-one_more, made-within, made-all, made-run}
use Rattle.facet_json_core.proofs.script.drive.Goals as goal

pub loop-call-init : goal.loop-call-init
loop-call-init c = record {
  moves = rw c.in_ok-answers.ensures.items (record { input = record { buffer = refl; language = refl }; run = no_calls _ });
  within = made-none _ _ c.in_ok-answers.ensures.items;
  len = c.in_ok-answers.ensures.len;
  room = c.in_ok-answers.ensures.capacity;
}

pub loop-call-preserved : goal.loop-call-preserved
loop-call-preserved c = record {
  moves = made-one_more _ _ _ _ _ _ _ _ _ c.loop-call-test.true c.push_reserved.ensures.items c.loop-call.invariant.moves c.make.ensures.moves;
  within = made-within _ _ _ _ _ _ c.push_reserved.ensures.items c.loop-call.invariant.within c.make.ensures.moves c.make.ensures.within;
  len = rw c.loop-call.invariant.len at c.push_reserved.ensures.len;
  room = rw c.push_reserved.ensures.capacity c.loop-call.invariant.room;
}

pub returns-clause-run : goal.returns-clause-run
returns-clause-run c =
    made-run _ _ _ _ (made-all _ _ _ _ _ c.loop-call-test.false c.loop-call.invariant.moves)

pub returns-clause-input : goal.returns-clause-input
returns-clause-input c = c.loop-call.invariant.moves.input
