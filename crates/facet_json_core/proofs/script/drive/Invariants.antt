use Rattle.std.proofs.Common.{◌≡◌, ◌≤◌, map, length, take}
use Rattle.std.specs.List.{All}
use Rattle.std.specs.Vec.{vec_len, vec_capacity}
use Rattle.facet_json_grammar.specs.Move.{MovesAll}
use Rattle.facet_json_grammar.specs.Within.{AnswerWithin}
use Rattle.facet_json_core.specs.ScriptViews.{call_of, answer_of}
use Rattle.facet_json_core.proofs.script.drive.Given as goal

abbrev pub invariant-loop-call : goal.invariant-loop-call
invariant-loop-call l = record {
  moves : MovesAll l.initial.parser (map call_of (take l.call-index l.calls)) (map answer_of l.answers.items) l.parser;
  within : All (AnswerWithin l.parser.buffer) (map answer_of l.answers.items);
  len : vec_len l.answers ≡ l.call-index;
  room : length l.calls ≤ vec_capacity l.answers;
}
