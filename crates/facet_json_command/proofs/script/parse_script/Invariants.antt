use Rattle.std.proofs.Common.{List, ◌++◌, map, length, IsUtf8}
use Rattle.facet_format.specs.Cursor.{Call}
use Rattle.facet_json_core.specs.ScriptViews.{call_of}
use Rattle.facet_json_command.specs.Script.{IsScript}
use Rattle.facet_json_command.proofs.script.parse_script.Given as goal

abbrev pub invariant-words : goal.invariant-words
invariant-words l = record {
  behind : (more : List Call) → IsScript l.rest more → IsScript l.fn.script (map call_of l.calls.items ++ more);
  only : (calls : List Call) → IsScript l.fn.script calls → (more : List Call) × IsScript l.rest more;
  text : IsUtf8 l.rest;
}

abbrev pub decreases-words : goal.decreases-words
decreases-words l = length l.rest
