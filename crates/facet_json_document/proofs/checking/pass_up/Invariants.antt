-- Some events were passed.
use Rattle.std.proofs.Common.{◌≡◌, None}
use Rattle.facet_json_grammar.specs.Now.{ahead}
use Rattle.facet_json_document.specs.Inner.Checking.{PassesSome}
use Rattle.facet_json_document.proofs.checking.pass_up.Given as goal

abbrev pub invariant-loop-parser : goal.invariant-loop-parser
invariant-loop-parser l = record {
  passed : PassesSome l.fn.parser l.parser;
  buffer : l.parser.buffer ≡ l.fn.parser.buffer;
  free : l.fn.parser.cursor.refusal ≡ None → l.parser.cursor.refusal ≡ None;
}

abbrev pub decreases-loop-parser : goal.decreases-loop-parser
decreases-loop-parser l = ahead l.parser
