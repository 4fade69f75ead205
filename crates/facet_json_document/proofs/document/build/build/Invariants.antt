-- Some events were passed, and their nodes added.
use Rattle.std.proofs.Common.{◌≡◌, None}
use Rattle.facet_json_grammar.specs.Now.{ahead, future_of}
use Rattle.facet_json_tree.specs.Inner.Beyond.{SameBeyond}
use Rattle.facet_json_document.specs.Inner.Building.{AddsSome, built_view}
use Rattle.facet_json_document.proofs.document.build.build.Given as goal

abbrev pub invariant-loop-built : goal.invariant-loop-built
invariant-loop-built l = record {
  passed : AddsSome l.fn.parser l.parser (built_view l.built);
  buffer : l.parser.buffer ≡ l.fn.parser.buffer;
  input : l.built.input.now ≡ l.fn.input;
  level : SameBeyond (future_of l.fn.parser) l.fn.depth (future_of l.parser) l.built.room;
  free : l.fn.parser.cursor.refusal ≡ None → l.parser.cursor.refusal ≡ None;
}

abbrev pub decreases-loop-built : goal.decreases-loop-built
decreases-loop-built l = ahead l.parser
