use Rattle.std.proofs.Common.{◌≡◌, ℕ, List}
use Rattle.facet_json_grammar.specs.Language.{Language}
use Rattle.facet_json_grammar.specs.Now.{fresh_in, ahead}
use Rattle.facet_json_command.proofs.Listing.{AreSoFar}
use Rattle.facet_json_command.proofs.run.list_ahead.Given as goal

abbrev pub invariant-loop-event : goal.invariant-loop-event
invariant-loop-event g l = record {
  listed : (language : Language) (input : List ℕ) → l.fn.parser ≡ fresh_in input language →
      AreSoFar language input (g.W.Write.contents l.fn.writer) (g.W.Write.contents l.writer) l.parser;
  same : l.parser.buffer ≡ l.fn.parser.buffer;
  unmarked : l.session.failed ≡ l.fn.session.failed;
}

abbrev pub decreases-loop-event : goal.decreases-loop-event
decreases-loop-event g l = ahead l.parser
