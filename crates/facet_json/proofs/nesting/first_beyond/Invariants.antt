use Rattle.std.proofs.Common.{◌≡◌, ◌≤◌, ◌+◌, ◌-◌, length}
use Rattle.facet_json_token.specs.TokenList.{tokens_from}
use Rattle.facet_json_token.specs.Views.{mode_of}
use Rattle.facet_json.specs.Inner.Nested.{tokens_beyond, input_beyond}
use Rattle.facet_json.proofs.nesting.first_beyond.Given as goal

abbrev pub invariant-loop-token : goal.invariant-loop-token
invariant-loop-token l = record {
  inside : l.position ≤ length l.input;
  fits : l.nesting.around + l.nesting.room ≡ l.limit;
  first : tokens_beyond (tokens_from l.input (mode_of l.mode) l.position) l.nesting.around l.nesting.room
      ≡ input_beyond l.input (mode_of l.mode) l.limit;
}

abbrev pub decreases-loop-token : goal.decreases-loop-token
decreases-loop-token l = length l.input - l.position
