-- A parser that goes on twice.
use Rattle.std.proofs.Common.{◌∙◌, ◌≤◌, arith}
use Rattle.facet_json_grammar.specs.Now.{Now, ahead}
use Rattle.facet_json_core.specs.Meaning.Nodes.{KeepsOn}

pub keeps-then : (old now new : Now) → KeepsOn old now → KeepsOn now new → KeepsOn old new
keeps-then old now new first second = record {
  input = record { buffer = second.input.buffer ∙ first.input.buffer; language = second.input.language ∙ first.input.language };
  kept = λ point spot e. second.kept point spot (first.kept point spot e);
  onward =
      let one : ahead now ≤ ahead old = first.onward in
      let two : ahead new ≤ ahead now = second.onward in
      omega arith;
  by_calls = λ start led. second.by_calls start (first.by_calls start led);
}
