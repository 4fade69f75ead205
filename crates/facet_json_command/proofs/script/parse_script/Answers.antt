use Rattle.std.proofs.Common.{◌≡◌, ◌∷◌, ◌++◌, refl, inr, arith, rules, []}
use Rattle.std.proofs.lemmas.Str.Pattern.{split_parts}
use Rattle.facet_json_command.proofs.Cuts.{lacks_each}
use Rattle.facet_json_command.proofs.Calls.{script_word, script_behind, one_more_call, last_call}
use Rattle.facet_json_command.proofs.script.parse_script.Goals as goal

pub returns-in_default-parse_call-clause-refused : goal.returns-in_default-parse_call-clause-refused
returns-in_default-parse_call-clause-refused c =
    let cut = rw c.in-Some.is at (split_parts 44 c.words.rest.now c.split_once.result c.split_once.ensures.cases (omega arith)) in
    let none = rw c.in_default-parse_call.is at c.parse_call.ensures in
    inr (
      refl,
      λ calls is.
          let left = c.words.invariant.only calls is in
          let first = script_behind c.words.rest.now _ _ left.0 cut.0 (lacks_each 44 _ cut.1) left.1 in
          none first.0 first.2,
    )

pub words-preserved : goal.words-preserved
words-preserved c =
    let cut = rw c.in-Some.is at (split_parts 44 c.words.rest.now c.split_once.result c.split_once.ensures.cases (omega arith)) in
    let call = rw c.in-Some-parse_call.is at c.parse_call.ensures in
    let added : c.push.new.self.items ≡ c.words.calls.items ++ (c.in-Some-parse_call.call ∷ []) = search rules in
    record {
      behind = one_more_call _ c.words.rest.now _ _ _ _ c.in-Some-parse_call.call cut.0 added call c.words.invariant.behind;
      only = λ calls is.
          let left = c.words.invariant.only calls is in
          let first = script_behind c.words.rest.now _ _ left.0 cut.0 (lacks_each 44 _ cut.1) left.1 in
          (first.1, first.3);
      text = search rules;
    }

pub returns-in_default-parse_call-2-clause-refused : goal.returns-in_default-parse_call-2-clause-refused
returns-in_default-parse_call-2-clause-refused c =
    let whole = rw c.in_default.is at (split_parts 44 c.words.rest.now c.split_once.result c.split_once.ensures.cases (omega arith)) in
    let none = rw c.in_default-parse_call-2.is at c.parse_call-2.ensures in
    inr (
      refl,
      λ calls is.
          let left = c.words.invariant.only calls is in
          let last = script_word c.words.rest.now left.0 (lacks_each 44 _ whole) left.1 in
          none last.0 last.1,
    )

pub returns-clause-calls : goal.returns-clause-calls
returns-clause-calls c =
    let call = rw c.in-Some-parse_call-2.is at c.parse_call-2.ensures in
    let added : c.push-2.new.self.items ≡ c.words.calls.items ++ (c.in-Some-parse_call-2.last ∷ []) = search rules in
    last_call _ c.words.rest.now _ _ c.in-Some-parse_call-2.last added call c.words.invariant.behind
