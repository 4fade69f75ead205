use Rattle.std.proofs.Common.{◌≡◌, ◌++◌}
use Rattle.facet_json_grammar.specs.Text.{indents}
use Rattle.facet_json_serializer.proofs.options.push_indented_line.Given as goal

abbrev pub invariant-loop : goal.invariant-loop
invariant-loop l = l.out ≡ l.initial.out ++ indents l.counter l.indent
