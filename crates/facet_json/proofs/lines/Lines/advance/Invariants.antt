use Rattle.std.proofs.Common.{◌-◌, ◌^◌}
use Rattle.facet_json.specs.Lines.{PassesBlank}
use Rattle.facet_json.proofs.lines.Lines.advance.Given as goal

abbrev pub invariant-blank : goal.invariant-blank
invariant-blank g l = PassesBlank l.initial.self l.self

abbrev pub decreases-blank : goal.decreases-blank
decreases-blank g l = 2 ^ 64 - l.self.number
