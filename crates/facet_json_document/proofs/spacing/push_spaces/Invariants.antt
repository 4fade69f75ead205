-- White space is appended.
use Rattle.facet_json_document.specs.Inner.Layout.{IsIndented}
use Rattle.facet_json_document.proofs.spacing.push_spaces.Given as goal

abbrev pub invariant-loop : goal.invariant-loop
invariant-loop l = IsIndented l.initial.out l.out
