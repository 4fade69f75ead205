-- The error says what the fault says.
use Rattle.std.proofs.Common.{sym, ap, ◌∙◌}
use Rattle.facet_json_token.specs.Views.{cut_of}
use Rattle.facet_json_token.proofs.FaultErrors.{says-cut}
use Rattle.facet_json_scan.proofs.refusing.told.Goals as goal

pub returns-in-Err-clause-answer : goal.returns-in-Err-clause-answer
returns-in-Err-clause-answer c = says-cut c.in-Err.fault c.from.result c.from.ensures ∙ ap cut_of (sym c.in-Err.is)
