use Rattle.std.proofs.Common.{rules}
use Rattle.facet_json_command.proofs.run.obey.Goals as goal

pub returns-in-Fmt-clause-ends : goal.returns-in-Fmt-clause-ends
returns-in-Fmt-clause-ends c = search rules

pub returns-in-Fmt-clause-answer : goal.returns-in-Fmt-clause-answer
returns-in-Fmt-clause-answer c = search rules

pub returns-in-Fmt-clause-only : goal.returns-in-Fmt-clause-only
returns-in-Fmt-clause-only c = search rules

pub returns-in-Fmt-clause-refused : goal.returns-in-Fmt-clause-refused
returns-in-Fmt-clause-refused c = search rules

pub returns-in-Fmt-clause-driven : goal.returns-in-Fmt-clause-driven
returns-in-Fmt-clause-driven c = search rules

pub returns-in-Fmt-clause-grows : goal.returns-in-Fmt-clause-grows
returns-in-Fmt-clause-grows c = search rules

pub returns-in-Drive-clause-answer : goal.returns-in-Drive-clause-answer
returns-in-Drive-clause-answer c = search rules
