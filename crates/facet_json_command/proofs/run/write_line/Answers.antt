use Rattle.std.proofs.Common.{arith, rules}
use Rattle.std.proofs.lemmas.Grind.{common_steps}
use Rattle.facet_json_command.proofs.run.write_line.Goals as goal

pub returns-in-Refused-default-Some : goal.returns-in-Refused-default-Some
returns-in-Refused-default-Some g c = grind (arith, common_steps)

pub returns-in-Usage : goal.returns-in-Usage
returns-in-Usage g c = rw c.in-Usage.is c.writeln-in-Usage.ensures.bytes

pub returns-in-Done : goal.returns-in-Done
returns-in-Done c = search rules

pub returns-in-Refused-default-None : goal.returns-in-Refused-default-None
returns-in-Refused-default-None c = search rules

pub returns-in-Io : goal.returns-in-Io
returns-in-Io c = search rules
