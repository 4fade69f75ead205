use Rattle.std.proofs.Common.{rules}
use Rattle.facet_json_scan.proofs.scanner.Scanner.set_pos.Goals as goal

pub invariant_of-self : goal.invariant_of-self
invariant_of-self c = search rules

pub returns : goal.returns
returns c = search rules
