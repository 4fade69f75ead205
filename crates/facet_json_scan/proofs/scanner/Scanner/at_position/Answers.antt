use Rattle.std.proofs.Common.{rules}
use Rattle.facet_json_scan.proofs.scanner.Scanner.at_position.Goals as goal

pub returns : goal.returns
returns c = search rules
