use Rattle.facet_json_command.proofs.Printing.{three_pieces}
use Rattle.facet_json_command.proofs.lines.write_pieces.Goals as goal

pub returns : goal.returns
returns g c =
    three_pieces _ _ _ _ _ _ _ c.write_all-2.result c.in_ok-write_head.ensures c.in_ok-write_all.ensures.bytes c.write_all-2.ensures.bytes
