-- Before anything is read nothing is scanned.
use Rattle.facet_json_scan.specs.Listed.{mode_with}
use Rattle.facet_json_scan.proofs.GrowthOfPieces.{stands-first}
use Rattle.facet_json_scan.proofs.reader.scan_reader.Goals as goal

pub scan_pieces-requires-clause-stands : goal.scan_pieces-requires-clause-stands
scan_pieces-requires-clause-stands g c =
    stands-first _ _ _ (mode_with c.args.comments) c.new-buf.ensures.items c.new-tokens.ensures.items c.scanner_of-scanner.ensures
