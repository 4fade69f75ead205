-- A short whole number is there.
use Rattle.facet_json_reader.proofs.ShortNumbers.{whole-short}
use Rattle.facet_json_reader.proofs.number.number_len.Goals as goal

pub returns-in-Some : goal.returns-in-Some
returns-in-Some c =
    let n = c.in-Some.ensures in
    record { scalar = record { value = _; there = n.0; allowed = n.1 }; short = whole-short _ }
