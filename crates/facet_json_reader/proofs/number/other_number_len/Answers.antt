-- A whole number has its value, and a decimal where it is told.
use Rattle.std.proofs.Common.{subst}
use Rattle.facet_json_reader.specs.PlaceViews.{language_of}
use Rattle.facet_json_reader.specs.Inner.Short.{IsShortIn}
use Rattle.facet_json_reader.specs.Values.{short_decimal}
use Rattle.facet_json_reader.proofs.ShortNumbers.{whole-short}
use Rattle.facet_json_reader.proofs.number.other_number_len.Goals as goal
use Rattle.facet_json_reader.proofs.number.other_number_len.Goals.{in-Some-decimal_at, in-None-decimal_at}

pub decimal_at-requires : goal.decimal_at-requires
decimal_at-requires c =
    let n = c.in_ok-len in
    (subst (IsShortIn (language_of c.args.language) c.args.input.now c.args.at n.len) c.in-None.is n.ensures).0

pub returns-in-Some : goal.returns-in-Some
returns-in-Some c =
    let n = c.in_ok-len in
    let told = subst (IsShortIn (language_of c.args.language) c.args.input.now c.args.at n.len) c.in-Some.is n.ensures in
    record { scalar = record { value = _; there = told.0; allowed = told.1 }; short = whole-short _ }

pub returns-after-decimal_at : goal.returns-after-decimal_at
returns-after-decimal_at c =
    let n = c.in_ok-len in
    let told = subst (IsShortIn (language_of c.args.language) c.args.input.now c.args.at n.len) c.in-None.is n.ensures in
    elim c.match-decimal_at.branch [
      | in-Some-decimal_at w ↦
          let d = w.in-Some-decimal_at.ensures in
          rw w.result-is (record { scalar = record { value = _; there = d.0; allowed = rw d.1 told.1 }; short = short_decimal _ })
      | in-None-decimal_at w ↦ rw w.result-is tt
    ]
