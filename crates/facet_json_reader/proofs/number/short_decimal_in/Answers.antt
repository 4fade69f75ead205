-- A decimal that has a value is there.
use Rattle.std.proofs.Common.{subst}
use Rattle.facet_json_reader.specs.PlaceViews.{language_of}
use Rattle.facet_json_reader.specs.Inner.Short.{IsShortIn}
use Rattle.facet_json_reader.proofs.number.short_decimal_in.Goals as goal

pub decimal_at-requires : goal.decimal_at-requires
decimal_at-requires c =
    let n = c.in_ok-len in
    (subst (IsShortIn (language_of c.args.language) c.args.input.now c.args.at n.len) c.in-None.is n.ensures).0

pub returns-in_ok-decimal_at-in-None : goal.returns-in_ok-decimal_at-in-None
returns-in_ok-decimal_at-in-None c =
    let n = c.in_ok-len in
    let told = subst (IsShortIn (language_of c.args.language) c.args.input.now c.args.at n.len) c.in-None.is n.ensures in
    let d = c.in_ok-decimal_at-in-None.ensures in
    (d.0, rw d.1 told.1)
