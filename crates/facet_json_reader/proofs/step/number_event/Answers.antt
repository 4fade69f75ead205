-- The number gives its event.
use Rattle.std.proofs.Common.{subst}
use Rattle.facet_json_reader.specs.PlaceViews.{language_of}
use Rattle.facet_json_reader.specs.Inner.Short.{IsShortIn}
use Rattle.facet_json_reader.specs.Inner.Whole.{whole_scalar}
use Rattle.facet_json_reader.proofs.step.number_event.Goals as goal

pub decimal_event-requires : goal.decimal_event-requires
decimal_event-requires c =
    let n = c.in_ok-len in
    (subst (IsShortIn (language_of c.args.language) c.args.input.now c.args.at n.len) c.in-None.is n.ensures).0

pub returns-in-Some : goal.returns-in-Some
returns-in-Some c =
    λ place may reached.
    let n = c.in_ok-len in
    let language = language_of c.args.language in
    let told = subst (IsShortIn language c.args.input.now c.args.at n.len) c.in-Some.is n.ensures in
    rw c.scalar.ensures
    (c.pass_scalar-span.ensures c.args.input.now language place (whole_scalar c.in-Some.whole) told.0 told.1 may reached)

pub returns-in-None : goal.returns-in-None
returns-in-None c =
    λ place may reached.
    let n = c.in_ok-len in
    let language = language_of c.args.language in
    let told = subst (IsShortIn language c.args.input.now c.args.at n.len) c.in-None.is n.ensures in
    c.decimal_event.ensures language place told.1 may reached
