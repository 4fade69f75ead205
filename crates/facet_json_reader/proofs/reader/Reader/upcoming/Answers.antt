use Rattle.std.proofs.Common.{◌≡◌, ◌∙◌, refl, sym, ap, subst, arith}
use Rattle.std.proofs.lemmas.Result.{err_from_is_err_and}
use Rattle.facet_format.specs.Views.{span_of}
use Rattle.facet_json_token.specs.Views.{kind_of}
use Rattle.facet_json_grammar.specs.Place.{stops}
use Rattle.facet_json_reader.specs.PlaceViews.{language_of, place_of, turn_of, turn_by}
use Rattle.facet_json_reader.specs.declared.place.Turn.{Turn as RustTurn}
use Rattle.facet_json_reader.specs.declared.place.Turn.TheVariants as turns
use Rattle.facet_json_reader.specs.Views.{GivesHeld, IsTurn}
use Rattle.facet_json_reader.proofs.PastSeparators.{over-comes, is-turn, stopped-refused, earlier-refused}
use Rattle.facet_json_reader.proofs.EventsAtTurns.{says-given, passes-comes, stops-refused}
use Rattle.facet_json_reader.proofs.ScannedTokens.{cut-readable, fault-stops}
use Rattle.facet_json_reader.proofs.reader.Reader.upcoming.Goals as goal
use Rattle.facet_json_reader.proofs.reader.Reader.upcoming.Goals.{In_ok-token}

-- The turn of the token that was cut.
turn : (c : In_ok-token) (way : RustTurn) → turn_of way ≡ turn_by (place_of c.loop-token.place) (kind_of c.in_ok-token.token.token) → (turn_of way ≡ stops → ⊥) →
    IsTurn c.args.input.now (language_of c.args.language) (place_of c.loop-token.place) c.loop-token.position c.in_ok-token.token way
turn c way = is-turn c.args.input.now (language_of c.args.language) c.loop-token.place c.loop-token.position c.in_ok-token.token way c.loop-token.invariant.ends c.in_ok-token.ensures.answer

pub returns-in_err-end : goal.returns-in_err-end
returns-in_err-end c =
    let r = c.args.self.now in
    let p = err_from_is_err_and c.from_residual.result c.from_residual.ensures.1 in
    let behind = over-comes c.args.input.now (language_of c.args.language) r c.in_default.is in
    rw (p.1, p.2) (earlier-refused c.args.input.now (span_of r.last) _ _ _ (sym behind) c.in_err-end.ensures)

pub returns-in_default : goal.returns-in_default
returns-in_default c = over-comes c.args.input.now (language_of c.args.language) c.args.self.now c.in_default.is ∙ c.in_ok-end.ensures

pub returns-in_err-token : goal.returns-in_err-token
returns-in_err-token c =
    let p = err_from_is_err_and c.from_residual-in_err-token.result c.from_residual-in_err-token.ensures.1 in
    let stops = fault-stops c.args.input.now c.loop-token.position (language_of c.args.language) c.in_err-token.field-0.0 (place_of c.loop-token.place) _ c.loop-token.invariant.ends c.in_err-token.ensures.answer p.2 in
    let here = stops-refused c.args.input.now (language_of c.args.language) c.args.self.now.contexts (place_of c.loop-token.place) c.loop-token.position (span_of c.args.self.now.last) _ _ refl stops in
    rw p.1 (earlier-refused c.args.input.now (span_of c.args.self.now.last) _ _ _ c.loop-token.invariant.same here)

pub stopped-requires : goal.stopped-requires
stopped-requires c =
    cut-readable c.args.input.now c.loop-token.position (language_of c.args.language) c.in_ok-token.token c.loop-token.invariant.ends c.in_ok-token.ensures.answer

pub returns-in-Stops : goal.returns-in-Stops
returns-in-Stops c =
    let here = stopped-refused c.args.input.now (language_of c.args.language) c.args.self.now.contexts c.loop-token.place c.loop-token.position c.in_ok-token.token (span_of c.args.self.now.last) _ c.loop-token.invariant.ends c.in_ok-token.ensures.answer c.in-Stops.ensures.turn (λ e. c.stopped.ensures.end e (c.in_ok-token.ensures.end e)) c.stopped.ensures.token in
    earlier-refused c.args.input.now (span_of c.args.self.now.last) _ _ _ c.loop-token.invariant.same here

pub loop-token-smaller : goal.loop-token-smaller
loop-token-smaller c =
    let t = turn (goal.at.loop-token-smaller c).In_ok-token (turns.Passes c.in-Passes.next) c.in-Passes.ensures.turn (λ e. cc) in
    omega (arith, t.past, t.ends, c.end-position-in-Passes.ensures.fits (omega (arith, t.ends)))

pub loop-token-preserved : goal.loop-token-preserved
loop-token-preserved c =
    let t = turn (goal.at.loop-token-preserved c).In_ok-token (turns.Passes c.in-Passes.next) c.in-Passes.ensures.turn (λ e. cc) in
    let ends = c.end-position-in-Passes.ensures.fits (omega (arith, t.ends)) in
    record {
      ends = omega (arith, t.ends, ends);
      same = rw (ends, c.led-place.ensures) (passes-comes c.args.input.now (language_of c.args.language) c.args.self.now.contexts (place_of c.loop-token.place) c.loop-token.position c.in_ok-token.token (turns.Passes c.in-Passes.next) (place_of c.in-Passes.next) refl t ∙ c.loop-token.invariant.same);
    }

pub returns-in-Opens : goal.returns-in-Opens
returns-in-Opens c =
    let t = turn (goal.at.returns-in-Opens c).In_ok-token (turns.Opens c.in-Opens.kind) c.in-Opens.ensures.turn (λ e. cc) in
    let here = says-given c.args.input.now (language_of c.args.language) c.args.self.now.contexts (place_of c.loop-token.place) c.loop-token.position c.in_ok-token.token (turns.Opens c.in-Opens.kind) _ refl t c.event.result (rw c.opening.ensures at c.event.ensures.event) (ap span_of c.event.ensures.last) in
    subst (λ f. GivesHeld f c.event.result) c.loop-token.invariant.same here

pub returns-in-Closes : goal.returns-in-Closes
returns-in-Closes c =
    let t = turn (goal.at.returns-in-Closes c).In_ok-token (turns.Closes c.in-Closes.kind) c.in-Closes.ensures.turn (λ e. cc) in
    let held = c.event-in-Closes in
    let here = says-given c.args.input.now (language_of c.args.language) c.args.self.now.contexts (place_of c.loop-token.place) c.loop-token.position c.in_ok-token.token (turns.Closes c.in-Closes.kind) _ refl t held.result (rw c.closing.ensures at held.ensures.event) (ap span_of held.ensures.last) in
    subst (λ f. GivesHeld f held.result) c.loop-token.invariant.same here

pub scalar-requires : goal.scalar-requires
scalar-requires c =
    cut-readable c.args.input.now c.loop-token.position (language_of c.args.language) c.in_ok-token.token c.loop-token.invariant.ends c.in_ok-token.ensures.answer

pub returns-in_err-scalar-in-Scalar : goal.returns-in_err-scalar-in-Scalar
returns-in_err-scalar-in-Scalar c =
    let t = turn (goal.at.returns-in_err-scalar-in-Scalar c).In_ok-token turns.Scalar c.in-Scalar.ensures.turn (λ e. cc) in
    let p = err_from_is_err_and c.from_residual-in_err-scalar-in-Scalar.result c.from_residual-in_err-scalar-in-Scalar.ensures.1 in
    let here = c.in_err-scalar-in-Scalar.ensures (language_of c.args.language) c.args.self.now.contexts (place_of c.loop-token.place) c.loop-token.position t in
    rw (p.1, p.2) (earlier-refused c.args.input.now (span_of c.args.self.now.last) _ _ _ c.loop-token.invariant.same here)

pub returns-in-Scalar : goal.returns-in-Scalar
returns-in-Scalar c =
    let t = turn (goal.at.returns-in-Scalar c).In_ok-token turns.Scalar c.in-Scalar.ensures.turn (λ e. cc) in
    let here = c.in_ok-scalar-in-Scalar.ensures (language_of c.args.language) c.args.self.now.contexts (place_of c.loop-token.place) c.loop-token.position t in
    subst (λ f. GivesHeld f c.in_ok-scalar-in-Scalar.field-0) c.loop-token.invariant.same here

pub key-requires-clause-token : goal.key-requires-clause-token
key-requires-clause-token c =
    cut-readable c.args.input.now c.loop-token.position (language_of c.args.language) c.in_ok-token.token c.loop-token.invariant.ends c.in_ok-token.ensures.answer

pub key-requires-clause-within : goal.key-requires-clause-within
key-requires-clause-within c =
    let t = turn (goal.at.key-requires-clause-within c).In_ok-token turns.Names c.in-Names.ensures.turn (λ e. cc) in
    t.ends

pub returns-in_err-key-in-Names : goal.returns-in_err-key-in-Names
returns-in_err-key-in-Names c =
    let t = turn (goal.at.returns-in_err-key-in-Names c).In_ok-token turns.Names c.in-Names.ensures.turn (λ e. cc) in
    let p = err_from_is_err_and c.from_residual-in_err-key-in-Names.result c.from_residual-in_err-key-in-Names.ensures.1 in
    let here = c.in_err-key-in-Names.ensures c.args.self.now.contexts (place_of c.loop-token.place) c.loop-token.position t in
    rw (p.1, p.2) (earlier-refused c.args.input.now (span_of c.args.self.now.last) _ _ _ c.loop-token.invariant.same here)

pub returns-in-Names : goal.returns-in-Names
returns-in-Names c =
    let t = turn (goal.at.returns-in-Names c).In_ok-token turns.Names c.in-Names.ensures.turn (λ e. cc) in
    let here = c.in_ok-key-in-Names.ensures c.args.self.now.contexts (place_of c.loop-token.place) c.loop-token.position t in
    subst (λ f. GivesHeld f c.in_ok-key-in-Names.field-0) c.loop-token.invariant.same here
