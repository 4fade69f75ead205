use Rattle.std.proofs.Common.{◌≡◌, ◌∙◌, refl, arith, ap}
use Rattle.std.proofs.lemmas.Result.{err_from_is_err_and}
use Rattle.facet_json_grammar.specs.Language.{lenient, gaps}
use Rattle.facet_json_token.specs.Views.{kind_of}
use Rattle.facet_json_grammar.specs.Place.{stops}
use Rattle.facet_json_reader.specs.declared.place.Turn.{Turn as RustTurn}
use Rattle.facet_json_reader.specs.declared.place.Turn.TheVariants as turns
use Rattle.facet_json_reader.specs.Views.{IsTurn}
use Rattle.facet_json_reader.specs.PlaceViews.{language_of, place_of, turn_of, turn_by}
use Rattle.facet_json_grammar.specs.Unread.{begins_value, closes_container}
use Rattle.facet_json_reader.proofs.PastSeparators.{is-turn}
use Rattle.facet_json_parser.specs.declared.part.Part.TheVariants as parts
use Rattle.facet_json_parser.proofs.FirstParts.{opens-value, closes-one, reaches-first, reaches-next, nothing-stands, stands-first}
use Rattle.facet_json_parser.proofs.UnreadTokens.{unread-fault, unread-stopped}
use Rattle.facet_json_parser.proofs.part.find.Goals as goal
use Rattle.facet_json_parser.proofs.part.find.Goals.{In_ok-token}

-- The turn of the token that was cut.
turn : (c : In_ok-token) (way : RustTurn) → turn_of way ≡ turn_by (place_of c.loop-token.place) (kind_of c.in_ok-token.token.token) → (turn_of way ≡ stops → ⊥) →
    IsTurn c.args.input.now (lenient (gaps (language_of c.args.language))) (place_of c.loop-token.place) c.loop-token.position c.in_ok-token.token way
turn c way =
    is-turn c.args.input.now (lenient (gaps (language_of c.args.language))) c.loop-token.place c.loop-token.position c.in_ok-token.token way c.loop-token.invariant.ends
    (rw c.mode-mode.ensures at c.in_ok-token.ensures.answer)

pub returns-in_err-token-clause-nothing : goal.returns-in_err-token-clause-nothing
returns-in_err-token-clause-nothing c =
    λ stack.
    let l = c.loop-token in
    let p = err_from_is_err_and c.from_residual.result c.from_residual.ensures.1 in
    let halts = unread-fault c.args.input.now l.position (gaps (language_of c.args.language)) c.in_err-token.field-0.0 (place_of l.place) _ l.invariant.ends (rw c.mode-mode.ensures at c.in_err-token.ensures.answer) p.2 in
    rw p.1 (nothing-stands c.args.input.now (language_of c.args.language) c.args.reader.now (place_of l.place) l.position l.invariant.reached stack _ halts)

pub loop-token-init : goal.loop-token-init
loop-token-init c =
    let ends = c.end-position.ensures.fits (omega (arith, c.requires)) in
    record {
      ends = omega (arith, ends, c.requires);
      reached = reaches-first c.args.input.now (language_of c.args.language) c.args.reader.now c.in-Within.place c.end-position.result c.in-Within.is ends;
    }

pub returns-in-Stops-clause-nothing : goal.returns-in-Stops-clause-nothing
returns-in-Stops-clause-nothing c =
    λ stack.
    let l = c.loop-token in
    let buffer = c.args.input.now in
    let halts = unread-stopped buffer (gaps (language_of c.args.language)) l.place l.position c.in_ok-token.token _ l.invariant.ends (rw c.mode-mode.ensures at c.in_ok-token.ensures.answer) c.in-Stops.ensures.turn (λ e. c.stopped.ensures.end buffer e (c.in_ok-token.ensures.end e)) (c.stopped.ensures.token buffer) in
    nothing-stands buffer (language_of c.args.language) c.args.reader.now (place_of l.place) l.position l.invariant.reached stack _ halts

pub loop-token-smaller : goal.loop-token-smaller
loop-token-smaller c =
    let l = c.loop-token in
    let t = turn (goal.at.loop-token-smaller c).In_ok-token (turns.Passes c.in-Passes.next) c.in-Passes.ensures.turn (λ e. cc) in
    omega (arith, t.past, t.ends, c.end-position-in-Passes.ensures.fits (omega (arith, t.ends)))

pub loop-token-preserved : goal.loop-token-preserved
loop-token-preserved c =
    let l = c.loop-token in
    let t = turn (goal.at.loop-token-preserved c).In_ok-token (turns.Passes c.in-Passes.next) c.in-Passes.ensures.turn (λ e. cc) in
    let ends = c.end-position-in-Passes.ensures.fits (omega (arith, t.ends)) in
    record {
      ends = omega (arith, t.ends, ends);
      reached = rw (ends, c.led-place.ensures) (reaches-next c.args.input.now (language_of c.args.language) c.args.reader.now (place_of l.place) l.position l.invariant.reached c.in_ok-token.token (turns.Passes c.in-Passes.next) t (place_of c.in-Passes.next) refl);
    }

pub returns-in-Opens-clause-found : goal.returns-in-Opens-clause-found
returns-in-Opens-clause-found c =
    λ stack.
    let l = c.loop-token in
    let t = turn (goal.at.returns-in-Opens-clause-found c).In_ok-token (turns.Opens c.in-Opens.field-0) c.in-Opens.ensures.turn (λ e. cc) in
    stands-first c.args.input.now (language_of c.args.language) c.args.reader.now (place_of l.place) l.position l.invariant.reached stack c.in_ok-token.token (turns.Opens c.in-Opens.field-0) t (parts.Value c.in_ok-token.token) refl (t.is_kind, ap begins_value t.turns ∙ opens-value c.in-Opens.field-0)

pub returns-in-Opens-clause-within : goal.returns-in-Opens-clause-within
returns-in-Opens-clause-within c = (turn (goal.at.returns-in-Opens-clause-within c).In_ok-token (turns.Opens c.in-Opens.field-0) c.in-Opens.ensures.turn (λ e. cc)).ends

pub returns-in-Closes-clause-found : goal.returns-in-Closes-clause-found
returns-in-Closes-clause-found c =
    λ stack.
    let l = c.loop-token in
    let t = turn (goal.at.returns-in-Closes-clause-found c).In_ok-token (turns.Closes c.in-Closes.field-0) c.in-Closes.ensures.turn (λ e. cc) in
    stands-first c.args.input.now (language_of c.args.language) c.args.reader.now (place_of l.place) l.position l.invariant.reached stack c.in_ok-token.token (turns.Closes c.in-Closes.field-0) t (parts.Closing c.in_ok-token.token.span) refl (ap closes_container t.turns ∙ closes-one c.in-Closes.field-0)

pub returns-in-Closes-clause-within : goal.returns-in-Closes-clause-within
returns-in-Closes-clause-within c = (turn (goal.at.returns-in-Closes-clause-within c).In_ok-token (turns.Closes c.in-Closes.field-0) c.in-Closes.ensures.turn (λ e. cc)).ends

pub returns-in-Scalar-clause-found : goal.returns-in-Scalar-clause-found
returns-in-Scalar-clause-found c =
    λ stack.
    let l = c.loop-token in
    let t = turn (goal.at.returns-in-Scalar-clause-found c).In_ok-token turns.Scalar c.in-Scalar.ensures.turn (λ e. cc) in
    stands-first c.args.input.now (language_of c.args.language) c.args.reader.now (place_of l.place) l.position l.invariant.reached stack c.in_ok-token.token turns.Scalar t (parts.Value c.in_ok-token.token) refl (t.is_kind, ap begins_value t.turns)

pub returns-in-Scalar-clause-within : goal.returns-in-Scalar-clause-within
returns-in-Scalar-clause-within c = (turn (goal.at.returns-in-Scalar-clause-within c).In_ok-token turns.Scalar c.in-Scalar.ensures.turn (λ e. cc)).ends

pub returns-in-Names-clause-found : goal.returns-in-Names-clause-found
returns-in-Names-clause-found c =
    λ stack.
    let l = c.loop-token in
    let t = turn (goal.at.returns-in-Names-clause-found c).In_ok-token turns.Names c.in-Names.ensures.turn (λ e. cc) in
    stands-first c.args.input.now (language_of c.args.language) c.args.reader.now (place_of l.place) l.position l.invariant.reached stack c.in_ok-token.token turns.Names t (parts.Key c.in_ok-token.token.span) refl t.turns

pub returns-in-Names-clause-within : goal.returns-in-Names-clause-within
returns-in-Names-clause-within c = (turn (goal.at.returns-in-Names-clause-within c).In_ok-token turns.Names c.in-Names.ensures.turn (λ e. cc)).ends
