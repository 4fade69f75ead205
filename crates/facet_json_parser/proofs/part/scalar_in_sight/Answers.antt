-- The token in sight is the next one, and its turn is a scalar's.
use Rattle.std.proofs.Common.{◌≡◌, ◌∙◌, Ok, Some, refl, sym, ap, arith}
use Rattle.facet_json_token.specs.Cut.{cut}
use Rattle.facet_json_token.specs.Views.{cut_of}
use Rattle.facet_json_token.proofs.Gaps.{cut-past_gap}
use Rattle.facet_json_token.proofs.InSight.{cut_of-told}
use Rattle.facet_json_grammar.specs.Language.{lenient, gaps}
use Rattle.facet_json_grammar.specs.Unread.{begins_value}
use Rattle.facet_json_reader.specs.declared.place.Turn.TheVariants as turns
use Rattle.facet_json_reader.specs.PlaceViews.{language_of, place_of}
use Rattle.facet_json_reader.specs.Views.{IsTurn}
use Rattle.facet_json_reader.proofs.PastSeparators.{is-turn}
use Rattle.facet_json_parser.specs.declared.part.Part.TheVariants as parts
use Rattle.facet_json_parser.proofs.FirstParts.{reaches-first, stands-first}
use Rattle.facet_json_parser.proofs.PassedParts.{scalar-turns}
use Rattle.facet_json_parser.proofs.part.scalar_in_sight.Goals as goal
use Rattle.facet_json_parser.proofs.part.scalar_in_sight.Goals.{In-Scalar}

-- The turn of the token in sight.
turn : (c : In-Scalar) → IsTurn c.args.input.now (lenient (gaps (language_of c.args.language))) (place_of c.in-Within.place) c.end.result c.in_ok-token.token turns.Scalar
turn c =
    let buffer = c.args.input.now in
    let mode = gaps (language_of c.args.language) in
    let gap = rw c.mode.ensures at c.gap_end-at.ensures.end in
    let next : cut_of (Ok c.in_ok-token.token) ≡ Some (cut buffer c.end.result mode) =
    cut_of-told c.in_ok-token.token _ (c.in_ok-token.ensures mode) ∙ ap Some (ap (λ n. cut buffer n mode) gap ∙ cut-past_gap buffer c.end.result mode) in
    let ends = c.end.ensures.fits (omega (arith, c.requires)) in
    is-turn buffer (lenient mode) c.in-Within.place c.end.result c.in_ok-token.token turns.Scalar (omega (arith, ends, c.requires)) next c.in-Scalar.ensures.turn (λ e. cc)

pub returns-in-Scalar-clause-found : goal.returns-in-Scalar-clause-found
returns-in-Scalar-clause-found c =
    λ stack.
    let buffer = c.args.input.now in
    let language = language_of c.args.language in
    let token = c.in_ok-token.token in
    let place = place_of c.in-Within.place in
    let t = turn (goal.at.returns-in-Scalar-clause-found c).In-Scalar in
    let ends = c.end.ensures.fits (omega (arith, c.requires)) in
    let reached = reaches-first buffer language c.args.reader.now c.in-Within.place c.end.result c.in-Within.is ends in
    stands-first buffer language c.args.reader.now place c.end.result reached stack token turns.Scalar t (parts.Value token) refl (t.is_kind, ap begins_value t.turns)

pub returns-in-Scalar-clause-scalar : goal.returns-in-Scalar-clause-scalar
returns-in-Scalar-clause-scalar c kind is = scalar-turns (place_of c.in-Within.place) kind (sym (rw is at c.in-Scalar.ensures.turn))

pub returns-in-Scalar-clause-within : goal.returns-in-Scalar-clause-within
returns-in-Scalar-clause-within c = (turn (goal.at.returns-in-Scalar-clause-within c).In-Scalar).ends
