-- What is refused after its longest prefix has no document.
use Rattle.std.specs.Prelude.{ℕ, List}
use Rattle.std.proofs.Common.{◌≡◌, ℕ, List, [], refl, sym, ap, ◌∙◌, subst}
use Rattle.facet_format.specs.Complaint.{Refusal}
use Rattle.facet_format.specs.Event.{Passed}
use Rattle.facet_json_token.specs.Gap.{Mode}
use Rattle.facet_json_token.specs.Tokens.{Tokens}
use Rattle.facet_json_token.specs.TokenList.{tokens}
use Rattle.facet_json_grammar.specs.Language.{lenient_rules}
use Rattle.facet_json_grammar.specs.Future.{Future, stuck, events_before, within, reads}
use Rattle.facet_json_grammar.specs.Place.{Place, root, after_key}
use Rattle.facet_json_grammar.specs.Refusal.{IsStuck}
use Rattle.facet_json_grammar.specs.Walk.{walk}
use Rattle.facet_json_grammar.proofs.Parts.FinishedComes.{never-stuck}
use Rattle.facet_json_grammar.proofs.StuckComes.{stuck-reads, stuck-reads_colon}
use Rattle.facet_json_grammar.proofs.WalkComes.{at_root, document-comes}
use Rattle.facet_json_grammar.specs.Begun.{RefusesAfter}
use Rattle.facet_json_grammar.specs.EventLaws.{RefusedHasNone}
use Rattle.facet_json_grammar.proofs.LongestPrefix.{IsReadAt, at_stage, at_key, begun-leads, tail-finished}

-- What is read where no document goes on is stuck there.
read-stuck : {buffer : List ℕ} {future : Future} {place : Place} {ts : Tokens} {refusal : Refusal} →
    IsReadAt buffer future (within place) ts → IsStuck buffer place ts refusal → future ≡ stuck place ts
read-stuck {buffer = buffer} {place = place} {ts = ts} {refusal = refusal} (at_stage stack f) s =
    f ∙ stuck-reads lenient_rules buffer stack place ts refusal s
read-stuck {buffer = buffer} {place = place} {ts = ts} {refusal = refusal} (at_key stack key here f) s =
    let same : place ≡ after_key = cc in
    let there = subst (λ p. IsStuck buffer p ts refusal) same s in
    f ∙ stuck-reads_colon lenient_rules buffer stack key ts refusal there ∙ sym (ap (λ p. stuck p ts) same)

-- Of an input that is refused the events come, and then nothing.
pub refused-comes : {buffer : List ℕ} {mode : Mode} {events : List Passed} {refusal : Refusal} →
    (r : RefusesAfter buffer mode events refusal) →
    reads buffer [] (within root) (tokens buffer mode) ≡ events_before events (stuck r.here r.rest)
refused-comes {buffer = buffer} {events = events} r =
    let leads = begun-leads buffer [] r.prefix.begun at_root refl in
    leads.comes ∙ ap (events_before events) (read-stuck leads.from r.stuck)

-- An input that is refused has no document.
pub refused_has_none : RefusedHasNone
refused_has_none buffer mode refusal node value r d =
    let halts = stuck r.after.here r.after.rest in
    let left =
    tail-finished r.events (walk buffer node) halts (sym (refused-comes r.after) ∙ document-comes buffer mode node value d) in
    never-stuck r.after.here r.after.rest left.0 left.2
