-- On every input: what comes at a place within it lies within it, and so does a refusal there.
use Rattle.std.proofs.Common.{◌≡◌, ℕ, ◌+◌, ◌≤◌, Bool, true, false, List, length, refl, subst, sym, arith}
use Rattle.facet_format.specs.Span.{stop}
use Rattle.facet_format.specs.Complaint.{Refusal}
use Rattle.facet_format.specs.Event.{Event}
use Rattle.facet_format.specs.Cursor.{Spot, Comes, no_event, one_event, last_seen, current_span, spot_after}
use Rattle.facet_json_grammar.specs.Language.{Language}
use Rattle.facet_json_token.specs.Token.{Token}
use Rattle.facet_json_token.specs.Tokens.{Tokens}
use Rattle.facet_json_token.proofs.FaultLaws.{fault-in_buffer}
use Rattle.facet_json_grammar.specs.Place.{Place}
use Rattle.facet_json_grammar.specs.Refusal.{IsStuck, at_end, at_fault, meaningless, misplaced, Complains, of_number, of_plain_string, of_escaped_string}
use Rattle.facet_json_grammar.proofs.InOrder.{InOrder, at_a_fault, at_a_token}
use Rattle.facet_json_grammar.specs.Future.{Future, gives, finished, stuck}
use Rattle.facet_json_grammar.specs.Reader.{Reader, future_at}
use Rattle.facet_json_grammar.proofs.PastEvents.{comes-within, stuck-in_order}
use Rattle.facet_json_grammar.specs.Now.{first_of, RefusedAt, on_input}
use Rattle.facet_json_grammar.specs.Within.{ReaderWithin, EventsWithin}
use Rattle.facet_json_grammar.specs.UnreadLaws.{RefusalWithin}
use Rattle.facet_json_grammar.specs.Within as within
use Rattle.facet_json_grammar.proofs.MovesNext.{event-comes, spot_after-place}

-- ---- refusals

-- A token of the buffer without a meaning is refused with a span within the buffer.
complains-within : (buffer : List ℕ) (t : Token) (r : Refusal) → stop t.span ≤ length buffer → Complains buffer t r →
    RefusalWithin buffer r
complains-within buffer t r w (of_number k e) = rw e w
complains-within buffer t r w (of_plain_string start finish k e) = rw e w
complains-within buffer t r w (of_escaped_string start finish f k is e) = rw e (fault-in_buffer buffer start finish f is)

stuck-within : (buffer : List ℕ) (place : Place) (rest : Tokens) (r : Refusal) (from : ℕ) →
    IsStuck buffer place rest r → InOrder buffer from rest → RefusalWithin buffer r
stuck-within buffer place _ r from (at_end _) o = omega arith
stuck-within buffer place _ r from (at_fault _ f) (at_a_fault _ _ w) = w
stuck-within buffer place _ r from (meaningless _ t rest _ k n q) (at_a_token _ _ _ b w more) = complains-within buffer t r w q
stuck-within buffer place _ r from (misplaced _ t rest k n) (at_a_token _ _ _ b w more) = w

module _ (buffer : List ℕ) (language : Language) where
  refused_by : (s : Reader) (f : Future) (r : Refusal) → future_at buffer language s ≡ f → ReaderWithin buffer s →
      RefusedAt buffer f r → RefusalWithin buffer r
  refused_by s (stuck place rest) r e w so =
      stuck-within buffer place rest r (stop s.last) so (stuck-in_order buffer language s place rest w e)
  refused_by s (gives p rest) r e w so = absurd so
  refused_by s finished r e w so = absurd so

  -- A refusal at a place within the buffer lies within it.
  pub refused-within : (s : Reader) (r : Refusal) → ReaderWithin buffer s → RefusedAt buffer (future_at buffer language s) r →
      RefusalWithin buffer r
  refused-within s r w so = refused_by s (future_at buffer language s) r refl w so

  -- ---- the current span

  seen_by : (peeked : Bool) (s : Reader) (f : Future) → future_at buffer language s ≡ f → ReaderWithin buffer s →
      stop (last_seen peeked (first_of f) s.last) ≤ length buffer
  seen_by true s (gives p rest) e w = (comes-within buffer language s p rest w e).2
  seen_by true s finished e w = w
  seen_by true s (stuck place rest) e w = w
  seen_by false s f e w = w

  -- The current span lies within the buffer.
  pub span-within : (spot : Spot Reader) → ReaderWithin buffer spot.place →
      stop (current_span (on_input buffer language) spot) ≤ length buffer
  span-within spot w = seen_by spot.peeked spot.place (future_at buffer language spot.place) refl w

  -- ---- events

  -- These events lie within the buffer, and the place after them is as many bytes further on at least.
  pub record GivenWithin (s : Reader) (given : List Event) (after : Reader) : Type 0 where
    pub events : EventsWithin buffer given
    pub stands : ReaderWithin buffer after
    pub further : length given + stop s.last ≤ stop after.last

  -- So do events that come.
  pub given-within : {s after : Reader} {given : List Event} → Comes (on_input buffer language) s given after →
      ReaderWithin buffer s → GivenWithin s given after
  given-within (no_event place) w = record { events = within.no_events; stands = w; further = omega arith }
  given-within (one_event place after p others e more) w =
      let (behind, inside, ends) = comes-within buffer language place p _ w (event-comes buffer language place p e) in
      let rest = given-within more ends in
      record {
        events = within.one_event p.event others (omega (arith, inside, ends)) rest.events;
        stands = rest.stands;
        further = omega (arith, behind, rest.further);
      }

  -- The spot after them is within the buffer.
  pub spot_after-within : (spot : Spot Reader) {after : Reader} {given : List Event} →
      Comes (on_input buffer language) spot.place given after → ReaderWithin buffer spot.place →
      ReaderWithin buffer (spot_after given after spot).place
  spot_after-within spot all w =
      subst (ReaderWithin buffer) (sym (spot_after-place buffer language spot all)) (given-within all w).stands
