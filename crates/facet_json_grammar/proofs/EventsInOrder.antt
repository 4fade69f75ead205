-- The events that come from a position on lie after it, in order and within the buffer.
use Rattle.std.specs.Prelude.{ℕ, List}
use Rattle.std.proofs.Common.{◌≡◌, ℕ, ◌<◌, ◌≤◌, Bool, true, false, List, length, refl, arith}
use Rattle.facet_json_token.specs.Token.{Token}
use Rattle.facet_format.specs.Span.{stop}
use Rattle.facet_json_token.specs.Tokens.{Tokens, ended, refused, next}
use Rattle.facet_json_grammar.specs.Language.{Language, rules, Rules, lenient_rules, strict_rules}
use Rattle.facet_json_grammar.specs.Place.{Place, after_key, after_colon, after_root, Turn, stops, passes, says, says_scalar, names, goes_on, led}
use Rattle.facet_format.specs.Event.{ContainerKind, Passed}
use Rattle.facet_json_grammar.specs.Walk.{event_at, scalar_event, key_event}
use Rattle.facet_json_grammar.specs.Future.{Future, gives, finished, stuck, Stage, within, over, after_value, stack_after, stage_after, turn, behind_root, reads_by, reads_colon_by}
use Rattle.facet_json_grammar.proofs.InOrder.{InOrder, at_a_token}
use Rattle.facet_json_grammar.specs.StrictTokens.{tokens_in}
use Rattle.facet_json_grammar.proofs.TokensIn.{tokens_in-in_order}
use Rattle.facet_json_grammar.proofs.TokensInOrder.{in_order-weaker}
use Rattle.facet_json_grammar.proofs.WalkComes.{follows, reads-turn}

-- Each event ends after the one before, the first after this offset, and the tokens after them are in order.
pub data IsSound (buffer : List ℕ) : ℕ → Future → Type 0 where
  sound_event : (from : ℕ) (p : Passed) (future : Future) → from < stop p.last → stop p.event.span ≤ stop p.last →
      stop p.last ≤ length buffer → IsSound buffer (stop p.last) future → IsSound buffer from (gives p future)
  sound_end : (from : ℕ) → IsSound buffer from finished
  sound_stuck : (from : ℕ) (place : Place) (rest : Tokens) → InOrder buffer from rest → IsSound buffer from (stuck place rest)

-- What comes after an offset comes after smaller ones.
sound-weaker : (buffer : List ℕ) (future : Future) (from less : ℕ) → less ≤ from → IsSound buffer from future →
    IsSound buffer less future
sound-weaker buffer _ from less h (sound_event _ p future b e w more) = sound_event less p future (omega arith) e w more
sound-weaker buffer _ from less h (sound_end _) = sound_end less
sound-weaker buffer _ from less h (sound_stuck _ place rest o) =
    sound_stuck less place rest (in_order-weaker buffer rest from less h o)

module _ (by : Rules) (buffer : List ℕ) where
  -- From wherever tokens in order are read, what comes is sound.
  abbrev SoundFrom : Tokens → Type 0
  SoundFrom ts = (stack : List ContainerKind) (stage : Stage) (from : ℕ) → InOrder buffer from ts →
      IsSound buffer from (reads_by by buffer stack stage ts)

  -- the same after a key, which ends there
  abbrev SoundAfterKey : Tokens → Type 0
  SoundAfterKey ts = (stack : List ContainerKind) (key : Token) → InOrder buffer (stop key.span) ts →
      IsSound buffer (stop key.span) (reads_colon_by by buffer stack key ts)

  turn-sound : (stack : List ContainerKind) (place : Place) (t : Token) (ts : Tokens) (way : Turn) (from : ℕ) → SoundFrom ts →
      SoundAfterKey ts → InOrder buffer from (next t ts) → IsSound buffer from (follows by buffer place t stack ts way)
  turn-sound stack place t ts stops from h g o = sound_stuck from place (next t ts) o
  turn-sound stack place t ts (passes other) from h g (at_a_token _ _ _ b w more) =
      sound-weaker buffer _ (stop t.span) from (omega arith) (h stack (within (led by other)) (stop t.span) more)
  turn-sound stack place t ts (says kind) from h g (at_a_token _ _ _ b w more) =
      sound_event from (event_at kind t) _ b (omega arith) w (h (stack_after kind stack) (stage_after kind stack) (stop t.span) more)
  turn-sound stack place t ts says_scalar from h g (at_a_token _ _ _ b w more) =
      sound_event from (scalar_event buffer t) _ b (omega arith) w (h stack (after_value stack) (stop t.span) more)
  turn-sound stack place t ts names from h g (at_a_token _ _ _ b w more) =
      sound-weaker buffer _ (stop t.span) from (omega arith) (g stack t more)

  mark-sound : (stack : List ContainerKind) (key mark : Token) (ts : Tokens) (b : Bool) → SoundFrom ts → goes_on after_key mark.kind ≡ b →
      InOrder buffer (stop key.span) (next mark ts) → IsSound buffer (stop key.span) (reads_colon_by by buffer stack key (next mark ts))
  unfolding reads_colon_by
  mark-sound stack key mark ts false h c o = rw (c, reads_colon_by) (sound_stuck _ _ (next mark ts) o)
  mark-sound stack key mark ts true h c (at_a_token _ _ _ b w more) =
      let rest = h stack (within after_colon) (stop mark.span) more in
      rw (c, reads_colon_by) (sound_event (stop key.span) (key_event buffer key mark) _ b (omega arith) w rest)

  -- What comes behind the root is sound.
  behind-sound : (r : Rules) (ts : Tokens) (from : ℕ) → InOrder buffer from ts → IsSound buffer from (behind_root r ts)
  behind-sound lenient_rules ts from o = sound_end from
  behind-sound strict_rules ended from o = sound_end from
  behind-sound strict_rules (refused f) from o = sound_stuck from after_root (refused f) o
  behind-sound strict_rules (next t ts) from o = sound_stuck from after_root (next t ts) o

  mutual
    unfolding reads_by

    -- What is read from tokens in order is sound.
    reads-sound : (ts : Tokens) → SoundFrom ts
    reads-sound ts stack over from o = behind-sound by ts from o
    reads-sound ended stack (within place) from o = sound_stuck from place ended o
    reads-sound (refused f) stack (within place) from o = sound_stuck from place (refused f) o
    reads-sound (next t ts) stack (within place) from o =
        let way = turn buffer place t in
        let here = turn-sound stack place t ts way from (reads-sound ts) (colon-sound ts) o in
        rw (reads-turn by buffer stack place t ts way refl) here

    colon-sound : (ts : Tokens) → SoundAfterKey ts
    colon-sound ended stack key o = sound_stuck _ _ ended o
    colon-sound (refused f) stack key o = sound_stuck _ _ (refused f) o
    colon-sound (next mark ts) stack key o = mark-sound stack key mark ts (goes_on after_key mark.kind) (reads-sound ts) refl o

-- What comes from a position on is sound, in either language.
pub comes-sound : (language : Language) (buffer : List ℕ) (stack : List ContainerKind) (stage : Stage) (position : ℕ) →
    position ≤ length buffer → IsSound buffer position (reads_by (rules language) buffer stack stage (tokens_in language buffer position))
comes-sound language buffer stack stage position h =
    reads-sound (rules language) buffer _ stack stage position (tokens_in-in_order language buffer position h)
