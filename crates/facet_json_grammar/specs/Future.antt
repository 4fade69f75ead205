-- What a reader still has to give out, from a place in a document on that may not be whole (RFC 8259, sections 2 to 5).
use Rattle.std.specs.Prelude.{ℕ, Bool, true, false, cond, List, [], ◌∷◌, ◌&&◌, is_none}
use Rattle.facet_json_token.specs.Token.{Token}
use Rattle.facet_json_token.specs.Tokens.{Tokens, ended, refused, next}
use Rattle.facet_json_grammar.specs.Language.{Rules, lenient_rules, strict_rules}
use Rattle.facet_json_grammar.specs.Meaning.{meaning}
use Rattle.facet_json_grammar.specs.Place.{Place, before_key, after_key, after_colon, after_member, before_item, after_item, after_root, Turn, stops, passes, says, says_scalar, names, place_turn, goes_on, led}
use Rattle.facet_json_grammar.specs.Refusal.{needs_meaning}
use Rattle.facet_format.specs.Event.{ContainerKind, object, array, EventKind, Passed}
use Rattle.facet_format.specs.Event as event
use Rattle.facet_json_grammar.specs.Walk.{event_at, scalar_event, key_event}

-- the events that are still read, and how they end: with the root, or where no document goes on
pub data Future : Type 0 where
  gives : Passed → Future → Future
  finished : Future
  -- at this place, before these tokens
  stuck : Place → Tokens → Future

-- these events, and then what comes after them
abbrev pub events_before : List Passed → Future → Future
events_before [] future = future
events_before (p ∷ events) future = gives p (events_before events future)

-- a place within the root, or after its end
pub data Stage : Type 0 where
  within : Place → Stage
  over : Stage

-- where a value has ended that stands in these open containers, the innermost first
abbrev pub after_value : List ContainerKind → Stage
after_value [] = over
after_value (object ∷ stack) = within after_member
after_value (array ∷ stack) = within after_item

-- the containers around the innermost one
abbrev pub around : List ContainerKind → List ContainerKind
around [] = []
around (kind ∷ stack) = stack

-- the open containers after an event
abbrev pub stack_after : EventKind → List ContainerKind → List ContainerKind
stack_after (event.struct_start kind) stack = object ∷ stack
stack_after event.struct_end stack = around stack
stack_after (event.sequence_start kind) stack = array ∷ stack
stack_after event.sequence_end stack = around stack
stack_after (event.field_key name) stack = stack
stack_after (event.scalar value) stack = stack

-- the place after an event, in the containers that are open before it
abbrev pub stage_after : EventKind → List ContainerKind → Stage
stage_after (event.struct_start kind) stack = within before_key
stage_after event.struct_end stack = after_value (around stack)
stage_after (event.sequence_start kind) stack = within before_item
stage_after event.sequence_end stack = after_value (around stack)
stage_after (event.field_key name) stack = within after_colon
stage_after (event.scalar value) stack = after_value stack

-- ---- one token

-- The token is a string or number without a meaning.
abbrev pub is_meaningless : List ℕ → Token → Bool
is_meaningless buffer t = needs_meaning t.kind && is_none (meaning buffer t)

-- A string or number without a meaning is stuck at whatever place.
abbrev pub turn : List ℕ → Place → Token → Turn
turn buffer place t = cond (is_meaningless buffer t) stops (place_turn place t.kind)

-- ---- all tokens

-- what comes behind the root, before these tokens: nothing, and where the rules are strict none may stand there
abbrev pub behind_root : Rules → Tokens → Future
behind_root lenient_rules ts = finished
behind_root strict_rules ended = finished
behind_root strict_rules ts = stuck after_root ts

unfoldable mutual
  -- what the tokens give from a stage on, by these rules and within these containers
  pub reads_by : Rules → List ℕ → List ContainerKind → Stage → Tokens → Future
  reads_by r buffer stack over ts = behind_root r ts
  reads_by r buffer stack (within place) ended = stuck place ended
  reads_by r buffer stack (within place) (refused f) = stuck place (refused f)
  reads_by r buffer stack (within place) (next t rest) = elim (turn buffer place t) [
    | stops ↦ stuck place (next t rest)
    | passes other ↦ reads_by r buffer stack (within (led r other)) rest
    | says kind ↦ gives (event_at kind t) (reads_by r buffer (stack_after kind stack) (stage_after kind stack) rest)
    | says_scalar ↦ gives (scalar_event buffer t) (reads_by r buffer stack (after_value stack) rest)
    | names ↦ reads_colon_by r buffer stack t rest
  ]

  -- the same after a key
  pub reads_colon_by : Rules → List ℕ → List ContainerKind → Token → Tokens → Future
  reads_colon_by r buffer stack key ended = stuck after_key ended
  reads_colon_by r buffer stack key (refused f) = stuck after_key (refused f)
  reads_colon_by r buffer stack key (next mark rest) = elim (goes_on after_key mark.kind) [
    | false ↦ stuck after_key (next mark rest)
    | true ↦ gives (key_event buffer key mark) (reads_by r buffer stack (within after_colon) rest)
  ]

-- the same by lenient rules
abbrev pub reads : List ℕ → List ContainerKind → Stage → Tokens → Future
reads = reads_by lenient_rules

abbrev pub reads_colon : List ℕ → List ContainerKind → Token → Tokens → Future
reads_colon = reads_colon_by lenient_rules
