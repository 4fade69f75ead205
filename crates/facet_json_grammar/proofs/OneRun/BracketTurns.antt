-- What a token at a place is to the brackets around it, by its turn there.
use Rattle.std.proofs.Common.{◌≡◌, Bool, true, false, cond, List, Some, refl, ◌∙◌}
use Rattle.facet_format.specs.Event.{ContainerKind, object, array, EventKind}
use Rattle.facet_format.specs.Event as event
use Rattle.facet_json_token.specs.Token.{Kind, Token}
use Rattle.facet_json_token.specs.Token as token
use Rattle.facet_json_token.specs.Tokens.{Tokens, next}
use Rattle.facet_json_grammar.specs.Future.{within, stack_after, stage_after, after_value, around}
use Rattle.facet_json_grammar.specs.Language.{Rules, lenient_rules, strict_rules}
use Rattle.facet_json_grammar.specs.Node.{is_scalar}
use Rattle.facet_json_grammar.specs.Place.{Place, root, before_key, after_key, after_colon, after_member, before_item, after_item, next_key, next_item, after_root, Turn, stops, passes, says, says_scalar, names, place_turn, led}
use Rattle.facet_json_grammar.specs.Run.{opening, closing, is_separator, one_token}
use Rattle.facet_json_grammar.specs.Unread.{closes_container}
use Rattle.facet_json_grammar.proofs.OneRun.OpenBrackets.{Opens, past_opening, container_of, innermost, StageOpen, run-passed, closing-passed, separator-passed, key-passed}

-- ---- turns

-- A token of this kind at the place, where this is its turn.
abbrev pub TurnsTo : Place → Kind → Turn → Type 0
TurnsTo place k stops = k ≡ k
TurnsTo place k (passes other) =
    (is_separator k ≡ true) × (container_of other ≡ container_of place) × (kind : ContainerKind) × (Some kind ≡ container_of place)
TurnsTo place k (says (event.struct_start opened)) = k ≡ opening object
TurnsTo place k (says event.struct_end) = (k ≡ closing object) × (Some object ≡ container_of place)
TurnsTo place k (says (event.sequence_start opened)) = k ≡ opening array
TurnsTo place k (says event.sequence_end) = (k ≡ closing array) × (Some array ≡ container_of place)
TurnsTo place k (says (event.field_key name)) = ⊥
TurnsTo place k (says (event.scalar v)) = ⊥
TurnsTo place k says_scalar = is_scalar k ≡ true
TurnsTo place k names = (is_scalar k ≡ true) × (Some object ≡ container_of place)

pub turns : (place : Place) (k : Kind) → TurnsTo place k (place_turn place k)
turns root token.object_start = refl
turns root _ = refl
turns before_key token.object_end = (refl, refl)
turns before_key (token.string start finish has_escapes) = (refl, refl)
turns before_key _ = refl
turns after_key token.colon = (refl, refl, object, refl)
turns after_key _ = refl
turns after_colon token.object_start = refl
turns after_colon _ = refl
turns after_member token.comma = (refl, refl, object, refl)
turns after_member token.object_end = (refl, refl)
turns after_member _ = refl
turns before_item token.array_end = (refl, refl)
turns before_item _ = refl
turns after_item token.comma = (refl, refl, array, refl)
turns after_item token.array_end = (refl, refl)
turns after_item _ = refl
turns next_key (token.string start finish has_escapes) = (refl, refl)
turns next_key _ = refl
turns next_item token.object_start = refl
turns next_item _ = refl
turns after_root _ = refl

-- A token without a meaning stops.
pub sensible-turns : (place : Place) (k : Kind) (b : Bool) (way : Turn) → TurnsTo place k way → TurnsTo place k (cond b stops way)
sensible-turns place k true way w = refl
sensible-turns place k false way w = w

-- The place that a separator leads to is in the same container by either rules.
led-inside : (by : Rules) (place : Place) → container_of (led by place) ≡ container_of place
led-inside lenient_rules place = refl
led-inside strict_rules before_key = refl
led-inside strict_rules before_item = refl
led-inside strict_rules _ = refl

-- ---- what is open after a token

module _ (all : Tokens) (stack : List ContainerKind) (place : Place) (t : Token) (rest : Tokens)
    (inside : container_of place ≡ innermost stack) (opened : Opens all stack (next t rest)) where
  -- after one that says an event
  pub says-open : (kind : EventKind) → TurnsTo place t.kind (says kind) → StageOpen all (stack_after kind stack) (stage_after kind stack) rest
  says-open (event.struct_start kind) w = (past_opening object stack t rest opened w, refl)
  says-open event.struct_end w = closing-passed all object stack t rest (w.1 ∙ inside) opened w.0
  says-open (event.sequence_start kind) w = (past_opening array stack t rest opened w, refl)
  says-open event.sequence_end w = closing-passed all array stack t rest (w.1 ∙ inside) opened w.0
  says-open (event.field_key name) w = absurd w
  says-open (event.scalar v) w = absurd w

  -- after a separator, at the place that it leads to
  pub separator-open : (by : Rules) (other : Place) → TurnsTo place t.kind (passes other) → StageOpen all stack (within (led by other)) rest
  separator-open by other w = (separator-passed all w.2 stack t rest (w.3 ∙ inside) opened w.0, led-inside by other ∙ w.1 ∙ inside)

  -- after a scalar
  pub scalar-open : is_scalar t.kind ≡ true → StageOpen all stack (after_value stack) rest
  scalar-open w = run-passed all stack (next t rest) rest t opened (one_token t rest w)

  -- after a key
  pub key-open : TurnsTo place t.kind names → Opens all stack rest
  key-open w = key-passed all object stack (next t rest) rest t (w.1 ∙ inside) opened (one_token t rest w.0)

  -- after a closing bracket
  pub closing-open : (way : Turn) → TurnsTo place t.kind way → closes_container way ≡ true →
      StageOpen all (around stack) (after_value (around stack)) rest
  closing-open (says event.struct_end) w c = says-open event.struct_end w
  closing-open (says event.sequence_end) w c = says-open event.sequence_end w
  closing-open _ w c = cc
