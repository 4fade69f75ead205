-- The first bracket beyond a limit, event by event.
use Rattle.std.proofs.Common.{◌≡◌, ℕ, zero, suc, true, List, [], ◌∷◌, Option, None, Some, refl, ap, ◌∙◌}
use Rattle.facet_format.specs.Span.{Span}
use Rattle.facet_format.specs.Event.{ContainerKind, EventKind, struct_start, struct_end, sequence_start, sequence_end, field_key, scalar, Text, Passed}
use Rattle.facet_json_token.specs.Tokens.{Tokens}
use Rattle.facet_json_grammar.specs.Place.{Place}
use Rattle.facet_json_grammar.specs.Future.{Future, gives, finished, stuck, events_before}
use Rattle.facet_json_core.specs.Told.{opens}
use Rattle.facet_json_tree.specs.Depth.{outer, beyond_bracket, beyond_event, events_beyond, beyond}
use Rattle.facet_json_tree.specs.Inner.Beyond.{inner, Admits, SameBeyond}

-- ---- without a limit

event-none : (kind : EventKind) (span : Span) (others : Option ℕ → Option Span) → others None ≡ None →
    beyond_event kind span others None ≡ None
event-none (struct_start c) span others h = h
event-none struct_end span others h = h
event-none (sequence_start c) span others h = h
event-none sequence_end span others h = h
event-none (field_key name) span others h = h
event-none (scalar value) span others h = h

-- Where no limit is set, nothing is beyond.
pub unlimited-none : (f : Future) → beyond f None ≡ None
unlimited-none finished = refl
unlimited-none (stuck place rest) = refl
unlimited-none (gives p f) = event-none p.event.kind p.event.span (beyond f) (unlimited-none f)

-- ---- one event

-- What is beyond from a bracket on, where one more may be opened.
bracket-inner : (span : Span) (others : Option ℕ → Option Span) (limit : Option ℕ) → Admits limit →
    beyond_bracket span others limit ≡ others (inner limit)
bracket-inner span others None h = refl
bracket-inner span others (Some zero) h = absurd (h refl)
bracket-inner span others (Some (suc n)) h = refl

-- After one that may be opened has ended, as many may be opened as before.
pub outer-inner : (limit : Option ℕ) → Admits limit → outer (inner limit) ≡ limit
outer-inner None h = refl
outer-inner (Some zero) h = absurd (h refl)
outer-inner (Some (suc n)) h = refl

bracket-kind : (kind : EventKind) (span : Span) (others : Option ℕ → Option Span) → opens kind ≡ true →
    beyond_event kind span others (Some 0) ≡ Some span
bracket-kind (struct_start c) span others e = refl
bracket-kind struct_end span others e = cc
bracket-kind (sequence_start c) span others e = refl
bracket-kind sequence_end span others e = cc
bracket-kind (field_key name) span others e = cc
bracket-kind (scalar value) span others e = cc

module _ (p : Passed) (f : Future) (limit : Option ℕ) where
  at_kind : (kind : EventKind) → p.event.kind ≡ kind → beyond (gives p f) limit ≡ beyond_event kind p.event.span (beyond f) limit
  at_kind kind k = ap (λ x. beyond_event x p.event.span (beyond f) limit) k

  pub key-level : (name : Text) → p.event.kind ≡ field_key name → beyond (gives p f) limit ≡ beyond f limit
  key-level name k = at_kind (field_key name) k

  pub list-level : (c : ContainerKind) → p.event.kind ≡ sequence_start c → Admits limit → beyond (gives p f) limit ≡ beyond f (inner limit)
  list-level c k h = at_kind (sequence_start c) k ∙ bracket-inner p.event.span (beyond f) limit h

  pub object-level : (c : ContainerKind) → p.event.kind ≡ struct_start c → Admits limit → beyond (gives p f) limit ≡ beyond f (inner limit)
  object-level c k h = at_kind (struct_start c) k ∙ bracket-inner p.event.span (beyond f) limit h

  -- A bracket where no more containers may be opened is beyond.
  pub bracket-beyond : opens p.event.kind ≡ true → limit ≡ Some 0 → beyond (gives p f) limit ≡ Some p.event.span
  bracket-beyond o e = ap (beyond (gives p f)) e ∙ bracket-kind p.event.kind p.event.span (beyond f) o

-- ---- what a reader passes

-- Where nothing is passed, the same is beyond.
pub none-leveled : {limit : Option ℕ} {start : Future} → SameBeyond start limit start limit
none-leveled = record { same = refl }

-- What is beyond from a value's first event on is so from before it on.
pub value-leveled : {limit : Option ℕ} {start : Future} {p : Passed} {f rest : Future} → start ≡ gives p f →
    SameBeyond (gives p f) limit rest limit → SameBeyond start limit rest limit
value-leveled {limit = limit} comes past = record { same = ap (λ g. beyond g limit) comes ∙ past.same }

module _ {limit : Option ℕ} {start here : Future} where
  -- What is beyond stays so past an item.
  pub item-leveled : {p : Passed} {f rest : Future} → SameBeyond start limit here limit → here ≡ gives p f →
      SameBeyond (gives p f) limit rest limit → SameBeyond start limit rest limit
  item-leveled level comes past = record { same = level.same ∙ ap (λ g. beyond g limit) comes ∙ past.same }

  -- And past a member.
  pub member-leveled : {key : Passed} {f : Future} {name : Text} {p : Passed} {g rest : Future} → SameBeyond start limit here limit →
      here ≡ gives key f → key.event.kind ≡ field_key name → f ≡ gives p g → SameBeyond (gives p g) limit rest limit →
      SameBeyond start limit rest limit
  member-leveled {key = key} {f = f} {name = name} level comes k value past = record {
    same = level.same ∙ ap (λ h. beyond h limit) comes ∙ key-level key f limit name k ∙ ap (λ h. beyond h limit) value ∙ past.same;
  }

  -- Behind the end of a list one more container may be opened.
  pub items-leveled : {p : Passed} {f : Future} → SameBeyond start limit here limit → here ≡ gives p f → p.event.kind ≡ sequence_end →
      SameBeyond start limit f (outer limit)
  items-leveled {p = p} {f = f} level comes k =
      record { same = level.same ∙ ap (λ g. beyond g limit) comes ∙ at_kind p f limit sequence_end k }

  -- And behind the end of an object.
  pub members-leveled : {p : Passed} {f : Future} → SameBeyond start limit here limit → here ≡ gives p f → p.event.kind ≡ struct_end →
      SameBeyond start limit f (outer limit)
  members-leveled {p = p} {f = f} level comes k =
      record { same = level.same ∙ ap (λ g. beyond g limit) comes ∙ at_kind p f limit struct_end k }

-- ---- events that are read before nothing goes on

event-same : (kind : EventKind) (span : Span) (these those : Option ℕ → Option Span) (limit : Option ℕ) →
    ((l : Option ℕ) → these l ≡ those l) → beyond_event kind span these limit ≡ beyond_event kind span those limit
event-same (struct_start c) span these those None h = h None
event-same (struct_start c) span these those (Some zero) h = refl
event-same (struct_start c) span these those (Some (suc n)) h = h (Some n)
event-same struct_end span these those limit h = h (outer limit)
event-same (sequence_start c) span these those None h = h None
event-same (sequence_start c) span these those (Some zero) h = refl
event-same (sequence_start c) span these those (Some (suc n)) h = h (Some n)
event-same sequence_end span these those limit h = h (outer limit)
event-same (field_key name) span these those limit h = h limit
event-same (scalar value) span these those limit h = h limit

-- Of events before a place where nothing goes on, the first beyond is theirs.
pub stuck-beyond : (events : List Passed) (place : Place) (rest : Tokens) (limit : Option ℕ) →
    beyond (events_before events (stuck place rest)) limit ≡ events_beyond events limit
stuck-beyond [] place rest limit = refl
stuck-beyond (p ∷ events) place rest limit =
    event-same p.event.kind p.event.span _ _ limit (λ l. stuck-beyond events place rest l)
