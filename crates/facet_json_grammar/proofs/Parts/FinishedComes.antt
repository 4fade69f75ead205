-- Where what comes is finished: the first event, and the turn of each token. Nothing is stuck there.
use Rattle.std.proofs.Common.{◌≡◌, ℕ, Bool, true, false, List, [], ◌∷◌, refl, sym, ap, ◌∙◌}
use Rattle.facet_format.specs.Complaint.{Refusal}
use Rattle.facet_format.specs.Event.{ContainerKind, Passed}
use Rattle.facet_json_token.specs.Token.{Kind, Token}
use Rattle.facet_json_token.specs.Token as token
use Rattle.facet_json_token.specs.Tokens.{Tokens, next}
use Rattle.facet_json_grammar.specs.Language.{Rules}
use Rattle.facet_json_grammar.specs.Future.{Future, gives, finished, stuck, events_before, within, is_meaningless, reads_by, reads_colon_by}
use Rattle.facet_json_grammar.specs.Place.{Place, root, before_key, after_key, after_colon, after_member, before_item, after_item, next_key, next_item, after_root, Turn, place_turn}
use Rattle.facet_json_grammar.specs.Unread.{begins_value, IsStuckUnread, at_end, at_fault, misplaced}
use Rattle.facet_json_grammar.proofs.WalkComes.{TakesValue, at_root, of_member, of_list, of_next_item, nowhere-stops, follows, reads-turn, turn-sensible, reads-meaningless, reads-ended, reads-refused, colon-ended, colon-refused, colon-missing}

-- ---- events

-- Events, then the end, begin with this event, and what comes after it are the other events, then the end.
pub record BeginsWith (ps : List Passed) (p : Passed) (future : Future) : Type 0 where
  pub others : List Passed
  pub same : ps ≡ p ∷ others
  pub behind : future ≡ events_before others finished

-- Where an event comes and then all is finished, the events begin with it.
pub begins-with : (p : Passed) (future : Future) (ps : List Passed) → gives p future ≡ events_before ps finished → BeginsWith ps p future
begins-with p future [] e = cc
begins-with p future (q ∷ ps) e = record { others = ps; same = let head : q ≡ p = cc in ap (λ x. x ∷ ps) head; behind = cc }

-- Where all is finished nothing is stuck.
pub never-stuck : (place : Place) (ts : Tokens) (ps : List Passed) → stuck place ts ≡ events_before ps finished → ⊥
never-stuck place ts [] e = cc
never-stuck place ts (q ∷ ps) e = cc

-- Where all is finished from the start no event comes.
pub nothing-left : (ps : List Passed) → finished ≡ events_before ps finished → ps ≡ []
nothing-left [] e = refl
nothing-left (q ∷ ps) e = cc

-- ---- turns

-- Where a token begins a value, a value may stand.
pub takes_value : (place : Place) (k : Kind) → begins_value (place_turn place k) ≡ true → TakesValue place
takes_value root k e = at_root
takes_value after_colon k e = of_member
takes_value before_item k e = of_list
takes_value before_key token.object_end e = cc
takes_value before_key (token.string start finish has_escapes) e = cc
takes_value before_key _ e = cc
takes_value after_key token.colon e = cc
takes_value after_key _ e = cc
takes_value after_member token.comma e = cc
takes_value after_member _ e = cc
takes_value after_item token.comma e = cc
takes_value after_item _ e = cc
takes_value next_item k e = of_next_item
takes_value next_key (token.string start finish has_escapes) e = cc
takes_value next_key _ e = cc
takes_value after_root k e = cc

module _ (by : Rules) (buffer : List ℕ) where
  -- A token takes its place's turn: it has a meaning.
  pub takes_turn : (stack : List ContainerKind) (place : Place) (t : Token) (ts : Tokens) (ps : List Passed) (way : Turn) →
      place_turn place t.kind ≡ way → reads_by by buffer stack (within place) (next t ts) ≡ events_before ps finished →
      follows by buffer place t stack ts way ≡ events_before ps finished
  takes_turn stack place t ts ps way is e = cases (is_meaningless buffer t) refl
    where
      cases : (b : Bool) → is_meaningless buffer t ≡ b → follows by buffer place t stack ts way ≡ events_before ps finished
      cases true m = absurd (never-stuck place (next t ts) ps (sym (reads-meaningless by buffer stack place t ts m) ∙ e))
      cases false m = sym (reads-turn by buffer stack place t ts way (turn-sensible buffer place t m ∙ is)) ∙ e

  -- What is refused unread doesn't stand there.
  pub never-unread : (stack : List ContainerKind) (place : Place) (ts : Tokens) (r : Refusal) (ps : List Passed) →
      IsStuckUnread buffer place ts r → reads_by by buffer stack (within place) ts ≡ events_before ps finished → ⊥
  never-unread stack place _ _ ps (at_end _) e = never-stuck place _ ps (sym (reads-ended by buffer stack place) ∙ e)
  never-unread stack place _ _ ps (at_fault _ f) e = never-stuck place _ ps (sym (reads-refused by buffer stack place f) ∙ e)
  never-unread stack place _ _ ps (misplaced _ t rest never) e =
      never-stuck place (next t rest) ps (takes_turn stack place t rest ps _ (nowhere-stops _ never) e)

  -- Nor does it after a key.
  pub never-unread_colon : (stack : List ContainerKind) (key : Token) (ts : Tokens) (r : Refusal) (ps : List Passed) →
      IsStuckUnread buffer after_key ts r → reads_colon_by by buffer stack key ts ≡ events_before ps finished → ⊥
  never-unread_colon stack key _ _ ps (at_end _) e = never-stuck after_key _ ps (sym (colon-ended by buffer stack key) ∙ e)
  never-unread_colon stack key _ _ ps (at_fault _ f) e = never-stuck after_key _ ps (sym (colon-refused by buffer stack key f) ∙ e)
  never-unread_colon stack key _ _ ps (misplaced _ t rest never) e =
      never-stuck after_key _ ps (sym (colon-missing by buffer stack key t rest never) ∙ e)
