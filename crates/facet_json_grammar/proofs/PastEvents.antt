-- After an event comes what came after it: the place after it is known from the event alone. The event lies within the input.
use Rattle.std.specs.Prelude.{ℕ, List}
use Rattle.std.proofs.Common.{◌≡◌, ℕ, ◌<◌, ◌≤◌, Bool, true, false, List, length, refl, sym, subst, ◌∙◌}
use Rattle.facet_format.specs.Span.{stop}
use Rattle.facet_format.specs.Event.{ContainerKind, Passed}
use Rattle.facet_json_token.specs.Token.{Token}
use Rattle.facet_json_token.specs.Tokens.{Tokens, ended, refused, next}
use Rattle.facet_json_grammar.specs.Language.{Language, rules, Rules, lenient_rules, strict_rules}
use Rattle.facet_json_grammar.specs.StrictTokens.{tokens_in}
use Rattle.facet_json_grammar.specs.Place.{Place, after_key, after_colon, Turn, stops, passes, says, says_scalar, names, goes_on, led}
use Rattle.facet_json_grammar.proofs.InOrder.{InOrder}
use Rattle.facet_json_grammar.specs.Walk.{event_at, scalar_event, key_event}
use Rattle.facet_json_grammar.specs.Future.{Future, gives, stuck, Stage, within, over, stack_after, stage_after, turn, behind_root, reads_by, reads_colon_by}
use Rattle.facet_json_grammar.specs.Reader.{Reader, past, future_at}
use Rattle.facet_json_grammar.proofs.TokensIn.{tokens_in-others}
use Rattle.facet_json_grammar.proofs.WalkComes.{follows, reads-turn}
use Rattle.facet_json_grammar.proofs.EventsInOrder.{IsSound, sound_event, sound_stuck, comes-sound}

-- ---- what the tokens give

module _ (language : Language) (buffer : List ℕ) where
  -- This comes after the event, within these containers.
  abbrev ComesPast : List ContainerKind → Passed → Future → Type 0
  ComesPast stack p rest =
      reads_by (rules language) buffer (stack_after p.event.kind stack) (stage_after p.event.kind stack) (tokens_in language buffer (stop p.last)) ≡ rest

  -- What stands first among the tokens from a position on has this after it.
  abbrev PastTokens : Tokens → Type 0
  PastTokens ts = (stack : List ContainerKind) (stage : Stage) (from : ℕ) (p : Passed) (rest : Future) →
      tokens_in language buffer from ≡ ts → reads_by (rules language) buffer stack stage ts ≡ gives p rest → ComesPast stack p rest

  -- An event comes, and this after it.
  event_past : (stack : List ContainerKind) (q p : Passed) (future rest : Future) → gives q future ≡ gives p rest →
      ComesPast stack q future → ComesPast stack p rest
  event_past stack q p future rest e there =
      let same : q ≡ p = cc in
      let after : future ≡ rest = cc in
      subst (λ x. ComesPast stack x rest) same (there ∙ after)

  turn_past : (stack : List ContainerKind) (place : Place) (t : Token) (ts : Tokens) (way : Turn) (p : Passed) (rest : Future) →
      PastTokens ts → (reads_colon_by (rules language) buffer stack t ts ≡ gives p rest → ComesPast stack p rest) →
      tokens_in language buffer (stop t.span) ≡ ts → follows (rules language) buffer place t stack ts way ≡ gives p rest → ComesPast stack p rest
  turn_past stack place t ts stops p rest h g from e = cc
  turn_past stack place t ts (passes other) p rest h g from e = h stack (within (led (rules language) other)) (stop t.span) p rest from e
  turn_past stack place t ts (says kind) p rest h g from e = event_past stack (event_at kind t) p _ rest e (rw from refl)
  turn_past stack place t ts says_scalar p rest h g from e = event_past stack (scalar_event buffer t) p _ rest e (rw from refl)
  turn_past stack place t ts names p rest h g from e = g e

  mark_past : (stack : List ContainerKind) (key mark : Token) (ts : Tokens) (b : Bool) (p : Passed) (rest : Future) →
      goes_on after_key mark.kind ≡ b → tokens_in language buffer (stop mark.span) ≡ ts →
      reads_colon_by (rules language) buffer stack key (next mark ts) ≡ gives p rest → ComesPast stack p rest
  unfolding reads_colon_by
  mark_past stack key mark ts false p rest c from e =
      let none : reads_colon_by (rules language) buffer stack key (next mark ts) ≡ stuck after_key (next mark ts) = rw (c, reads_colon_by) refl in cc
  mark_past stack key mark ts true p rest c from e =
      let after = reads_by (rules language) buffer stack (within after_colon) ts in
      let some : reads_colon_by (rules language) buffer stack key (next mark ts) ≡ gives (key_event buffer key mark) after = rw (c, reads_colon_by) refl in
      event_past stack (key_event buffer key mark) p _ rest (sym some ∙ e) (rw from refl)

  colon_past : (ts : Tokens) (stack : List ContainerKind) (key : Token) (from : ℕ) (p : Passed) (rest : Future) →
      tokens_in language buffer from ≡ ts → reads_colon_by (rules language) buffer stack key ts ≡ gives p rest → ComesPast stack p rest
  unfolding reads_colon_by
  colon_past ended stack key from p rest at e = cc
  colon_past (refused f) stack key from p rest at e = cc
  colon_past (next mark ts) stack key from p rest at e =
      mark_past stack key mark ts (goes_on after_key mark.kind) p rest refl (tokens_in-others language buffer from mark ts at) e

  -- Behind the root no event comes.
  pub nothing-behind : (r : Rules) (ts : Tokens) (p : Passed) (rest : Future) → behind_root r ts ≡ gives p rest → ⊥
  nothing-behind lenient_rules ts p rest e = cc
  nothing-behind strict_rules ended p rest e = cc
  nothing-behind strict_rules (refused f) p rest e = cc
  nothing-behind strict_rules (next t ts) p rest e = cc

  tokens_past_event : (ts : Tokens) → PastTokens ts
  unfolding reads_by
  tokens_past_event ts stack over from p rest at e = absurd (nothing-behind (rules language) ts p rest e)
  tokens_past_event ended stack (within place) from p rest at e = cc
  tokens_past_event (refused f) stack (within place) from p rest at e = cc
  tokens_past_event (next t ts) stack (within place) from p rest at e =
      let way = turn buffer place t in
      let others = tokens_in-others language buffer from t ts at in
      turn_past stack place t ts way p rest (tokens_past_event ts) (colon_past ts stack t (stop t.span) p rest others)
      others (sym (reads-turn (rules language) buffer stack place t ts way refl) ∙ e)

-- ---- from a place of an input

-- After an event comes what comes at the place after it.
pub past-comes : (buffer : List ℕ) (language : Language) (s : Reader) (p : Passed) (rest : Future) →
    future_at buffer language s ≡ gives p rest → future_at buffer language (past p s) ≡ rest
past-comes buffer language s p rest e =
    let at = stop s.last in
    tokens_past_event language buffer (tokens_in language buffer at) s.stack s.stage at p rest refl e

-- What comes from a place within the input lies after it.
comes_in_order : (buffer : List ℕ) (language : Language) (s : Reader) (future : Future) → stop s.last ≤ length buffer →
    future_at buffer language s ≡ future → IsSound buffer (stop s.last) future
comes_in_order buffer language s future w e =
    subst (IsSound buffer (stop s.last)) e (comes-sound language buffer s.stack s.stage (stop s.last) w)

event_within : (buffer : List ℕ) (from : ℕ) (p : Passed) (rest : Future) → IsSound buffer from (gives p rest) →
    (from < stop p.last) × (stop p.event.span ≤ stop p.last) × (stop p.last ≤ length buffer)
event_within buffer from p rest (sound_event _ _ _ b e w more) = (b, e, w)

-- So an event lies within the input, after the last token before it.
pub comes-within : (buffer : List ℕ) (language : Language) (s : Reader) (p : Passed) (rest : Future) → stop s.last ≤ length buffer →
    future_at buffer language s ≡ gives p rest →
    (stop s.last < stop p.last) × (stop p.event.span ≤ stop p.last) × (stop p.last ≤ length buffer)
comes-within buffer language s p rest w e = event_within buffer (stop s.last) p rest (comes_in_order buffer language s _ w e)

stuck_in_order : (buffer : List ℕ) (from : ℕ) (place : Place) (rest : Tokens) → IsSound buffer from (stuck place rest) →
    InOrder buffer from rest
stuck_in_order buffer from place rest (sound_stuck _ _ _ o) = o

-- The tokens with which no document goes on are in order, and lie after the last token before them.
pub stuck-in_order : (buffer : List ℕ) (language : Language) (s : Reader) (place : Place) (rest : Tokens) → stop s.last ≤ length buffer →
    future_at buffer language s ≡ stuck place rest → InOrder buffer (stop s.last) rest
stuck-in_order buffer language s place rest w e = stuck_in_order buffer (stop s.last) place rest (comes_in_order buffer language s _ w e)
