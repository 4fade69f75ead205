-- A prefix gives those events of a walk whose last tokens are its own.
use Rattle.std.proofs.Common.{◌≡◌, ℕ, ◌<◌, ◌≤◌, Bool, true, false, List, [], ◌∷◌, refl, sym, ap, subst, arith}
use Rattle.std.specs.Prelude.{ℕ, List, All}
use Rattle.std.proofs.lemmas.List.Elements.{All-nil, All-cons, All-weaker, All-contains}
use Rattle.facet_format.specs.Event.{ContainerKind, Passed}
use Rattle.facet_format.specs.Span.{stop}
use Rattle.facet_json_token.specs.Token.{Token}
use Rattle.facet_json_token.specs.Tokens.{Tokens, ended, refused, next}
use Rattle.facet_json_grammar.specs.Language.{lenient_rules}
use Rattle.facet_json_grammar.specs.Future.{Future, gives, finished, stuck, events_before, Stage, within, over, after_value, stack_after, stage_after, turn, reads, reads_by, reads_colon, reads_colon_by}
use Rattle.facet_json_grammar.proofs.InOrder.{InOrder, at_a_token}
use Rattle.facet_json_grammar.specs.Place.{Place, after_key, after_colon, Turn, stops, passes, says, says_scalar, names, goes_on}
use Rattle.facet_json_grammar.specs.Order.{count}
use Rattle.facet_json_grammar.specs.Walk.{event_at, scalar_event, key_event}
use Rattle.facet_json_grammar.proofs.TokensInOrder.{tokens-in_order}
use Rattle.facet_json_grammar.proofs.WalkComes.{follows, reads-turn}
use Rattle.facet_json_grammar.specs.Begun.{tokens_before}
use Rattle.facet_json_grammar.specs.EventLaws.{EndsAmong, PrefixGivesWalk}
use Rattle.facet_json_grammar.proofs.BegunIsPrefix.{begun-completes, before-suffix}
use Rattle.facet_json_grammar.proofs.ValueOrPrefix.{suffix-count}
use Rattle.facet_json_grammar.proofs.LongestPrefix.{IsReadAt, at_stage, at_key, front-walk}

-- ---- tokens before others

-- Tokens before the same ones are the same.
before-same : (a b : List Token) (rest : Tokens) → tokens_before a rest ≡ tokens_before b rest → a ≡ b
before-same [] [] rest e = refl
before-same [] (t ∷ b) rest e = absurd (omega (arith, suffix-count _ _ (before-suffix b rest), ap count e))
before-same (t ∷ a) [] rest e = absurd (omega (arith, suffix-count _ _ (before-suffix a rest), ap count e))
before-same (t ∷ a) (u ∷ b) rest e =
    let first : t ≡ u = cc in
    let others : tokens_before a rest ≡ tokens_before b rest = cc in
    let same = before-same a b rest others in
    cc

-- Tokens in order end by some offset, after which the others stand.
record EndBy (buffer : List ℕ) (from : ℕ) (prefix : List Token) (mid : Tokens) : Type 0 where
  end : ℕ
  later : from ≤ end
  behind : InOrder buffer end mid
  own : All (λ t. stop t.span ≤ end) prefix

end_by : (buffer : List ℕ) (from : ℕ) (prefix : List Token) (mid : Tokens) → InOrder buffer from (tokens_before prefix mid) →
    EndBy buffer from prefix mid
end_by buffer from [] mid o = record { end = from; later = omega arith; behind = o; own = All-nil (λ t. stop t.span ≤ from) }
end_by buffer from (t ∷ prefix) mid (at_a_token _ _ _ b w more) =
    let found = end_by buffer (stop t.span) prefix mid more in
    let later = found.later in
    record {
      end = found.end;
      later = omega arith;
      behind = found.behind;
      own = All-cons (λ u. stop u.span ≤ found.end) t prefix later found.own;
    }

-- ---- events after an offset

-- The last tokens of what comes end after the offset.
data IsLater (from : ℕ) : Future → Type 0 where
  one_later : (p : Passed) (future : Future) → from < stop p.last → IsLater from future → IsLater from (gives p future)
  none_later : IsLater from finished
  stuck_later : (place : Place) (rest : Tokens) → IsLater from (stuck place rest)

later-weaker : (from less : ℕ) (future : Future) → less ≤ from → IsLater from future → IsLater less future
later-weaker from less _ h (one_later p future b more) = one_later p future (omega arith) (later-weaker from less future h more)
later-weaker from less _ h none_later = none_later
later-weaker from less _ h (stuck_later place rest) = stuck_later place rest

later-events : (from : ℕ) (events : List Passed) → IsLater from (events_before events finished) →
    All (λ p. from < stop p.last) events
later-events from [] l = All-nil (λ p. from < stop p.last)
later-events from (p ∷ events) (one_later _ _ b more) =
    All-cons (λ q. from < stop q.last) p events b (later-events from events more)

module _ (buffer : List ℕ) where
  -- What is read from tokens in order after an offset comes after it.
  abbrev LaterFrom : Tokens → Type 0
  LaterFrom ts = (stack : List ContainerKind) (stage : Stage) (from : ℕ) → InOrder buffer from ts →
      IsLater from (reads buffer stack stage ts)

  -- the same after a key
  abbrev LaterAfterKey : Tokens → Type 0
  LaterAfterKey ts = (stack : List ContainerKind) (key : Token) (from : ℕ) → InOrder buffer from ts →
      IsLater from (reads_colon buffer stack key ts)

  turn-later : (stack : List ContainerKind) (place : Place) (t : Token) (ts : Tokens) (way : Turn) (from : ℕ) → LaterFrom ts →
      LaterAfterKey ts → InOrder buffer from (next t ts) → IsLater from (follows lenient_rules buffer place t stack ts way)
  turn-later stack place t ts stops from h g o = stuck_later place (next t ts)
  turn-later stack place t ts (passes other) from h g (at_a_token _ _ _ b w more) =
      later-weaker (stop t.span) from _ (omega arith) (h stack (within other) (stop t.span) more)
  turn-later stack place t ts (says kind) from h g (at_a_token _ _ _ b w more) =
      let rest = h (stack_after kind stack) (stage_after kind stack) (stop t.span) more in
      one_later (event_at kind t) _ b (later-weaker (stop t.span) from _ (omega arith) rest)
  turn-later stack place t ts says_scalar from h g (at_a_token _ _ _ b w more) =
      one_later (scalar_event buffer t) _ b (later-weaker (stop t.span) from _ (omega arith) (h stack (after_value stack) (stop t.span) more))
  turn-later stack place t ts names from h g (at_a_token _ _ _ b w more) =
      later-weaker (stop t.span) from _ (omega arith) (g stack t (stop t.span) more)

  mark-later : (stack : List ContainerKind) (key mark : Token) (ts : Tokens) (b : Bool) (from : ℕ) → LaterFrom ts →
      goes_on after_key mark.kind ≡ b → InOrder buffer from (next mark ts) → IsLater from (reads_colon buffer stack key (next mark ts))
  unfolding reads_colon_by
  mark-later stack key mark ts false from h c o = rw (c, reads_colon_by) (stuck_later _ (next mark ts))
  mark-later stack key mark ts true from h c (at_a_token _ _ _ b w more) =
      rw (c, reads_colon_by) (one_later (key_event buffer key mark) _ b (later-weaker (stop mark.span) from _ (omega arith) (h stack (within after_colon) (stop mark.span) more)))

  mutual
    unfolding reads_by

    reads-later : (ts : Tokens) → LaterFrom ts
    reads-later ts stack over from o = none_later
    reads-later ended stack (within place) from o = stuck_later place ended
    reads-later (refused f) stack (within place) from o = stuck_later place (refused f)
    reads-later (next t ts) stack (within place) from o =
        rw (reads-turn lenient_rules buffer stack place t ts (turn buffer place t) refl) (turn-later stack place t ts (turn buffer place t) from (reads-later ts) (colon-later ts) o)

    colon-later : (ts : Tokens) → LaterAfterKey ts
    colon-later ended stack key from o = stuck_later _ ended
    colon-later (refused f) stack key from o = stuck_later _ (refused f)
    colon-later (next mark ts) stack key from o = mark-later stack key mark ts (goes_on after_key mark.kind) from (reads-later ts) refl o

  -- What is read from a place on comes after the offset.
  read-later : (future : Future) (here : Stage) (ts : Tokens) (from : ℕ) → InOrder buffer from ts → IsReadAt buffer future here ts →
      IsLater from future
  read-later future here ts from o (at_stage stack f) = subst (IsLater from) (sym f) (reads-later ts stack here from o)
  read-later future here ts from o (at_key stack key k f) = subst (IsLater from) (sym f) (colon-later ts stack key from o)

-- ---- the law

-- Events that end after all of these tokens end in none of them.
ends-elsewhere : (prefix : List Token) (end : ℕ) (events : List Passed) → All (λ t. stop t.span ≤ end) prefix →
    All (λ p. end < stop p.last) events → All (λ p. EndsAmong prefix p → ⊥) events
ends-elsewhere prefix end events own later =
    All-weaker (λ p. end < stop p.last) (λ p. EndsAmong prefix p → ⊥)
    (λ p after ends. omega (arith, after, All-contains (λ t. stop t.span ≤ end) prefix ends.0 own ends.1, ap stop ends.2)) events later

pub prefix_gives_walk : PrefixGivesWalk
prefix_gives_walk buffer mode prefix mid rest node value events here b s t =
    let found = front-walk buffer (tokens_before prefix mid) mid rest node value events here b s t in
    let c = begun-completes buffer b in
    let own = sym (before-same prefix c.prefix mid c.here) in (
      found.0,
      found.1,
      subst (λ ts. All (EndsAmong ts) events) own c.ends,
      λ e.
          (let order = end_by buffer 0 prefix mid (subst (InOrder buffer 0) e (tokens-in_order buffer mode 0 (omega arith))) in
          ends-elsewhere prefix order.end found.0 order.own
          (later-events order.end found.0 (read-later buffer (events_before found.0 finished) here mid order.end order.behind found.2))),
    )
