-- After an event that comes those brackets are open that the tokens up to its end leave open.
use Rattle.std.proofs.Common.{◌≡◌, ℕ, Bool, true, false, List, Some, refl, sym, ◌∙◌, subst}
use Rattle.facet_format.specs.Event.{ContainerKind, object, Passed}
use Rattle.facet_format.specs.Span.{stop}
use Rattle.facet_json_token.specs.Token.{Token}
use Rattle.facet_json_token.specs.Tokens.{Tokens, ended, refused, next}
use Rattle.facet_json_token.specs.TokenList.{tokens, tokens_from}
use Rattle.facet_json_grammar.specs.Future.{Future, gives, Stage, within, over, stack_after, stage_after, is_meaningless, turn, reads_by, reads_colon_by}
use Rattle.facet_json_grammar.specs.Reader.{Reader, past, future_at}
use Rattle.facet_json_grammar.specs.Language.{Language, gaps, rules}
use Rattle.facet_json_grammar.specs.Place.{Place, after_key, Turn, stops, passes, says, says_scalar, names, goes_on, led}
use Rattle.facet_json_grammar.specs.StrictTokens.{tokens_in}
use Rattle.facet_json_grammar.specs.Walk.{event_at, scalar_event, key_event}
use Rattle.facet_json_grammar.proofs.Parts.BracketsOnWalk.{a_colon}
use Rattle.facet_json_grammar.proofs.PastEvents.{nothing-behind}
use Rattle.facet_json_grammar.proofs.TokensIn.{plain-first, tokens_in-others}
use Rattle.facet_json_grammar.proofs.WalkComes.{follows, reads-turn, colon-ended, colon-refused, colon-missing, colon-stands}
use Rattle.facet_json_grammar.proofs.OneRun.OpenBrackets.{Opens, container_of, innermost, StageOpen, StandsOpen, separator-passed}
use Rattle.facet_json_grammar.proofs.OneRun.BracketTurns.{TurnsTo, turns, sensible-turns, says-open, separator-open, scalar-open, key-open}

module _ (language : Language) (buffer : List ℕ) where
  -- the tokens whatever their texts are, and those from a position on
  abbrev all : Tokens
  all = tokens buffer (gaps language)

  abbrev left : ℕ → Tokens
  left position = tokens_from buffer (gaps language) position

  -- After an event of these tokens the brackets are open that are remembered then.
  abbrev OpenPast : List ContainerKind → Passed → Type 0
  OpenPast stack p = StageOpen all (stack_after p.event.kind stack) (stage_after p.event.kind stack) (left (stop p.last))

  abbrev PastTokens : Tokens → Type 0
  PastTokens ts = (stack : List ContainerKind) (stage : Stage) (from : ℕ) (p : Passed) (rest : Future) → tokens_in language buffer from ≡ ts →
      StageOpen all stack stage (left from) → reads_by (rules language) buffer stack stage ts ≡ gives p rest → OpenPast stack p

  -- The event that comes is this one.
  same-event : (stack : List ContainerKind) (q p : Passed) (future rest : Future) → gives q future ≡ gives p rest → OpenPast stack q →
      OpenPast stack p
  same-event stack q p future rest e there = let same : q ≡ p = cc in subst (OpenPast stack) same there

  -- Whatever the turn of the first token, so it is after the event that comes,
  turn-open : (stack : List ContainerKind) (place : Place) (t : Token) (ts : Tokens) (way : Turn) (p : Passed) (rest : Future) → PastTokens ts →
      container_of place ≡ innermost stack → Opens all stack (next t (left (stop t.span))) → tokens_in language buffer (stop t.span) ≡ ts →
      (TurnsTo place t.kind names → reads_colon_by (rules language) buffer stack t ts ≡ gives p rest → OpenPast stack p) →
      TurnsTo place t.kind way → follows (rules language) buffer place t stack ts way ≡ gives p rest → OpenPast stack p
  turn-open stack place t ts stops p rest later inside opened from colon w e = cc
  turn-open stack place t ts (passes other) p rest later inside opened from colon w e =
      later stack (within (led (rules language) other)) (stop t.span) p rest from
      (separator-open all stack place t (left (stop t.span)) inside opened (rules language) other w) e
  turn-open stack place t ts (says kind) p rest later inside opened from colon w e =
      same-event stack (event_at kind t) p _ rest e (says-open all stack place t (left (stop t.span)) inside opened kind w)
  turn-open stack place t ts says_scalar p rest later inside opened from colon w e =
      same-event stack (scalar_event buffer t) p _ rest e (scalar-open all stack place t (left (stop t.span)) inside opened w)
  turn-open stack place t ts names p rest later inside opened from colon w e = colon w e

  -- after a key and its colon,
  mark-open : (stack : List ContainerKind) (key mark : Token) (ts : Tokens) (b : Bool) (p : Passed) (rest : Future) → Some object ≡ innermost stack →
      goes_on after_key mark.kind ≡ b → Opens all stack (next mark (left (stop mark.span))) →
      reads_colon_by (rules language) buffer stack key (next mark ts) ≡ gives p rest → OpenPast stack p
  mark-open stack key mark ts false p rest inside c opened e =
      let none = colon-missing (rules language) buffer stack key mark ts c in cc
  mark-open stack key mark ts true p rest inside c opened e =
      let some = colon-stands (rules language) buffer stack key mark ts c in
      same-event stack (key_event buffer key mark) p _ rest (sym some ∙ e)
      (separator-passed all object stack mark _ inside opened (a_colon mark.kind c), inside)

  colon-open : (ts : Tokens) (stack : List ContainerKind) (key : Token) (from : ℕ) (p : Passed) (rest : Future) → Some object ≡ innermost stack →
      tokens_in language buffer from ≡ ts → Opens all stack (left from) → reads_colon_by (rules language) buffer stack key ts ≡ gives p rest →
      OpenPast stack p
  colon-open ended stack key from p rest inside at opened e = let none = colon-ended (rules language) buffer stack key in cc
  colon-open (refused f) stack key from p rest inside at opened e = let none = colon-refused (rules language) buffer stack key f in cc
  colon-open (next mark ts) stack key from p rest inside at opened e =
      mark-open stack key mark ts (goes_on after_key mark.kind) p rest inside refl
      (subst (Opens all stack) (plain-first language buffer from mark ts at) opened) e

  -- and from all tokens on.
  tokens-open : (ts : Tokens) → PastTokens ts
  unfolding reads_by
  tokens-open ts stack over from p rest at opened e = absurd (nothing-behind language buffer (rules language) ts p rest e)
  tokens-open ended stack (within place) from p rest at opened e = cc
  tokens-open (refused f) stack (within place) from p rest at opened e = cc
  tokens-open (next t ts) stack (within place) from p rest at opened e =
      let here = subst (Opens all stack) (plain-first language buffer from t ts at) opened.0 in
      let others = tokens_in-others language buffer from t ts at in
      turn-open stack place t ts (turn buffer place t) p rest (tokens-open ts) opened.1 here others
      (λ w. colon-open ts stack t (stop t.span) p rest (w.1 ∙ opened.1) others (key-open all stack place t _ opened.1 here w))
      (sensible-turns place t.kind (is_meaningless buffer t) _ (turns place t.kind))
      (sym (reads-turn (rules language) buffer stack place t ts _ refl) ∙ e)

-- After an event that comes they are open that the tokens before the place leave open.
pub past-open : (buffer : List ℕ) (language : Language) (s : Reader) (p : Passed) (rest : Future) → StandsOpen buffer language s →
    future_at buffer language s ≡ gives p rest → StandsOpen buffer language (past p s)
past-open buffer language s p rest opened e = tokens-open language buffer _ s.stack s.stage (stop s.last) p rest refl opened e
