-- The tokens of an event that comes: separators, and then the event's own.
use Rattle.std.proofs.Common.{◌≡◌, ℕ, Bool, true, false, cond, List, refl, sym, ap, ◌∙◌, subst}
use Rattle.facet_format.specs.Event.{ContainerKind, EventKind, Passed}
use Rattle.facet_format.specs.Span.{stop}
use Rattle.facet_json_token.specs.Token.{Token}
use Rattle.facet_json_token.specs.Tokens.{Tokens, ended, refused, next}
use Rattle.facet_json_token.specs.TokenList.{tokens_from}
use Rattle.facet_json_grammar.specs.Future.{Future, gives, within, is_meaningless, turn, reads_by, reads_colon_by}
use Rattle.facet_json_grammar.specs.Language.{Language, gaps, Rules, rules}
use Rattle.facet_json_grammar.specs.Place.{Place, after_key, Turn, stops, passes, says, says_scalar, names, place_turn, goes_on, leads_on, led}
use Rattle.facet_json_grammar.specs.StrictTokens.{tokens_in}
use Rattle.facet_json_grammar.specs.Walk.{event_at, scalar_event, key_event}
use Rattle.facet_json_grammar.proofs.TokensIn.{plain-first, tokens_in-others}
use Rattle.facet_json_grammar.proofs.WalkComes.{follows, reads-turn, colon-ended, colon-refused, colon-missing, colon-stands}

-- By these rules the tokens lead from a place over separators to another place, and these are left there.
pub data AfterSeparators (by : Rules) : Place → Tokens → Place → Tokens → Type 0 where
  none : (place : Place) (ts : Tokens) → AfterSeparators by place ts place ts
  one_more : (place other there : Place) (t : Token) (ts left : Tokens) → place_turn place t.kind ≡ passes other →
      AfterSeparators by (led by other) ts there left → AfterSeparators by place (next t ts) there left

-- The tokens give this event at the place, and the others follow it.
pub data GivesHere (buffer : List ℕ) : Place → Tokens → Passed → Tokens → Type 0 where
  an_event : (place : Place) (kind : EventKind) (t : Token) (ts : Tokens) → place_turn place t.kind ≡ says kind →
      GivesHere buffer place (next t ts) (event_at kind t) ts
  a_scalar : (place : Place) (t : Token) (ts : Tokens) → place_turn place t.kind ≡ says_scalar →
      GivesHere buffer place (next t ts) (scalar_event buffer t) ts
  a_key : (place : Place) (t mark : Token) (ts : Tokens) → place_turn place t.kind ≡ names → goes_on after_key mark.kind ≡ true →
      GivesHere buffer place (next t (next mark ts)) (key_event buffer t mark) ts

-- The same after separators.
pub record GivesEvent (buffer : List ℕ) (by : Rules) (place : Place) (ts : Tokens) (p : Passed) (rest : Tokens) : Type 0 where
  pub there : Place
  pub left : Tokens
  pub separators : AfterSeparators by place ts there left
  pub gives : GivesHere buffer there left p rest

-- A turn that leads on is the place's.
place-turns : (b : Bool) (way other : Turn) → cond b stops way ≡ other → leads_on other ≡ true → way ≡ other
place-turns true way other e l = let none : false ≡ true = ap leads_on e ∙ l in cc
place-turns false way other e l = e

module _ (language : Language) (buffer : List ℕ) where
  -- the tokens from a position on, whatever their texts are
  abbrev left : ℕ → Tokens
  left position = tokens_from buffer (gaps language) position

  -- The tokens from a position on give the event, and those from its end on follow it.
  abbrev GivesFrom : Place → Tokens → Passed → Type 0
  GivesFrom place ts p = GivesEvent buffer (rules language) place ts p (left (stop p.last))

  abbrev AllGive : Tokens → Type 0
  AllGive ts = (stack : List ContainerKind) (place : Place) (from : ℕ) (p : Passed) (rest : Future) → tokens_in language buffer from ≡ ts →
      reads_by (rules language) buffer stack (within place) ts ≡ gives p rest → GivesFrom place (left from) p

  -- The event that comes is this one.
  gives-same : (place : Place) (ts : Tokens) (q p : Passed) (future rest : Future) → gives q future ≡ gives p rest → GivesFrom place ts q →
      GivesFrom place ts p
  gives-same place ts q p future rest e given = let same : q ≡ p = cc in subst (GivesFrom place ts) same given

  -- Here it comes, with no separator before.
  gives-now : (place : Place) (ts : Tokens) (p : Passed) → GivesHere buffer place ts p (left (stop p.last)) → GivesFrom place ts p
  gives-now place ts p here = record { there = place; left = ts; separators = none place ts; gives = here }

  gives-later : (place other : Place) (t : Token) (ts : Tokens) (p : Passed) → place_turn place t.kind ≡ passes other →
      GivesFrom (led (rules language) other) ts p → GivesFrom place (next t ts) p
  gives-later place other t ts p e g =
      record { there = g.there; left = g.left; separators = one_more place other g.there t ts g.left e g.separators; gives = g.gives }

  -- A key and its colon.
  mark-gives : (place : Place) (stack : List ContainerKind) (key mark : Token) (ts : Tokens) (b : Bool) (p : Passed) (rest : Future) →
      place_turn place key.kind ≡ names → goes_on after_key mark.kind ≡ b →
      reads_colon_by (rules language) buffer stack key (next mark ts) ≡ gives p rest →
      GivesFrom place (next key (next mark (left (stop mark.span)))) p
  mark-gives place stack key mark ts false p rest n c e =
      let stands = colon-missing (rules language) buffer stack key mark ts c in cc
  mark-gives place stack key mark ts true p rest n c e =
      let stands = colon-stands (rules language) buffer stack key mark ts c in
      gives-same place _ (key_event buffer key mark) p _ rest (sym stands ∙ e)
      (gives-now place _ (key_event buffer key mark) (a_key place key mark (left (stop mark.span)) n c))

  colon-gives : (ts : Tokens) (place : Place) (stack : List ContainerKind) (key : Token) (from : ℕ) (p : Passed) (rest : Future) →
      place_turn place key.kind ≡ names → tokens_in language buffer from ≡ ts →
      reads_colon_by (rules language) buffer stack key ts ≡ gives p rest → GivesFrom place (next key (left from)) p
  colon-gives ended place stack key from p rest n at e = let stands = colon-ended (rules language) buffer stack key in cc
  colon-gives (refused f) place stack key from p rest n at e = let stands = colon-refused (rules language) buffer stack key f in cc
  colon-gives (next mark ts) place stack key from p rest n at e =
      rw (plain-first language buffer from mark ts at) (mark-gives place stack key mark ts (goes_on after_key mark.kind) p rest n refl e)

  -- Whatever the turn of the first token, so it is.
  turn-gives : (stack : List ContainerKind) (place : Place) (t : Token) (ts : Tokens) (way : Turn) (p : Passed) (rest : Future) → AllGive ts →
      turn buffer place t ≡ way → tokens_in language buffer (stop t.span) ≡ ts → follows (rules language) buffer place t stack ts way ≡ gives p rest →
      GivesFrom place (next t (left (stop t.span))) p
  turn-gives stack place t ts stops p rest later w at e = cc
  turn-gives stack place t ts (passes other) p rest later w at e =
      gives-later place other t (left (stop t.span)) p (place-turns (is_meaningless buffer t) _ (passes other) w refl)
      (later stack (led (rules language) other) (stop t.span) p rest at e)
  turn-gives stack place t ts (says kind) p rest later w at e =
      gives-same place _ (event_at kind t) p _ rest e
      (gives-now place _ (event_at kind t) (an_event place kind t (left (stop t.span)) (place-turns (is_meaningless buffer t) _ (says kind) w refl)))
  turn-gives stack place t ts says_scalar p rest later w at e =
      gives-same place _ (scalar_event buffer t) p _ rest e
      (gives-now place _ (scalar_event buffer t) (a_scalar place t (left (stop t.span)) (place-turns (is_meaningless buffer t) _ says_scalar w refl)))
  turn-gives stack place t ts names p rest later w at e =
      colon-gives ts place stack t (stop t.span) p rest (place-turns (is_meaningless buffer t) _ names w refl) at e

  -- Within the root the tokens give the event that comes.
  pub tokens-give : (ts : Tokens) → AllGive ts
  unfolding reads_by
  tokens-give ended stack place from p rest at e = cc
  tokens-give (refused f) stack place from p rest at e = cc
  tokens-give (next t ts) stack place from p rest at e =
      rw (plain-first language buffer from t ts at)
      (turn-gives stack place t ts (turn buffer place t) p rest (tokens-give ts) refl (tokens_in-others language buffer from t ts at)
      (sym (reads-turn (rules language) buffer stack place t ts _ refl) ∙ e))
