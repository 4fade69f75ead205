-- Which brackets are open where a reader stands: those that the tokens before its place leave open. What runs, separators and closing
-- brackets do to them; the bracket that closes the last one ends a run.
use Rattle.std.proofs.Common.{◌≡◌, ℕ, true, List, [], ◌∷◌, Option, Some, None, refl}
use Rattle.facet_format.specs.Event.{ContainerKind, object, array}
use Rattle.facet_format.specs.Span.{stop}
use Rattle.facet_json_token.specs.Token.{Token}
use Rattle.facet_json_token.specs.Tokens.{Tokens, next}
use Rattle.facet_json_token.specs.TokenList.{tokens, tokens_from}
use Rattle.facet_json_grammar.specs.Future.{Stage, within, over, after_value, around}
use Rattle.facet_json_grammar.specs.Reader.{Reader}
use Rattle.facet_json_grammar.specs.Language.{Language, gaps}
use Rattle.facet_json_grammar.specs.Place.{Place, before_key, after_key, after_colon, after_member, before_item, after_item, next_key, next_item}
use Rattle.facet_json_grammar.specs.Run.{opening, closing, is_separator, Run, brackets, RunsInside, nothing, separator, a_run}

-- The first of all these tokens, up to those that are left, leave these brackets open, the innermost first: nothing stands before the
-- outermost, and after each stand runs, commas and colons.
pub data Opens (all : Tokens) : List ContainerKind → Tokens → Type 0 where
  nothing_passed : Opens all [] all
  past_opening : (kind : ContainerKind) (outer : List ContainerKind) (t : Token) (rest : Tokens) → Opens all outer (next t rest) →
      t.kind ≡ opening kind → Opens all (kind ∷ outer) rest
  past_separator : (kind : ContainerKind) (outer : List ContainerKind) (t : Token) (rest : Tokens) →
      Opens all (kind ∷ outer) (next t rest) → is_separator t.kind ≡ true → Opens all (kind ∷ outer) rest
  past_run : (kind : ContainerKind) (outer : List ContainerKind) (ts rest : Tokens) (last : Token) → Opens all (kind ∷ outer) ts →
      Run ts last rest → Opens all (kind ∷ outer) rest

-- the kind of container that has this place
abbrev pub container_of : Place → Option ContainerKind
container_of before_key = Some object
container_of after_key = Some object
container_of after_colon = Some object
container_of after_member = Some object
container_of next_key = Some object
container_of before_item = Some array
container_of after_item = Some array
container_of next_item = Some array
container_of _ = None

abbrev pub innermost : List ContainerKind → Option ContainerKind
innermost [] = None
innermost (kind ∷ outer) = Some kind

-- At this stage, before those that are left of all these tokens: within these brackets, at a place of the innermost; or after one run.
abbrev pub StageOpen : Tokens → List ContainerKind → Stage → Tokens → Type 0
StageOpen all stack over left = (last : Token) × Run all last left
StageOpen all stack (within place) left = Opens all stack left × (container_of place ≡ innermost stack)

-- The brackets that are open at a place of the input are those that the tokens before it leave open, whatever their texts are.
abbrev pub StandsOpen : List ℕ → Language → Reader → Type 0
StandsOpen buffer language s = StageOpen (tokens buffer (gaps language)) s.stack s.stage (tokens_from buffer (gaps language) (stop s.last))

-- ---- further tokens

module _ (all : Tokens) where
  -- A run within brackets leaves them open; where none is open, it is all that is passed.
  pub run-passed : (stack : List ContainerKind) (ts rest : Tokens) (last : Token) → Opens all stack ts → Run ts last rest →
      StageOpen all stack (after_value stack) rest
  run-passed [] _ rest last nothing_passed run = (last, run)
  run-passed (object ∷ outer) ts rest last opened run = (past_run object outer ts rest last opened run, refl)
  run-passed (array ∷ outer) ts rest last opened run = (past_run array outer ts rest last opened run, refl)

  -- From the innermost bracket to the one that closes it stands a run.
  closed-passed : (kind : ContainerKind) (outer : List ContainerKind) (ts rest : Tokens) (last : Token) → Opens all (kind ∷ outer) ts →
      RunsInside ts (next last rest) → last.kind ≡ closing kind → StageOpen all outer (after_value outer) rest
  closed-passed kind outer _ rest last (past_opening _ _ t ts opened o) inside e =
      run-passed outer (next t ts) rest last opened (brackets kind t last ts rest o inside e)
  closed-passed kind outer _ rest last (past_separator _ _ t ts opened s) inside e =
      closed-passed kind outer (next t ts) rest last opened (separator t ts (next last rest) s inside) e
  closed-passed kind outer _ rest last (past_run _ _ before ts end opened run) inside e =
      closed-passed kind outer before rest last opened (a_run before ts (next last rest) end run inside) e

  -- A bracket that closes the innermost one leads out of it.
  pub closing-passed : (kind : ContainerKind) (stack : List ContainerKind) (t : Token) (rest : Tokens) → Some kind ≡ innermost stack →
      Opens all stack (next t rest) → t.kind ≡ closing kind → StageOpen all (around stack) (after_value (around stack)) rest
  closing-passed kind [] t rest i opened e = cc
  closing-passed kind (inner ∷ outer) t rest i opened e =
      let same : kind ≡ inner = cc in
      closed-passed inner outer (next t rest) rest t opened (nothing (next t rest)) (rw (← same) e)

  -- A comma or a colon within brackets leaves them open.
  pub separator-passed : (kind : ContainerKind) (stack : List ContainerKind) (t : Token) (rest : Tokens) → Some kind ≡ innermost stack →
      Opens all stack (next t rest) → is_separator t.kind ≡ true → Opens all stack rest
  separator-passed kind [] t rest i opened e = cc
  separator-passed kind (inner ∷ outer) t rest i opened e = past_separator inner outer t rest opened e

  -- So does a run, as a key is.
  pub key-passed : (kind : ContainerKind) (stack : List ContainerKind) (ts rest : Tokens) (last : Token) → Some kind ≡ innermost stack →
      Opens all stack ts → Run ts last rest → Opens all stack rest
  key-passed kind [] ts rest last i opened run = cc
  key-passed kind (inner ∷ outer) ts rest last i opened run = past_run inner outer ts rest last opened run
