-- Where nothing comes any more the root is passed, which is one run; and where the rules are strict, no token is left behind it.
use Rattle.std.proofs.Common.{◌≡◌, ℕ, Bool, true, false, List, [], Option, Some, None, refl, sym, subst, ◌∙◌}
use Rattle.facet_format.specs.Cursor.{Call, Answer}
use Rattle.facet_format.specs.Event.{ContainerKind}
use Rattle.facet_format.specs.Span.{stop}
use Rattle.facet_json_token.specs.Gap.{Mode}
use Rattle.facet_json_token.specs.Token.{Token, Fault}
use Rattle.facet_json_token.specs.Tokens.{Tokens, ended, refused, next}
use Rattle.facet_json_token.specs.TokenList.{tokens, tokens_from}
use Rattle.facet_json_grammar.specs.Future.{finished, Stage, within, over, turn, reads_by, reads_colon_by}
use Rattle.facet_json_grammar.specs.Reader.{Reader, future_at}
use Rattle.facet_json_grammar.specs.Language.{strict, Rules, strict_rules}
use Rattle.facet_json_grammar.specs.Place.{Place, after_key, Turn, stops, passes, says, says_scalar, names, goes_on, led}
use Rattle.facet_json_grammar.specs.Run.{Run}
use Rattle.facet_json_grammar.specs.StrictTokens.{strict_tokens}
use Rattle.facet_json_grammar.proofs.WalkComes.{follows, reads-turn, reads-ended, reads-refused, colon-ended, colon-refused, colon-missing, colon-stands}
use Rattle.facet_json_grammar.proofs.StrictRoot.{none-behind}
use Rattle.facet_json_grammar.specs.Move.{Moves}
use Rattle.facet_json_grammar.specs.Now.{Now, fresh_in, SameInput, future_of}
use Rattle.facet_json_grammar.specs.OneRun.{IsOneRun, TellsEnd, no_next, no_peek, too_few, StrictEndsAtRun, StrictTellsRun}
use Rattle.facet_json_grammar.proofs.MoveLaws.{same_input-is}
use Rattle.facet_json_grammar.proofs.MovesNext.{next-over, peek-over, events-over}
use Rattle.facet_json_grammar.proofs.OneRun.MovesOpen.{NowOpen, fresh-open, moves-open, moves_all-open}
use Rattle.facet_json_grammar.proofs.OneRun.OpenBrackets.{StageOpen, StandsOpen}

-- ---- within the root something comes, be it that no document goes on

module _ (by : Rules) (buffer : List ℕ) where
  -- After a key an event comes, or the tokens are stuck.
  mark-goes_on : (stack : List ContainerKind) (key mark : Token) (ts : Tokens) (b : Bool) → goes_on after_key mark.kind ≡ b →
      reads_colon_by by buffer stack key (next mark ts) ≡ finished → ⊥
  mark-goes_on stack key mark ts false c e = let none = colon-missing by buffer stack key mark ts c in cc
  mark-goes_on stack key mark ts true c e = let some = colon-stands by buffer stack key mark ts c in cc

  colon-goes_on : (stack : List ContainerKind) (key : Token) (ts : Tokens) → reads_colon_by by buffer stack key ts ≡ finished → ⊥
  colon-goes_on stack key ended e = let none = colon-ended by buffer stack key in cc
  colon-goes_on stack key (refused f) e = let none = colon-refused by buffer stack key f in cc
  colon-goes_on stack key (next mark ts) e = mark-goes_on stack key mark ts (goes_on after_key mark.kind) refl e

  -- Whatever its turn, so it is at a token.
  turn-goes_on : (stack : List ContainerKind) (place : Place) (t : Token) (ts : Tokens) (way : Turn) →
      ((other : Place) → reads_by by buffer stack (within other) ts ≡ finished → ⊥) → follows by buffer place t stack ts way ≡ finished → ⊥
  turn-goes_on stack place t ts stops later e = cc
  turn-goes_on stack place t ts (passes other) later e = later (led by other) e
  turn-goes_on stack place t ts (says kind) later e = cc
  turn-goes_on stack place t ts says_scalar later e = cc
  turn-goes_on stack place t ts names later e = colon-goes_on stack t ts e

  -- So it is at every place within the root.
  within-goes_on : (ts : Tokens) (stack : List ContainerKind) (place : Place) → reads_by by buffer stack (within place) ts ≡ finished → ⊥
  within-goes_on ended stack place e = let none = reads-ended by buffer stack place in cc
  within-goes_on (refused f) stack place e = let none = reads-refused by buffer stack place f in cc
  within-goes_on (next t ts) stack place e =
      turn-goes_on stack place t ts (turn buffer place t) (within-goes_on ts stack)
      (sym (reads-turn by buffer stack place t ts _ refl) ∙ e)

-- ---- behind the root

-- Where the strict tokens end, so do the tokens that they are made of.
strict-ends : (buffer : List ℕ) (ts : Tokens) → strict_tokens buffer ts ≡ ended → ts ≡ ended
unfolding strict_tokens
strict-ends buffer ended e = refl
strict-ends buffer (refused f) e = cc
strict-ends buffer (next t rest) e = by _ e
  where
    by : (o : Option Fault) → (elim o as (λ _. Tokens) [ None ↦ next t (strict_tokens buffer rest) | Some f ↦ refused f ]) ≡ ended →
        next t rest ≡ ended
    by None f = cc
    by (Some g) f = cc

module _ (buffer : List ℕ) (mode : Mode) where
  stage-ends : (stack : List ContainerKind) (stage : Stage) (from : ℕ) →
      StageOpen (tokens buffer mode) stack stage (tokens_from buffer mode from) →
      reads_by strict_rules buffer stack stage (strict_tokens buffer (tokens_from buffer mode from)) ≡ finished → IsOneRun buffer mode
  unfolding reads_by
  stage-ends stack over from opened e =
      let none = strict-ends buffer (tokens_from buffer mode from) (none-behind buffer [] [] _ e) in
      record { last = opened.0; run = subst (Run (tokens buffer mode) opened.0) none opened.1 }
  stage-ends stack (within place) from opened e = absurd (within-goes_on strict_rules buffer _ stack place e)

  -- Where the open brackets are those that the tokens leave open, and nothing comes, the input is one run.
  pub standing-ends : (s : Reader) → StandsOpen buffer (strict mode) s → future_at buffer (strict mode) s ≡ finished → IsOneRun buffer mode
  standing-ends s opened e = stage-ends s.stack s.stage (stop s.last) opened e

-- The same of a parser.
pub now-ends : (buffer : List ℕ) (mode : Mode) (now : Now) → SameInput (fresh_in buffer (strict mode)) now → NowOpen now →
    future_of now ≡ finished → IsOneRun buffer mode
now-ends buffer mode now input good e =
    let same = same_input-is (fresh_in buffer (strict mode)) now input in
    standing-ends buffer mode now.cursor.spot.place (subst NowOpen same good).reader (subst (λ x. future_of x ≡ finished) same e)

-- ---- the laws

-- Whatever calls a new strict parser answered, where nothing comes the input is one run.
pub ends_at_run : StrictEndsAtRun
ends_at_run buffer mode now calls answers moves e =
    now-ends buffer mode now moves.input (moves_all-open _ now (fresh-open buffer (strict mode)) moves) e

-- After an answer that tells the end nothing comes.
told-ends : (old new : Now) (call : Call) (answer : Answer) → Moves old call answer new → TellsEnd call answer → future_of new ≡ finished
told-ends old new _ _ move no_next = (next-over old new move).stays
told-ends old new _ _ move no_peek = (peek-over old new move).stays
told-ends old new _ _ move (too_few limit n given less) = events-over old new limit n given move less

-- So the input is one run where one more call tells the end.
pub tells_run : StrictTellsRun
tells_run buffer mode now new calls answers call answer moves move told =
    now-ends buffer mode new (record { buffer = move.input.buffer ∙ moves.input.buffer; language = move.input.language ∙ moves.input.language })
    (moves-open now (moves_all-open _ now (fresh-open buffer (strict mode)) moves) new move) (told-ends now new call answer move told)
