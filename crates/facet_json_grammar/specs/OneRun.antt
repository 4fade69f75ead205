-- Where a parser that reads RFC 8259 alone says that nothing comes any more: the whole input is one balanced run.
use Rattle.std.specs.Prelude.{◌≡◌, ◌<◌, ℕ, List, None, Ok}
use Rattle.facet_format.specs.Event.{Event}
use Rattle.facet_format.specs.Cursor.{Call, next, peek, events, Answer, event, batch}
use Rattle.facet_json_token.specs.Gap.{Mode}
use Rattle.facet_json_token.specs.Token.{Token}
use Rattle.facet_json_token.specs.Tokens.{ended}
use Rattle.facet_json_token.specs.TokenList.{tokens}
use Rattle.facet_json_grammar.specs.Future.{finished}
use Rattle.facet_json_grammar.specs.Language.{strict}
use Rattle.facet_json_grammar.specs.Run.{Run}
use Rattle.facet_json_grammar.specs.Now.{Now, fresh_in, future_of}
use Rattle.facet_json_grammar.specs.Move.{Moves, MovesAll}

-- All tokens of the input, with these gaps between them, are one run: no fault stands among them, each bracket is closed by one of its
-- own kind, and nothing but a gap follows the last of them.
pub record IsOneRun (buffer : List ℕ) (mode : Mode) : Type 0 where
  pub last : Token
  pub run : Run (tokens buffer mode) last ended

-- By this answer the call says that nothing comes any more.
pub data TellsEnd : Call → Answer → Type 0 where
  no_next : TellsEnd next (event (Ok None))
  no_peek : TellsEnd peek (event (Ok None))
  too_few : (limit n : ℕ) (given : List Event) → n < limit → TellsEnd (events limit) (batch given (Ok n))

-- Whatever calls a new strict parser answered, where nothing comes any more the input is one run.
abbrev pub StrictEndsAtRun : Type 0
StrictEndsAtRun = (buffer : List ℕ) (mode : Mode) (now : Now) (calls : List Call) (answers : List Answer) →
    MovesAll (fresh_in buffer (strict mode)) calls answers now → future_of now ≡ finished → IsOneRun buffer mode

-- So it is where one more call says so.
abbrev pub StrictTellsRun : Type 0
StrictTellsRun = (buffer : List ℕ) (mode : Mode) (now new : Now) (calls : List Call) (answers : List Answer) (call : Call)
    (answer : Answer) → MovesAll (fresh_in buffer (strict mode)) calls answers now → Moves now call answer new → TellsEnd call answer →
    IsOneRun buffer mode
