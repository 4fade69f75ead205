-- Laws of skips and captures on every input: before a value they pass the run that stands there, or are refused where it breaks off.
use Rattle.std.specs.Prelude.{◌≡◌, ℕ, ◌-◌, true, false, List, slice_range, codes, Option, Some, None, Result, MatchResult}
use Rattle.std.specs.Str.{is_utf8}
use Rattle.facet_format.specs.Complaint.{Refusal}
use Rattle.facet_format.specs.Event.{ContainerKind}
use Rattle.facet_format.specs.Cursor.{skip, capture, skipped, raw, unpeeked, no_memory_at}
use Rattle.facet_format.specs.Part.{no_raw}
use Rattle.facet_format.specs.Span.{span_at, stop}
use Rattle.facet_json_token.specs.Token.{Token}
use Rattle.facet_json_token.specs.Tokens.{Tokens, next}
use Rattle.facet_json_token.specs.TokenList.{tokens_from}
use Rattle.facet_json_grammar.specs.Future.{within}
use Rattle.facet_json_grammar.specs.Language.{gaps, Rules, rules}
use Rattle.facet_json_grammar.specs.Place.{Place, passes, place_turn, led}
use Rattle.facet_json_grammar.specs.Run.{opening, Run, BreaksOff}
use Rattle.facet_json_grammar.specs.Unread.{begins_value, past_value}
use Rattle.facet_json_grammar.specs.Now.{Now, current_span_of}
use Rattle.facet_json_grammar.specs.Move.{Moves}

-- ---- before a value

-- By these rules the tokens go on at a place, after separators, with this first token of a value, and the others come after it.
pub data GoesOnWith (by : Rules) : Place → Tokens → Token → Tokens → Type 0 where
  with_value : (place : Place) (first : Token) (others : Tokens) → begins_value (place_turn place first.kind) ≡ true →
      GoesOnWith by place (next first others) first others
  after_separator : (place other : Place) (t first : Token) (ts others : Tokens) → place_turn place t.kind ≡ passes other →
      GoesOnWith by (led by other) ts first others → GoesOnWith by place (next t ts) first others

-- The parser stands before a value, which begins with this token.
pub record BeforeValue (now : Now) (first : Token) (others : Tokens) : Type 0 where
  pub place : Place
  pub stage : now.cursor.spot.place.stage ≡ within place
  pub value : GoesOnWith (rules now.language) place (tokens_from now.buffer (gaps now.language) (stop now.cursor.spot.place.last)) first others

-- ---- what is passed

-- A run begins with the token, and the parser stands right after it, in the containers around it, before no event that was peeked at.
pub record PassesRun (old : Now) (first : Token) (others : Tokens) (new : Now) : Type 0 where
  pub last : Token
  pub rest : Tokens
  pub run : Run (next first others) last rest
  pub there : new.cursor.spot ≡ unpeeked (past_value last.span old.cursor.spot.place.stack)

-- Why the run isn't passed: the tokens break off, so that none stands there, and are refused so; or memory was lacking for the open
-- brackets, of which there is none but where the value begins with one.
pub data NotPassed (old : Now) (first : Token) (others : Tokens) (r : Refusal) : Type 0 where
  breaks_off : BreaksOff old.buffer (next first others) r → NotPassed old first others r
  lacks_memory : (kind : ContainerKind) → first.kind ≡ opening kind → r ≡ no_memory_at (current_span_of old) → NotPassed old first others r

-- Where a parser that is not refused stands before a value, a skip passes the run that begins there; and it is refused only at an opening
-- bracket: where the tokens break off, as they do, or for lack of memory.
abbrev pub SkipPassesRun : Type 0
SkipPassesRun = (old new : Now) (first : Token) (others : Tokens) (result : Result (Unit {0}) Refusal) → old.cursor.refusal ≡ None →
    BeforeValue old first others → Moves old skip (skipped result) new →
    MatchResult result (λ nothing. PassesRun old first others new) (λ r. NotPassed old first others r)

-- ---- what is captured

-- the bytes of the buffer from a token to another one, with both
abbrev pub bytes_between : List ℕ → Token → Token → List ℕ
bytes_between buffer first last = slice_range buffer first.span.offset (stop last.span)

-- The run is passed, and its bytes are this text, which is UTF-8.
pub record GivesRun (old : Now) (first : Token) (others : Tokens) (text : Option (List ℕ)) (new : Now) : Type 0 where
  pub passed : PassesRun old first others new
  pub bytes : text ≡ Some (bytes_between old.buffer first passed.last)
  pub utf8 : is_utf8 (bytes_between old.buffer first passed.last) ≡ true

-- Why the run isn't given: it can't be passed; or its bytes are not UTF-8, and are refused from its first to its last one.
pub data NotGiven (old : Now) (first : Token) (others : Tokens) (r : Refusal) : Type 0 where
  not_passed : NotPassed old first others r → NotGiven old first others r
  not_utf8 : (last : Token) (rest : Tokens) → Run (next first others) last rest →
      is_utf8 (bytes_between old.buffer first last) ≡ false →
      r ≡ no_raw (codes "invalid UTF-8 in raw JSON") (span_at first.span.offset (stop last.span - first.span.offset)) →
      NotGiven old first others r

-- Where a parser that is not refused stands before a value, a capture passes the run that begins there, and answers its bytes; and it is
-- refused only where the bytes are not UTF-8, or, at an opening bracket, where the tokens break off, as they do, or for lack of memory.
abbrev pub CapturePassesRun : Type 0
CapturePassesRun = (old new : Now) (first : Token) (others : Tokens) (result : Result (Option (List ℕ)) Refusal) →
    old.cursor.refusal ≡ None → BeforeValue old first others → Moves old capture (raw result) new →
    MatchResult result (λ text. GivesRun old first others text new) (λ r. NotGiven old first others r)
