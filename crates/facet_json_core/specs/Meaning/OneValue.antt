-- That a read passes exactly one value, on every input, whether a document stands there or not: the balanced run that begins where the
-- parser stood.
use Rattle.std.specs.Prelude.{◌≡◌, Bool, true, ◌∷◌, Option, MatchOption}
use Rattle.facet_format.specs.Event.{ContainerKind, object, array, EventKind, struct_start, struct_end, sequence_start, sequence_end, field_key, scalar, Passed}
use Rattle.facet_format.specs.Span.{stop}
use Rattle.facet_json_token.specs.Token.{Token}
use Rattle.facet_json_token.specs.Tokens.{Tokens}
use Rattle.facet_json_token.specs.TokenList.{tokens_from}
use Rattle.facet_json_grammar.specs.Future.{Future, gives, within}
use Rattle.facet_json_grammar.specs.Language.{gaps}
use Rattle.facet_json_grammar.specs.Place.{after_colon}
use Rattle.facet_json_grammar.specs.Run.{opening, RunsInside}
use Rattle.facet_json_grammar.specs.Now.{Now, future_of}
use Rattle.facet_json_grammar.specs.SkipLaws.{BeforeValue, PassesRun}

-- The parser stood before a value, and the run that begins there was passed, as by a skip.
pub record PassesValue (old new : Now) : Type 0 where
  pub first : Token
  pub others : Tokens
  pub before : BeforeValue old first others
  pub passed : PassesRun old first others new

-- ---- within a container

-- the tokens that are left, whatever their texts are
abbrev pub tokens_left : Now → Tokens
tokens_left now = tokens_from now.buffer (gaps now.language) (stop now.cursor.spot.place.last)

-- The parser stood before a container of this kind, and is within it: its opening bracket was passed, and then runs, commas and colons.
pub record IsInside (kind : ContainerKind) (old now : Now) : Type 0 where
  pub first : Token
  pub inner : Tokens
  pub before : BeforeValue old first inner
  pub opens : first.kind ≡ opening kind
  pub passed : RunsInside inner (tokens_left now)
  pub stack : now.cursor.spot.place.stack ≡ kind ∷ old.cursor.spot.place.stack

-- The parser stands right after a key and its colon.
abbrev pub IsAfterKey : Now → Type 0
IsAfterKey now = now.cursor.spot.place.stage ≡ within after_colon

-- Wherever the parser was within an object, it is still; and it stands before the value of a member.
abbrev pub PassesKeyInside : Now → Now → Type 0
PassesKeyInside old new = ((start : Now) → IsInside object start old → IsInside object start new) × IsAfterKey new

-- Wherever the parser was within such a container, it passed that value.
abbrev pub PassesEndOf : ContainerKind → Now → Now → Type 0
PassesEndOf kind old new = (start : Now) → IsInside kind start old → PassesValue start new

-- What is passed with an event of this kind: a value, the beginning or the end of one, or a key.
abbrev pub PassesByKind : EventKind → Now → Now → Type 0
PassesByKind (struct_start kind) old new = IsInside object old new
PassesByKind struct_end old new = PassesEndOf object old new
PassesByKind (sequence_start kind) old new = IsInside array old new
PassesByKind sequence_end old new = PassesEndOf array old new
PassesByKind (field_key name) old new = PassesKeyInside old new
PassesByKind (scalar value) old new = PassesValue old new

-- A key is passed within an object, or the object's end, which is none.
abbrev pub PassesMemberOrEnd : {K : Type 0} → Now → Option K → Now → Type 0
PassesMemberOrEnd old key new = MatchOption key (PassesEndOf object old new) (λ k. PassesKeyInside old new)

-- ---- a look ahead

-- An event of such a kind comes next.
pub record ComesNext (is : EventKind → Bool) (now : Now) : Type 0 where
  pub passed : Passed
  pub rest : Future
  pub comes : future_of now ≡ gives passed rest
  pub so : is passed.event.kind ≡ true

-- The parser stands where it stood; and where the answer is yes, an event of such a kind comes next.
pub record LooksAhead (is : EventKind → Bool) (old : Now) (found : Bool) (new : Now) : Type 0 where
  pub there : new.cursor.spot.place ≡ old.cursor.spot.place
  pub comes : found ≡ true → ComesNext is new
