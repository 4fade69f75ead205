-- What a search for a key passes of an object's members.
use Rattle.std.specs.Prelude.{◌≡◌, ◌≢◌, ◌+◌, ℕ, Bool, false, if◌then◌else◌, List, ◌∷◌, ◌++◌, drop, length, Option, Some, None, MatchBool}
use Rattle.std.specs.Str.{bytes_eq}
use Rattle.facet_format.specs.Complaint.{Refusal}
use Rattle.facet_format.specs.Cursor.{Cursor, Spot, unpeeked}
use Rattle.facet_format.specs.Event.{Event, Passed, object, struct_end}
use Rattle.facet_format.specs.Kept.{found}
use Rattle.facet_format.specs.Part.{Source}
use Rattle.facet_json_token.specs.Token.{Token}
use Rattle.facet_json_grammar.specs.Meaning.{pairs_of, text_in_tree, meaning}
use Rattle.facet_json_grammar.specs.Next.{PassesNext}
use Rattle.facet_json_grammar.specs.Node.{Node, Members, no_members, member}
use Rattle.facet_json_grammar.specs.Now.{Now, StandsAt}
use Rattle.facet_json_grammar.specs.Tree.{Pairs}
use Rattle.facet_json_grammar.specs.Walk.{walk_members, event_at}
use Rattle.facet_json_core.specs.Reading.{LacksMemory}
use Rattle.facet_json_core.specs.Meaning.Nodes.{StandsBefore, KeepsOn}
use Rattle.facet_json_core.specs.Meaning.Objects.{key_or_end}
use Rattle.facet_json_core.specs.Meaning.OneValue.{IsInside, PassesValue}

-- ---- on a walk

-- whether this is the text of a key
abbrev pub names_key : List ℕ → Option (List ℕ) → Bool
names_key name None = false
names_key name (Some text) = bytes_eq text name

-- the first of the members whose key has this text, and those after it, or none
abbrev pub from_key : List ℕ → List ℕ → Members → Members
from_key name buffer no_members = no_members
from_key name buffer (member key mark value members) =
    if names_key name (text_in_tree (meaning buffer key)) then member key mark value members else from_key name buffer members

-- the events of these members, of the bracket that closes their object, and the others
abbrev pub walk_from : List ℕ → Members → Token → List Passed → List Passed
walk_from buffer members last others = walk_members buffer members ++ event_at struct_end last ∷ others

-- The parser stands at the cursor, peeked or not, where these members of an object come next, then its bracket and the others, and is not
-- refused. All strings and numbers of the members have a meaning, as in a document.
pub record StandsAmong (now : Now) (w : Source) (c : Cursor ℕ) (members : Members) (last : Token) (others : List Passed) : Type 0 where
  pub stands : StandsAt now w c
  pub free : c.refusal ≡ None
  pub comes : drop c.spot.place w.events ≡ walk_from w.bytes members last others
  pub values : Pairs
  pub meant : pairs_of w.bytes members ≡ Some values

-- One of the members has the key. The parser stands right before the value of the first one, and then come the members after it, the bracket
-- and the others. The cursor's points are kept.
pub record FindsFirst (name : List ℕ) (now : Now) (w : Source) (c : Cursor ℕ) (members : Members) (last : Token) (others : List Passed) : Type 0 where
  pub key : Token
  pub mark : Token
  pub value : Node
  pub rest : Members
  pub first : from_key name w.bytes members ≡ member key mark value rest
  pub cursor : Cursor ℕ
  pub before : StandsBefore now w cursor value
  pub comes : before.others ≡ walk_from w.bytes rest last others
  pub values : Pairs
  pub meant : pairs_of w.bytes rest ≡ Some values
  pub kept : (point : ℕ) (spot : Spot ℕ) → found point c.kept ≡ Some spot → found point cursor.kept ≡ Some spot

-- None of the members has the key. The parser stands right after the bracket, is not refused, and the cursor's points are kept.
pub record FindsNone (name : List ℕ) (now : Now) (w : Source) (c : Cursor ℕ) (members : Members) : Type 0 where
  pub none : from_key name w.bytes members ≡ no_members
  pub cursor : Cursor ℕ
  pub stands : StandsAt now w cursor
  pub free : cursor.refusal ≡ None
  pub there : cursor.spot ≡ unpeeked (c.spot.place + length (walk_members w.bytes members) + 1)
  pub kept : (point : ℕ) (spot : Spot ℕ) → found point c.kept ≡ Some spot → found point cursor.kept ≡ Some spot

-- Before whatever members the parser stood, one of them has the key, and its value comes next, or none has, and they are passed.
abbrev pub FindsKey : List ℕ → Now → Bool → Now → Type 0
FindsKey name old is new = (w : Source) (c : Cursor ℕ) (members : Members) (last : Token) (others : List Passed) → StandsAmong old w c members last others →
    MatchBool is (FindsFirst name new w c members last others) (FindsNone name new w c members)

-- Before whatever members the parser stood, memory ran out.
abbrev pub LacksMembers : Now → Refusal → Type 0
LacksMembers old refusal = (w : Source) (c : Cursor ℕ) (members : Members) (last : Token) (others : List Passed) → StandsAmong old w c members last others →
    LacksMemory refusal

-- ---- on every input

-- This key came next, or the end of an object, and is passed.
abbrev pub PassesNextKey : Now → Option (List ℕ) → Now → Type 0
PassesNextKey old key new = (given : Event) × (key_or_end given.kind ≡ Some key) × PassesNext old given new

-- Members of other keys came, each with its value, and are passed.
pub data PassesOthers (name : List ℕ) (old : Now) : Now → Type 0 where
  no_other : PassesOthers name old old
  one_more : (now mid new : Now) (key : List ℕ) → PassesOthers name old now → PassesNextKey now (Some key) mid → key ≢ name → PassesValue mid new →
      PassesOthers name old new

-- Members of other keys came, then this key, or the end of an object, and are passed.
pub record PassesUpTo (name : List ℕ) (old : Now) (key : Option (List ℕ)) (new : Now) : Type 0 where
  pub now : Now
  pub others : PassesOthers name old now
  pub next : PassesNextKey now key new

-- ---- a search

-- Of the members before which the parser stood these are left, and none of those that were passed has the key.
pub record IsLeft (name : List ℕ) (now : Now) (w : Source) (c : Cursor ℕ) (members : Members) (last : Token) (others : List Passed) : Type 0 where
  pub rest : Members
  pub same : from_key name w.bytes members ≡ from_key name w.bytes rest
  pub cursor : Cursor ℕ
  pub among : StandsAmong now w cursor rest last others
  pub counts : cursor.spot.place + length (walk_members w.bytes rest) ≡ c.spot.place + length (walk_members w.bytes members)
  pub kept : (point : ℕ) (spot : Spot ℕ) → found point c.kept ≡ Some spot → found point cursor.kept ≡ Some spot

-- Members of other keys were passed.
pub record IsSearching (name : List ℕ) (old now : Now) : Type 0 where
  pub left : (w : Source) (c : Cursor ℕ) (members : Members) (last : Token) (others : List Passed) → StandsAmong old w c members last others →
      IsLeft name now w c members last others
  pub passed : PassesOthers name old now
  pub keeps : KeepsOn old now
  pub inside : (start : Now) → IsInside object start old → IsInside object start now
