-- Where a parser stands before a node of a walk, and after it; and nodes that the same bytes spell.
use Rattle.std.specs.Prelude.{◌≡◌, ◌+◌, ◌≤◌, ℕ, false, Bool, List, ◌++◌, drop, length, slice_range, Some, None}
use Rattle.facet_format.specs.Event.{Passed}
use Rattle.facet_format.specs.Kept.{found}
use Rattle.facet_format.specs.Cursor.{Cursor, Spot, unpeeked}
use Rattle.facet_format.specs.Part.{Source}
use Rattle.facet_format.specs.Number.{Hint}
use Rattle.facet_json_token.specs.Token.{Token, string, number}
use Rattle.facet_json_grammar.specs.Node.{Node, scalar, array, object, Nodes, no_nodes, item, Members, no_members, member}
use Rattle.facet_json_grammar.specs.Tree.{Tree}
use Rattle.facet_json_grammar.specs.Meaning.{tree_of}
use Rattle.facet_json_grammar.specs.Refusal.{needs_meaning}
use Rattle.facet_json_grammar.specs.Walk.{walk}
use Rattle.facet_json_grammar.specs.Reader.{Reader}
use Rattle.facet_json_grammar.specs.Now.{Now, StandsAt, SameInput, ahead, LeadsTo}
use Rattle.facet_json_grammar.specs.SkipLaws.{bytes_between}

-- ---- before and after a node

-- The parser stands at the cursor, peeked or not, where the node's events come next, and is not refused. All strings and numbers of
-- the node have a meaning, as in a document.
pub record StandsBefore (now : Now) (w : Source) (c : Cursor ℕ) (node : Node) : Type 0 where
  pub stands : StandsAt now w c
  pub free : c.refusal ≡ None
  pub others : List Passed
  pub comes : drop c.spot.place w.events ≡ walk w.bytes node ++ others
  pub value : Tree
  pub meant : tree_of w.bytes node ≡ Some value

-- The parser stands right after the node before which the cursor was, is not refused, and the cursor's points are kept.
pub record StandsAfter (now : Now) (w : Source) (c : Cursor ℕ) (node : Node) : Type 0 where
  pub cursor : Cursor ℕ
  pub stands : StandsAt now w cursor
  pub free : cursor.refusal ≡ None
  pub there : cursor.spot ≡ unpeeked (c.spot.place + length (walk w.bytes node))
  pub kept : (point : ℕ) (spot : Spot ℕ) → found point c.kept ≡ Some spot → found point cursor.kept ≡ Some spot

-- The input, the language and the points that were kept stay, and no more bytes are ahead. Where calls led to the old one, calls lead to the
-- new one: nothing else is done to the parser.
pub record KeepsOn (old new : Now) : Type 0 where
  pub input : SameInput old new
  pub kept : (point : ℕ) (spot : Spot Reader) → found point old.cursor.kept ≡ Some spot → found point new.cursor.kept ≡ Some spot
  pub onward : ahead new ≤ ahead old
  pub by_calls : (first : Now) → LeadsTo first old → LeadsTo first new

-- ---- nodes of the same text

-- Two tokens, each of a buffer of its own, are of one kind, and the same bytes stand there.
pub data SameToken (these those : List ℕ) : Token → Token → Type 0 where
  same_mark : (t u : Token) → needs_meaning t.kind ≡ false → t.kind ≡ u.kind → SameToken these those t u
  same_string : (t u : Token) (start finish begin end : ℕ) (has_escapes : Bool) → t.kind ≡ string start finish has_escapes →
      u.kind ≡ string begin end has_escapes → slice_range these start finish ≡ slice_range those begin end → SameToken these those t u
  same_number : (t u : Token) (start finish begin end : ℕ) (hint : Hint) → t.kind ≡ number start finish hint →
      u.kind ≡ number begin end hint → slice_range these start finish ≡ slice_range those begin end → SameToken these those t u

-- Two nodes, each of a buffer of its own, are spelled by the same bytes.
mutual
  pub data SameText (these those : List ℕ) : Node → Node → Type 0 where
    same_scalars : (t u : Token) → SameToken these those t u → bytes_between these t t ≡ bytes_between those u u →
        SameText these those (scalar t) (scalar u)
    same_arrays : (first last begin end : Token) (nodes others : Nodes) → bytes_between these first last ≡ bytes_between those begin end →
        SameItems these those nodes others → SameText these those (array first last nodes) (array begin end others)
    same_objects : (first last begin end : Token) (members others : Members) → bytes_between these first last ≡ bytes_between those begin end →
        SameMembers these those members others → SameText these those (object first last members) (object begin end others)

  pub data SameItems (these those : List ℕ) : Nodes → Nodes → Type 0 where
    same_none : SameItems these those no_nodes no_nodes
    same_first : (n m : Node) (nodes others : Nodes) → SameText these those n m → SameItems these those nodes others →
        SameItems these those (item n nodes) (item m others)

  pub data SameMembers (these those : List ℕ) : Members → Members → Type 0 where
    same_no_members : SameMembers these those no_members no_members
    same_member : (key mark name colon : Token) (n m : Node) (members others : Members) → SameToken these those key name →
        SameText these those n m → SameMembers these those members others →
        SameMembers these those (member key mark n members) (member name colon m others)
