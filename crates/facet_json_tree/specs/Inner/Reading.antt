-- What a reader of a tree says of what it read, how it was refused, and how it leaves its parser.
use Rattle.std.specs.Prelude.{◌≡◌, ◌≤◌, ℕ, true, false, List, Option, None, Some}
use Rattle.facet_format.specs.Complaint.{Refusal}
use Rattle.facet_format.specs.Event.{Event, EventKind, ContainerKind, array, object, Scalar, scalar, Text, bytes_of, field_key, struct_start, sequence_start, Passed}
use Rattle.facet_json_grammar.specs.Tree.{Tree, Trees, no_trees, Pairs, no_pairs, list, pairs}
use Rattle.facet_json_grammar.specs.Future.{Future, gives}
use Rattle.facet_json_grammar.specs.Now.{Now, ahead, future_of, SameInput}
use Rattle.facet_json_core.specs.Told.{tree_of_scalar, opens, begins, TellsItems, TellsMembers, BreaksItems, BreaksMembers}
use Rattle.facet_json_core.specs.Reading.{LacksMemory, IsReadBy, IsUnreadBy, IsValueRead}
use Rattle.facet_json_core.specs.Meaning.OneValue.{PassesEndOf, PassesKeyInside, PassesByKind}
use Rattle.facet_json_core.specs.Meaning.Passing.{MovesOn}
use Rattle.facet_json_tree.specs.Depth.{too_deep_at}
use Rattle.facet_json_tree.specs.Inner.Beyond.{Admits, SameBeyond, IsUnreadWithin, IsValueUnreadWithin}

-- ---- values

-- The parser is not refused, and no more bytes are ahead of it.
pub record WentOn (old new : Now) : Type 0 where
  pub free : new.cursor.refusal ≡ None
  pub onward : ahead new ≤ ahead old

-- Whatever moved on to the one place moves on to the other.
abbrev pub LeadsOn : Now → Now → Type 0
LeadsOn old new = (before : Now) → MovesOn before old → MovesOn before new

abbrev pub AreItemsRead : Future → Trees → Future → Type 0
AreItemsRead = IsReadBy Trees TellsItems BreaksItems

abbrev pub AreMembersRead : Future → Pairs → Future → Type 0
AreMembersRead = IsReadBy Pairs TellsMembers BreaksMembers

abbrev pub AreItemsUnread : List ℕ → Future → Refusal → Type 0
AreItemsUnread = IsUnreadBy Trees TellsItems BreaksItems

abbrev pub AreMembersUnread : List ℕ → Future → Refusal → Type 0
AreMembersUnread = IsUnreadBy Pairs TellsMembers BreaksMembers

abbrev pub AreItemsUnreadWithin : Option ℕ → List ℕ → Future → Refusal → Type 0
AreItemsUnreadWithin limit = IsUnreadWithin limit Trees TellsItems BreaksItems

abbrev pub AreMembersUnreadWithin : Option ℕ → List ℕ → Future → Refusal → Type 0
AreMembersUnreadWithin limit = IsUnreadWithin limit Pairs TellsMembers BreaksMembers

-- ---- how a value begins

-- At an event of this kind a value begins with this tree: the whole of it, or a container with nothing in it yet, where one more
-- may be opened.
pub data HasBegun (limit : Option ℕ) (kind : EventKind) (t : Tree) : Type 0 where
  whole : (value : Scalar) → kind ≡ scalar value → tree_of_scalar value ≡ Some t → HasBegun limit kind t
  a_list : (c : ContainerKind) → kind ≡ sequence_start c → t ≡ list no_trees → Admits limit → HasBegun limit kind t
  an_object : (c : ContainerKind) → kind ≡ struct_start c → t ≡ pairs no_pairs → Admits limit → HasBegun limit kind t

-- No value begins with this event, or it is one that holds no others, refused for lack of memory, or a bracket where no more
-- containers may be opened.
pub data IsRefused (limit : Option ℕ) (e : Event) (refusal : Refusal) : Type 0 where
  begins_none : begins e.kind ≡ false → IsRefused limit e refusal
  a_scalar : (value : Scalar) → e.kind ≡ scalar value → ((t : Tree) → tree_of_scalar value ≡ Some t → LacksMemory refusal) →
      IsRefused limit e refusal
  a_bracket : opens e.kind ≡ true → limit ≡ Some 0 → refusal ≡ too_deep_at e.span → IsRefused limit e refusal

-- The parser gave an event with which a value begins so.
pub record BeganValue (limit : Option ℕ) (old : Now) (t : Tree) (new : Now) : Type 0 where
  pub passed : Passed
  pub comes : future_of old ≡ gives passed (future_of new)
  pub begun : HasBegun limit passed.event.kind t
  pub free : new.cursor.refusal ≡ None
  pub by_kind : PassesByKind passed.event.kind old new

-- The parser gave a key, and an event with which its value begins so.
pub record BeganMember (limit : Option ℕ) (old : Now) (key : List ℕ) (t : Tree) (new : Now) : Type 0 where
  pub passed : Passed
  pub between : Now
  pub comes : future_of old ≡ gives passed (future_of between)
  pub name : Text
  pub is_key : passed.event.kind ≡ field_key name
  pub bytes : key ≡ bytes_of name
  pub inside : PassesKeyInside old between
  pub value : BeganValue limit between t new
  pub input : SameInput between new

-- The parser gave an event of this kind, the end of a container.
pub record PassedEnd (kind : EventKind) (old new : Now) : Type 0 where
  pub passed : Passed
  pub comes : future_of old ≡ gives passed (future_of new)
  pub ends : passed.event.kind ≡ kind
  pub free : new.cursor.refusal ≡ None
  pub by_kind : PassesByKind kind old new

-- an event's kind tells that a key of these bytes comes
pub record IsKey (kind : EventKind) (key : List ℕ) : Type 0 where
  pub name : Text
  pub is_key : kind ≡ field_key name
  pub bytes : key ≡ bytes_of name

-- Whatever the event with which the tree began, this value is read from it on.
abbrev pub IsFilled : Option ℕ → Tree → Future → Tree → Future → Type 0
IsFilled limit begun inner value behind = (p : Passed) → HasBegun limit p.event.kind begun → IsValueRead (gives p inner) value behind

-- Of the value that began with this tree the rest is passed: the end of the container, or nothing.
abbrev pub PassesRest : Tree → Now → Now → Type 0
PassesRest (list items) old new = PassesEndOf array old new
PassesRest (pairs members) old new = PassesEndOf object old new
PassesRest _ old new = new.cursor.spot ≡ old.cursor.spot

-- Whatever the event with which the tree began, from it on the same is beyond as from here.
abbrev pub IsLevel : Option ℕ → Tree → Future → Future → Type 0
IsLevel limit begun inner behind = (p : Passed) → HasBegun limit p.event.kind begun → SameBeyond (gives p inner) limit behind limit

-- Whatever the event with which the tree began, the value is refused from it on.
abbrev pub IsUnfilled : Option ℕ → List ℕ → Tree → Future → Refusal → Type 0
IsUnfilled limit buffer begun inner refusal =
    (p : Passed) → HasBegun limit p.event.kind begun → IsValueUnreadWithin limit buffer (gives p inner) refusal
