-- The walk of a value: its events, in the order in which its tokens stand (RFC 8259, sections 3 to 7).
use Rattle.std.specs.Prelude.{ℕ, false, List, [], ◌∷◌, ◌++◌, Option, Some, None}
use Rattle.facet_json_token.specs.Token.{Kind, Token}
use Rattle.facet_json_token.specs.Token as token
use Rattle.facet_json_grammar.specs.Node.{Node, scalar, array, object, Nodes, no_nodes, item, Members, no_members, member}
use Rattle.facet_json_grammar.specs.Tree.{Tree}
use Rattle.facet_json_grammar.specs.Tree as tree
use Rattle.facet_json_grammar.specs.Meaning.{text_in_tree, meaning}
use Rattle.facet_format.specs.Event.{Text, Scalar, EventKind, Passed}
use Rattle.facet_format.specs.Event as event
use Rattle.facet_format.specs.Part.{Source}

-- ---- the event of a token

-- The text is borrowed where the token is a string that holds no backslash. Every other text is made: one after escapes, and the
-- decimal digits of a whole number past 64 bits.
abbrev pub text_by : Kind → List ℕ → Text
text_by (token.string start finish false) bytes = event.borrowed bytes
text_by _ bytes = event.owned bytes

-- The scalar of a token of this kind, which means this. No scalar's token has another meaning than these.
abbrev pub scalar_by : Kind → Tree → Scalar
scalar_by kind tree.null = event.null
scalar_by kind (tree.bool b) = event.bool b
scalar_by kind (tree.i64 n) = event.i64 n
scalar_by kind (tree.u64 n) = event.u64 n
scalar_by kind (tree.decimal digits) = event.decimal (event.borrowed digits)
scalar_by kind (tree.text bytes) = event.text (text_by kind bytes)
scalar_by kind _ = event.null

-- Where a token has no meaning, this is null: a document has no such token.
abbrev pub scalar_of : Kind → Option Tree → Scalar
scalar_of kind None = event.null
scalar_of kind (Some value) = scalar_by kind value

-- Where a key has no meaning, its name is empty: a document has no such key.
abbrev pub name_of : Kind → Option (List ℕ) → Text
name_of kind None = event.owned []
name_of kind (Some bytes) = text_by kind bytes

-- an event that comes from this token alone
abbrev pub event_at : EventKind → Token → Passed
event_at kind t = record { event = record { kind = kind; span = t.span }; last = t.span }

abbrev pub scalar_event : List ℕ → Token → Passed
scalar_event buffer t = event_at (event.scalar (scalar_of t.kind (meaning buffer t))) t

-- the event of a key and its colon
abbrev pub key_event : List ℕ → Token → Token → Passed
key_event buffer key mark = record {
  event = record { kind = event.field_key (name_of key.kind (text_in_tree (meaning buffer key))); span = key.span };
  last = mark.span;
}

-- ---- the walk

unfoldable mutual
  pub walk : List ℕ → Node → List Passed
  walk buffer (scalar t) = scalar_event buffer t ∷ []
  walk buffer (array first last nodes) =
      event_at (event.sequence_start event.array) first ∷ walk_items buffer nodes ++ event_at event.sequence_end last ∷ []
  walk buffer (object first last members) =
      event_at (event.struct_start event.object) first ∷ walk_members buffer members ++ event_at event.struct_end last ∷ []

  pub walk_items : List ℕ → Nodes → List Passed
  walk_items buffer no_nodes = []
  walk_items buffer (item node nodes) = walk buffer node ++ walk_items buffer nodes

  pub walk_members : List ℕ → Members → List Passed
  walk_members buffer no_members = []
  walk_members buffer (member key mark node members) = key_event buffer key mark ∷ walk buffer node ++ walk_members buffer members

-- the input, and the walk of the value in it
abbrev pub source_of : List ℕ → Node → Source
source_of buffer node = record { bytes = buffer; events = walk buffer node }
