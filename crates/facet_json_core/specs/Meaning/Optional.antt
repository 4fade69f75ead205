-- Values that may be null (RFC 8259, section 3).
use Rattle.std.specs.Prelude.{ℕ, Bool, true, false, cond, List, Option, Some, None}
use Rattle.std.specs.Option.{option_map}
use Rattle.facet_format.specs.Event.{EventKind}
use Rattle.facet_format.specs.Event as event
use Rattle.facet_json_token.specs.Token.{Kind}
use Rattle.facet_json_token.specs.Token as token
use Rattle.facet_json_grammar.specs.Document.{IsWholeDocument}
use Rattle.facet_json_grammar.specs.Node.{Node, scalar, array, object}
use Rattle.facet_json_grammar.specs.Text.{text, default_options}
use Rattle.facet_json_grammar.specs.Tree.{Tree, null}

abbrev pub is_null_token : Kind → Bool
is_null_token token.null = true
is_null_token _ = false

abbrev pub is_null_node : Node → Bool
is_null_node (scalar t) = is_null_token t.kind
is_null_node (array first last nodes) = false
is_null_node (object first last inside) = false

-- an event that is null
abbrev pub is_null_event : EventKind → Bool
is_null_event (event.scalar event.null) = true
is_null_event _ = false

-- Null is no value, and every other node is read as a value.
abbrev pub optional : {V : Type 0} → (List ℕ → Node → Option V) → List ℕ → Node → Option (Option V)
optional reading buffer node = cond (is_null_node node) (Some None) (option_map Some (reading buffer node))

-- No value is written as null.
abbrev pub optional_tree : {V : Type 0} → (V → Tree) → Option V → Tree
optional_tree tree_of None = null
optional_tree tree_of (Some value) = tree_of value

-- The text is null, with white space alone around it.
abbrev pub IsNullText : List ℕ → Type 0
IsNullText bytes = (root : Node) × IsWholeDocument bytes root null

-- No value comes back, and so does a readable value that is not written as null.
abbrev pub OptionalReadable : {V : Type 0} → (V → Tree) → (V → Type 0) → Option V → Type 0
OptionalReadable tree_of readable None = Unit {0}
OptionalReadable tree_of readable (Some value) = readable value × ¬ (IsNullText (text default_options 0 (tree_of value)))
