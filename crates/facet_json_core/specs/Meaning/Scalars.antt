-- Scalars, which are one event, and how a type reads one in sight.
use Rattle.std.specs.Prelude.{◌≡◌, ℕ, List, Some}
use Rattle.facet_format.specs.Event.{Scalar}
use Rattle.facet_format.specs.Event as event
use Rattle.facet_json_token.specs.Gap.{plain}
use Rattle.facet_json_token.specs.Token.{Token}
use Rattle.facet_json_grammar.specs.Language.{lenient}
use Rattle.facet_json_grammar.specs.Meaning.{tree_of}
use Rattle.facet_json_grammar.specs.Node.{Node, scalar}
use Rattle.facet_json_grammar.specs.Tree.{Tree}
use Rattle.facet_json_grammar.specs.Walk.{scalar_event}
use Rattle.facet_json_reader.specs.Values.{IsAllowedThere}
use Rattle.facet_json_core.specs.Meaning.Shapes.{Reading}

-- The node is a scalar whose event has this value, and has a meaning.
pub record IsScalarOf (buffer : List ℕ) (node : Node) (value : Scalar) : Type 0 where
  pub token : Token
  pub is : node ≡ scalar token
  pub tree : Tree
  pub meant : tree_of buffer node ≡ Some tree
  pub so : (scalar_event buffer token).event.kind ≡ event.scalar value

-- Each such node is read as this.
abbrev pub ReadsScalar : {V : Type 0} → Reading V → Scalar → V → Type 0
ReadsScalar reading value v = (buffer : List ℕ) (node : Node) → IsScalarOf buffer node value → reading buffer node ≡ Some v

-- At this offset stands a scalar of so many bytes, which is read as this. The input is read leniently, and has no comments.
pub record IsSeen {V : Type 0} (reading : Reading V) (buffer : List ℕ) (at len : ℕ) (v : V) : Type 0 where
  pub there : IsAllowedThere (lenient plain) buffer at len
  pub reads : ReadsScalar reading there.value v
