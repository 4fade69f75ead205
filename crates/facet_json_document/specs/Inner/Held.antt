-- What a document holds beside its nodes.
use Rattle.std.specs.Prelude.{◌≤◌, ℕ, zero, suc, List, length}
use Rattle.facet_format.specs.declared.event.ScalarValue.{ScalarValue}
use Rattle.facet_json_document.specs.declared.document.node.Node.{Node}
use Rattle.facet_json_document.specs.declared.document.node.NodeKind.{NodeKind}
use Rattle.facet_json_document.specs.declared.document.node.NodeKind.TheVariants as kind

-- how many values have to be held, so that a node of that kind finds the one at this index
abbrev pub needed : NodeKind → ℕ → ℕ
needed kind.Held at = suc at
needed kind.HeldKey at = suc at
needed _ at = zero

abbrev pub FindsHeld : List ScalarValue → Node → Type 0
FindsHeld held n = needed n.kind n.more ≤ length held
