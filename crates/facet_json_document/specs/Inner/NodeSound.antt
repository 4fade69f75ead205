-- What is true of each node's bytes.
use Rattle.std.specs.Prelude.{ℕ, Bool, true, List}
use Rattle.facet_json_document.specs.OwnNumber.{is_small, own_number}
use Rattle.facet_json_document.specs.QuotedText.{is_quoted_text}
use Rattle.facet_json_document.specs.declared.document.node.NodeKind.{NodeKind}
use Rattle.facet_json_document.specs.declared.document.node.NodeKind.TheVariants as kind

-- whether the bytes may be those of a node of that kind: a text's and a key's are text in quotes, a number's a number
abbrev pub is_sound : NodeKind → List ℕ → Bool
is_sound kind.Text bytes = is_quoted_text bytes
is_sound kind.Key bytes = is_quoted_text bytes
is_sound kind.Number bytes = is_small (own_number bytes)
is_sound _ bytes = true
