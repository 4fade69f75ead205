use Rattle.std.proofs.Common.{sym, ap}
use Rattle.std.proofs.lemmas.Str.{is_utf8-from_IsUtf8, IsUtf8-string_bytes}
use Rattle.facet_json_grammar.specs.Tree.{text}
use Rattle.facet_json_facet.proofs.ScalarsOfRust.{text-of_rust}
use Rattle.facet_json_facet.proofs.texts.StringFromScalar.to_scalar.Goals as goal

pub returns-clause-tree : goal.returns-clause-tree
returns-clause-tree c = ap text (sym c.as_str.ensures.value)

pub returns-clause-of_rust : goal.returns-clause-of_rust
returns-clause-of_rust c = text-of_rust _ (is_utf8-from_IsUtf8 _ (IsUtf8-string_bytes c.args.self.now))

pub returns-clause-always : goal.returns-clause-always
returns-clause-always c = is_utf8-from_IsUtf8 _ (IsUtf8-string_bytes c.args.self.now)
