-- The rest of the token stands for what is left of the name where the token stands for the name.
use Rattle.std.proofs.Common.{◌≡◌, drop}
use Rattle.facet_json_tree.specs.Inner.PointerParts.{unescaped}
use Rattle.facet_json_tree.specs.Same.{same_bytes}
use Rattle.facet_json_tree.proofs.pointer.stands_for.Given as goal

abbrev pub invariant-loop-byte : goal.invariant-loop-byte
invariant-loop-byte l = same_bytes l.name (unescaped l.token) ≡ same_bytes (drop l.byte-index l.name) (unescaped l.rest)
