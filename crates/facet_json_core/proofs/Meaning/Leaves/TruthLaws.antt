-- Truth values come back from their text.
use Rattle.std.proofs.Common.{◌≡◌, Bool, Some, refl}
use Rattle.facet_json_grammar.specs.Text.{as_array}
use Rattle.facet_json_grammar.specs.Tree.{Tree, bool}
use Rattle.facet_json_grammar.specs.AsRead.{ReadsAs, bool_is_itself, RawParts, WellFormed}
use Rattle.facet_json_core.specs.Meaning.Laws.{ReadsBack}
use Rattle.facet_json_core.specs.Meaning.Readings.{leaf, bool_of}
use Rattle.facet_json_core.proofs.Meaning.Leaves.LeafLaws.{leaf-back}

as_read-bool : (b : Bool) (read : Tree) → ReadsAs as_array (bool b) read → bool_of read ≡ Some b
as_read-bool b _ (bool_is_itself _) = refl

pub bool-reads_back : ReadsBack (leaf bool_of) bool (λ (b : Bool). Unit {0}) (λ (b : Bool). Unit {0})
unfolding WellFormed RawParts
bool-reads_back b always readable = leaf-back bool_of (λ ts. refl) (λ ps. refl) b (bool b) tt tt (as_read-bool b)
