-- Texts come back from their text.
use Rattle.std.proofs.Common.{◌≡◌, ℕ, true, List, Some, refl}
use Rattle.std.specs.Str.{is_utf8}
use Rattle.facet_json_grammar.specs.Text.{as_array}
use Rattle.facet_json_grammar.specs.Tree.{Tree, text}
use Rattle.facet_json_grammar.specs.AsRead.{ReadsAs, text_is_itself, RawParts, WellFormed}
use Rattle.facet_json_core.specs.Meaning.Laws.{ReadsBack}
use Rattle.facet_json_core.specs.Meaning.Readings.{leaf, text_of_tree}
use Rattle.facet_json_core.proofs.Meaning.Leaves.LeafLaws.{leaf-back}

as_read-text : (t : List ℕ) (read : Tree) → ReadsAs as_array (text t) read → text_of_tree read ≡ Some t
as_read-text t _ (text_is_itself _) = refl

pub text-reads_back : ReadsBack (leaf text_of_tree) text (λ (t : List ℕ). is_utf8 t ≡ true) (λ (t : List ℕ). Unit {0})
unfolding WellFormed RawParts
text-reads_back t utf8 readable = leaf-back text_of_tree (λ ts. refl) (λ ps. refl) t (text t) utf8 tt (as_read-text t)
