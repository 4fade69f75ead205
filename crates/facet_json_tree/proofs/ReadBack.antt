-- What was written is read back.
use Rattle.std.proofs.Common.{◌≡◌, ℕ, List, Result, Ok, Err, sym, subst}
use Rattle.std.specs.Prelude.{IfOk}
use Rattle.facet_json_grammar.specs.Text.{Options, text}
use Rattle.facet_json_grammar.specs.Tree.{Tree}
use Rattle.facet_json_grammar.proofs.Values.TreeTexts.{written_is_read}
use Rattle.facet_json_grammar.specs.ReadBack.{IsReadBack}
use Rattle.facet_json_tree.specs.Write.{IsOfRust, IsReadable}

-- The text of a tree that Rust holds, where one is answered.
pub answered-readable : {V E : Type 0} (items : V → List ℕ) (r : Result V E) (o : Options) (t : Tree) → IsOfRust t
    → IfOk r (λ v. items v ≡ text o 0 t) → IfOk r (λ v. IsReadable o t (items v))
answered-readable items (Ok v) o t h is = λ blank raw. subst (λ bytes. IsReadBack o t bytes) (sym is) (written_is_read o t blank h.0 raw)
answered-readable items (Err e) o t h is = tt
