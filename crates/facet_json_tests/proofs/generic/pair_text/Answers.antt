use Rattle.std.proofs.Common.{◌≡◌, ℕ, List, [], ◌∷◌, Option, Some, sym, subst, ap, ◌∙◌}
use Rattle.std.proofs.lemmas.Option.{same_Some}
use Rattle.facet_format.specs.Event.{u64}
use Rattle.facet_format.specs.SerializerCall.{begin_seq, end_seq, scalar, TakesAll}
use Rattle.facet_json_grammar.specs.Text.{default_options, text}
use Rattle.facet_json_grammar.specs.Tree.{Tree, list, tree, no_trees}
use Rattle.facet_json_grammar.specs.Tree as trees
use Rattle.facet_json_serializer.specs.Serializer.{Writing, Takes}
use Rattle.facet_json_serializer.specs.TreeCalls.{tree_calls, item_calls}
use Rattle.facet_json_serializer.proofs.CallsTaken.{tree_taken}
use Rattle.facet_json_tests.proofs.generic.pair_text.Goals as goal

-- nothing is written
abbrev fresh : Writing
fresh = record { options = default_options; stack = []; written = [] }

abbrev pair : ℕ → ℕ → Tree
pair first second = list (tree (trees.u64 first) (tree (trees.u64 second) no_trees))

-- the calls of a pair are those of its tree
pair-written : (first second : ℕ) (start end : Option Writing) (w : Writing) (items : List ℕ) → start ≡ Some fresh
    → TakesAll Takes start (begin_seq ∷ scalar (u64 first) ∷ scalar (u64 second) ∷ end_seq ∷ []) end → end ≡ Some w → items ≡ w.written
    → items ≡ text default_options 0 (pair first second)
unfolding tree_calls item_calls
pair-written first second start end w items new taken left all =
    let is = tree_taken fresh (pair first second) end (subst (λ s. TakesAll Takes s (tree_calls (pair first second)) end) new taken) in
    all ∙ ap (λ n. n.written) (same_Some _ _ (sym left ∙ is))

pub returns : goal.returns
returns c =
    pair-written _ _ _ _ _ _ c.new-serializer.ensures c.in_ok-write_pair.ensures.taken c.in_ok-text.ensures.1 c.in_ok-text.ensures.2
