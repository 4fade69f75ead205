-- A tree's calls append its text.
use Rattle.std.proofs.Common.{◌≡◌, ℕ, suc, Bool, true, false, List, [], ◌∷◌, ◌++◌, length, refl, sym, ap, ◌∙◌, append_assoc, append-nil}
use Rattle.facet_format.specs.Bytes.{left_bracket, left_brace}
use Rattle.facet_json_grammar.specs.Quoted.{quoted}
use Rattle.facet_json_grammar.specs.Text.{Options, text, items_text, members_text, new_line, separator, colon_text}
use Rattle.facet_json_grammar.specs.Tree.{Tree, null, unit, bool, char, i64, u64, i128, u128, decimal, bytes, raw, list, pairs, Trees, no_trees, tree, Pairs, no_pairs, pair}
use Rattle.facet_json_grammar.specs.Tree as trees
use Rattle.facet_format.specs.SerializerCall.{SerializerCall, end_seq, end_struct}
use Rattle.facet_json_serializer.specs.Serializer.{Opened, in_struct, in_list, Writing, before_value, after_written}
use Rattle.facet_json_serializer.specs.TreeCalls.{after_calls, tree_calls, item_calls, member_calls, TreeByCalls}

-- so many are open before a value as after it
length-after_value : (stack : List Opened) → length (after_written stack) ≡ length stack
length-after_value [] = refl
length-after_value (in_struct first ∷ around) = refl
length-after_value (in_list first ∷ around) = refl

-- the text of what is left
at : Options → List Opened → List ℕ → Writing
at o stack written = record { options = o; stack = stack; written = written }

-- a container's calls, where those between its brackets are known
container_then : (o : Options) (stack : List Opened) (written : List ℕ) (container : Opened) (bracket : List ℕ) (end : SerializerCall)
    (calls rest : List SerializerCall) (inside : ℕ → List ℕ)
    → let begun = written ++ (before_value o stack ++ bracket) in
    after_calls (at o (container ∷ after_written stack) begun) (calls ++ end ∷ rest)
    ≡ after_calls (at o (after_written stack) (begun ++ inside (length (after_written stack)))) rest
    → after_calls (at o (container ∷ after_written stack) begun) ((calls ++ end ∷ []) ++ rest)
    ≡ after_calls (at o (after_written stack) (written ++ (before_value o stack ++ (bracket ++ inside (length stack))))) rest
container_then o stack written container bracket end calls rest inside h =
    let before = before_value o stack in
    ap (λ cs. after_calls (at o (container ∷ after_written stack) (written ++ (before ++ bracket))) cs) (append_assoc calls (end ∷ []) rest)
    ∙ h
    ∙ ap (λ n. after_calls (at o (after_written stack) ((written ++ (before ++ bracket)) ++ inside n)) rest) (length-after_value stack)
    ∙ ap (λ s. after_calls (at o (after_written stack) s) rest)
    (append_assoc written (before ++ bracket) (inside (length stack)) ∙ ap (λ s. written ++ s) (append_assoc before bracket (inside (length stack))))

mutual
  unfolding at after_calls tree_calls item_calls member_calls text items_text members_text

  tree_then : (o : Options) (stack : List Opened) (written : List ℕ) (t : Tree) (rest : List SerializerCall)
      → after_calls (at o stack written) (tree_calls t ++ rest)
      ≡ after_calls (at o (after_written stack) (written ++ (before_value o stack ++ text o (length stack) t))) rest
  tree_then o stack written null rest = refl
  tree_then o stack written unit rest = refl
  tree_then o stack written (bool b) rest = refl
  tree_then o stack written (char c) rest = refl
  tree_then o stack written (i64 n) rest = refl
  tree_then o stack written (u64 n) rest = refl
  tree_then o stack written (i128 n) rest = refl
  tree_then o stack written (u128 n) rest = refl
  tree_then o stack written (decimal t) rest = refl
  tree_then o stack written (trees.text t) rest = refl
  tree_then o stack written (bytes b) rest = refl
  tree_then o stack written (raw t) rest = refl
  tree_then o stack written (list items) rest =
      container_then o stack written (in_list true) (left_bracket ∷ []) end_seq (item_calls items) rest (λ n. items_text o n true items)
      (items_then o (after_written stack) true (written ++ (before_value o stack ++ left_bracket ∷ [])) items rest)
  tree_then o stack written (pairs members) rest =
      container_then o stack written (in_struct true) (left_brace ∷ []) end_struct (member_calls members) rest (λ n. members_text o n true members)
      (members_then o (after_written stack) true (written ++ (before_value o stack ++ left_brace ∷ [])) members rest)

  items_then : (o : Options) (around : List Opened) (first : Bool) (written : List ℕ) (items : Trees) (rest : List SerializerCall)
      → after_calls (at o (in_list first ∷ around) written) (item_calls items ++ end_seq ∷ rest)
      ≡ after_calls (at o around (written ++ items_text o (length around) first items)) rest
  items_then o around first written no_trees rest = refl
  items_then o around first written (tree t others) rest =
      let depth = length around in
      let before = separator first ++ new_line o (suc depth) in
      let item = text o (suc depth) t in
      ap (λ calls. after_calls (at o (in_list first ∷ around) written) calls) (append_assoc (tree_calls t) (item_calls others) (end_seq ∷ rest))
      ∙ tree_then o (in_list first ∷ around) written t (item_calls others ++ end_seq ∷ rest)
      ∙ items_then o around false (written ++ (before ++ item)) others rest
      ∙ ap (λ s. after_calls (at o around s) rest) (append_assoc written (before ++ item) (items_text o depth false others))

  members_then : (o : Options) (around : List Opened) (first : Bool) (written : List ℕ) (members : Pairs) (rest : List SerializerCall)
      → after_calls (at o (in_struct first ∷ around) written) (member_calls members ++ end_struct ∷ rest)
      ≡ after_calls (at o around (written ++ members_text o (length around) first members)) rest
  members_then o around first written no_pairs rest = refl
  members_then o around first written (pair key value others) rest =
      let depth = length around in
      let named = separator first ++ new_line o (suc depth) ++ quoted key ++ colon_text o in
      let item = text o (suc depth) value in
      ap (λ calls. after_calls (at o (in_struct false ∷ around) (written ++ named)) calls)
      (append_assoc (tree_calls value) (member_calls others) (end_struct ∷ rest))
      ∙ tree_then o (in_struct false ∷ around) (written ++ named) value (member_calls others ++ end_struct ∷ rest)
      ∙ members_then o around false ((written ++ named) ++ item) others rest
      ∙ ap (λ s. after_calls (at o around s) rest)
      (append_assoc (written ++ named) item (members_text o depth false others)
      ∙ append_assoc written named (item ++ members_text o depth false others)
      ∙ ap (λ s. written ++ s) (sym (append_assoc named item (members_text o depth false others))))

-- a tree's calls by themselves
pub tree_by_calls : TreeByCalls
unfolding at after_calls
tree_by_calls w t =
    ap (λ calls. after_calls w calls) (sym (append-nil (tree_calls t))) ∙ tree_then w.options w.stack w.written t []
