-- The test `same_tree` decides equality, so it meets the laws of `PartialEq` and `Eq`, whose proofs stand in `specs`.
use Rattle.std.proofs.Common.{◌≡◌, true, ◌&&◌, refl, ap, subst, ◌∙◌}
use Rattle.std.proofs.lemmas.Bool.{and_parts, and_from}
use Rattle.std.specs.Bool.{Decides}
use Rattle.std.specs.Cmp.{IsEquivalence, decided, booleans_Decides, signed_Decides, unsigned_Decides}
use Rattle.std.specs.Cmp.Lexicographic.{bytes_decides}
use Rattle.facet_json_tree.specs.Same.{same_bytes, same_tree, same_trees, same_pairs}
use Rattle.facet_json_grammar.specs.Tree.{Tree, null, unit, bool, char, i64, u64, i128, u128, decimal, text, bytes, raw, list, pairs, Trees, no_trees, tree, Pairs, no_pairs, pair}

mutual
  unfolding same_tree same_trees same_pairs

  -- each value is the same as itself
  same_tree-itself : (t : Tree) → same_tree t t ≡ true
  same_tree-itself null = refl
  same_tree-itself unit = refl
  same_tree-itself (bool a) = (booleans_Decides a a).1 refl
  same_tree-itself (char a) = (unsigned_Decides a a).1 refl
  same_tree-itself (i64 a) = (signed_Decides a a).1 refl
  same_tree-itself (u64 a) = (unsigned_Decides a a).1 refl
  same_tree-itself (i128 a) = (signed_Decides a a).1 refl
  same_tree-itself (u128 a) = (unsigned_Decides a a).1 refl
  same_tree-itself (decimal a) = (bytes_decides a a).1 refl
  same_tree-itself (text a) = (bytes_decides a a).1 refl
  same_tree-itself (bytes a) = (bytes_decides a a).1 refl
  same_tree-itself (raw a) = (bytes_decides a a).1 refl
  same_tree-itself (list items) = same_trees-itself items
  same_tree-itself (pairs members) = same_pairs-itself members

  same_trees-itself : (ts : Trees) → same_trees ts ts ≡ true
  same_trees-itself no_trees = refl
  same_trees-itself (tree t ts) = and_from (same_tree t t) (same_trees ts ts) (same_tree-itself t) (same_trees-itself ts)

  same_pairs-itself : (ps : Pairs) → same_pairs ps ps ≡ true
  same_pairs-itself no_pairs = refl
  same_pairs-itself (pair key t ps) =
      let member = and_from (same_bytes key key) (same_tree t t) ((bytes_decides key key).1 refl) (same_tree-itself t) in
      and_from (same_bytes key key && same_tree t t) (same_pairs ps ps) member (same_pairs-itself ps)

mutual
  unfolding same_tree same_trees same_pairs

  -- values that are the same are equal
  same_tree-equal : (a b : Tree) → same_tree a b ≡ true → a ≡ b
  same_tree-equal null null h = refl
  same_tree-equal null _ h = cc
  same_tree-equal unit unit h = refl
  same_tree-equal unit _ h = cc
  same_tree-equal (bool a) (bool b) h = ap bool ((booleans_Decides a b).0 h)
  same_tree-equal (bool a) _ h = cc
  same_tree-equal (char a) (char b) h = ap char ((unsigned_Decides a b).0 h)
  same_tree-equal (char a) _ h = cc
  same_tree-equal (i64 a) (i64 b) h = ap i64 ((signed_Decides a b).0 h)
  same_tree-equal (i64 a) _ h = cc
  same_tree-equal (u64 a) (u64 b) h = ap u64 ((unsigned_Decides a b).0 h)
  same_tree-equal (u64 a) _ h = cc
  same_tree-equal (i128 a) (i128 b) h = ap i128 ((signed_Decides a b).0 h)
  same_tree-equal (i128 a) _ h = cc
  same_tree-equal (u128 a) (u128 b) h = ap u128 ((unsigned_Decides a b).0 h)
  same_tree-equal (u128 a) _ h = cc
  same_tree-equal (decimal a) (decimal b) h = ap decimal ((bytes_decides a b).0 h)
  same_tree-equal (decimal a) _ h = cc
  same_tree-equal (text a) (text b) h = ap text ((bytes_decides a b).0 h)
  same_tree-equal (text a) _ h = cc
  same_tree-equal (bytes a) (bytes b) h = ap bytes ((bytes_decides a b).0 h)
  same_tree-equal (bytes a) _ h = cc
  same_tree-equal (raw a) (raw b) h = ap raw ((bytes_decides a b).0 h)
  same_tree-equal (raw a) _ h = cc
  same_tree-equal (list a) (list b) h = ap list (same_trees-equal a b h)
  same_tree-equal (list a) _ h = cc
  same_tree-equal (pairs a) (pairs b) h = ap pairs (same_pairs-equal a b h)
  same_tree-equal (pairs a) _ h = cc

  same_trees-equal : (ts us : Trees) → same_trees ts us ≡ true → ts ≡ us
  same_trees-equal no_trees no_trees h = refl
  same_trees-equal no_trees (tree u us) h = cc
  same_trees-equal (tree t ts) no_trees h = cc
  same_trees-equal (tree t ts) (tree u us) h =
      let both = and_parts (same_tree t u) (same_trees ts us) h in
      ap (λ v. tree v ts) (same_tree-equal t u both.0) ∙ ap (λ vs. tree u vs) (same_trees-equal ts us both.1)

  same_pairs-equal : (ps qs : Pairs) → same_pairs ps qs ≡ true → ps ≡ qs
  same_pairs-equal no_pairs no_pairs h = refl
  same_pairs-equal no_pairs (pair key t qs) h = cc
  same_pairs-equal (pair key t ps) no_pairs h = cc
  same_pairs-equal (pair key t ps) (pair name u qs) h =
      let both = and_parts (same_bytes key name && same_tree t u) (same_pairs ps qs) h in
      let member = and_parts (same_bytes key name) (same_tree t u) both.0 in
      ap (λ k. pair k t ps) ((bytes_decides key name).0 member.0)
      ∙ ap (λ v. pair name v ps) (same_tree-equal t u member.1) ∙ ap (λ vs. pair name u vs) (same_pairs-equal ps qs both.1)

-- the test decides equality
pub same_tree-decides : (a b : Tree) → Decides (same_tree a b) (a ≡ b)
same_tree-decides a b = (same_tree-equal a b, λ e. subst (λ t. same_tree a t ≡ true) e (same_tree-itself a))

-- so it is reflexive, symmetric and transitive
pub same_tree-equivalence : IsEquivalence same_tree
same_tree-equivalence = decided same_tree same_tree-decides
