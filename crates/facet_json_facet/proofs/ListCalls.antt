-- A list that is written by calls, item by item.
use Rattle.std.proofs.Common.{◌≡◌, ◌+◌, ◌<◌, ◌≤◌, ℕ, List, ◌∷◌, drop, get_or, length, map, Option, Result, Ok, refl, sym, ap, ◌∙◌, subst}
use Rattle.std.specs.List.{All}
use Rattle.std.specs.Result.{OnOk}
use Rattle.std.proofs.lemmas.List.{drop_all, drop_more}
use Rattle.std.proofs.lemmas.List.Elements.{All-nil, All-cons}
use Rattle.facet_format.specs.SerializerCall.{begin_seq, end_seq}
use Rattle.facet_json_grammar.specs.Tree.{Tree, Trees, list}
use Rattle.facet_json_serializer.specs.declared.error.JsonSerializeError.{JsonSerializeError}
use Rattle.facet_json_serializer.specs.Serializer.{Writing, Appends}
use Rattle.facet_json_serializer.specs.Views.{call_answer_of}
use Rattle.facet_json_tree.specs.Write.{HasWritten, IsOfRust}
use Rattle.facet_json_tree.proofs.CallsLeft.{Ended}
use Rattle.facet_json_tree.proofs.Containers as written
use Rattle.facet_json_tree.proofs.OfRust.{item-of_rust, no_item-of_rust, seen-of_rust}
use Rattle.facet_json_core.specs.Meaning.Lists.{trees_by, list_by}
use Rattle.facet_json_facet.proofs.ScalarsOfRust.{on-ok}

module _ {T V : Type 0} (view : T → V) (tree_by : V → Tree) (always : V → Type 0) where
  abbrev trees : List T → Trees
  trees xs = trees_by tree_by (map view xs)

  -- From an index on the items are still to be written, and then the list is ended.
  pub record ItemsLeft (old : Option Writing) (xs : List T) (i : ℕ) (now : Option Writing) : Type 0 where
    pub left : written.ItemsLeft old (trees xs) (trees (drop i xs)) now
    pub of_rust : IsOfRust (list (trees (drop i xs))) → IsOfRust (list (trees xs))
    pub have : All always (map view (drop i xs)) → All always (map view xs)

  pub list-begun : (old new : Option Writing) (xs : List T) → Appends old begin_seq (Ok tt) new → ItemsLeft old xs 0 new
  list-begun old new xs step = record { left = written.list-begun old new (trees xs) step; of_rust = λ h. h; have = λ h. h }

  from-drop : (xs : List T) (i : ℕ) (x : T) → i < length xs → x ≡ get_or xs i x → map view (drop i xs) ≡ view x ∷ map view (drop (i + 1) xs)
  from-drop xs i x h is = ap (λ (l : List T). map view l) (drop_more xs i x h ∙ ap (λ (y : T). y ∷ drop (i + 1) xs) (sym is))

  pub item-written : (old now new : Option Writing) (xs : List T) (i : ℕ) (x : T) → i < length xs → x ≡ get_or xs i x → ItemsLeft old xs i now →
      HasWritten now (tree_by (view x)) new → IsOfRust (tree_by (view x)) → always (view x) → ItemsLeft old xs (i + 1) new
  item-written old now new xs i x h is before wrote rust has =
      let seen = from-drop xs i x h is in
      let here = ap (trees_by tree_by) seen in
      record {
        left = written.item-written old now new (trees xs) _ (trees (drop (i + 1) xs)) (tree_by (view x)) here before.left wrote;
        of_rust = λ more. before.of_rust (subst (λ ts. IsOfRust (list ts)) (sym here) (item-of_rust _ _ rust more));
        have = λ more. before.have (subst (All always) (sym seen) (All-cons always (view x) (map view (drop (i + 1) xs)) has more));
      }

  module _ (old now : Option Writing) (xs : List T) (i : ℕ) (r : Result (Unit {0}) JsonSerializeError) (h : length xs ≤ i) (before : ItemsLeft old xs i now) where
    pub list-ended : (new : Option Writing) → Appends now end_seq (call_answer_of r) new → Ended old (list_by tree_by (map view xs)) r new
    list-ended new step = written.list-ended old now new (trees xs) _ r (ap trees (drop_all i xs h)) before.left step

    pub list-of_rust : OnOk r (IsOfRust (list_by tree_by (map view xs)))
    list-of_rust =
        let all = before.of_rust (subst (λ ts. IsOfRust (list ts)) (sym (ap trees (drop_all i xs h))) no_item-of_rust) in
        seen-of_rust r _ (list_by tree_by (map view xs)) refl all

    pub list-have : OnOk r (All always (map view xs))
    list-have =
        let none = ap (λ (l : List T). map view l) (drop_all i xs h) in
        on-ok (All always (map view xs)) r (before.have (subst (All always) (sym none) (All-nil always)))
