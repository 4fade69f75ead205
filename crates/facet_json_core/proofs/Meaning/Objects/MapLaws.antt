-- Maps: nodes of the same text are read alike.
use Rattle.std.proofs.Common.{◌≡◌, ℕ, List, [], Option, None, Some, refl, ap, ◌∙◌}
use Rattle.std.specs.Option.{option_and_then}
use Rattle.facet_json_grammar.specs.Meaning.{text_in_tree, meaning}
use Rattle.facet_json_grammar.specs.Node.{Node, Members}
use Rattle.facet_json_core.specs.Meaning.Laws.{SameReading}
use Rattle.facet_json_core.specs.Meaning.Maps.{Entries, with_entry, with_members, map_of}
use Rattle.facet_json_core.specs.Meaning.Nodes.{same_scalars, same_arrays, same_objects, SameMembers, same_no_members, same_member}
use Rattle.facet_json_core.proofs.Meaning.Leaves.LeafLaws.{same-means}

-- Functions that agree go on alike from what is alike.
pub and_then-same : {A B : Type 0} (f g : A → Option B) → ((a : A) → f a ≡ g a) → (o p : Option A) → o ≡ p → option_and_then f o ≡ option_and_then g p
and_then-same f g same None p e = ap (option_and_then g) e
and_then-same f g same (Some a) p e = same a ∙ ap (option_and_then g) e

module _ {V : Type 0} (reading : List ℕ → Node → Option V) (same : SameReading reading) where
  members-same : (these those : List ℕ) (members others : Members) → SameMembers these those members others → (entries : Entries V) →
      with_members reading these members entries ≡ with_members reading those others entries
  members-same these those _ _ same_no_members entries = refl
  members-same these those _ _ (same_member key mark name colon n m members others t h more) entries =
      and_then-same _ _
      (λ k. and_then-same _ _ (λ v. members-same these those members others more (with_entry entries k v)) (reading these n) (reading those m) (same these those n m h))
      (text_in_tree (meaning these key)) (text_in_tree (meaning those name)) (ap text_in_tree (same-means these those key name t))

  pub map-same : SameReading (map_of reading)
  map-same these those _ _ (same_scalars t u token bytes) = refl
  map-same these those _ _ (same_arrays first last begin end nodes others bytes items) = refl
  map-same these those _ _ (same_objects first last begin end inside others bytes more) = members-same these those inside others more []
