-- Trees: nodes of the same text have the same, and a readable one comes back from its text.
use Rattle.std.specs.Prelude.{ℕ, List}
use Rattle.std.specs.Option.{option_map}
use Rattle.std.proofs.Common.{◌≡◌, ℕ, List, Some, refl, ap, ap₂, ◌∙◌}
use Rattle.facet_json_grammar.specs.Meaning.{tree_of, trees_of, pairs_of, text_in_tree, put_item, put_pair, meaning}
use Rattle.facet_json_grammar.specs.Node.{Nodes, Members}
use Rattle.facet_json_grammar.specs.Text.{as_array, default_options}
use Rattle.facet_json_grammar.specs.Tree.{Tree, list, pairs, Trees, Pairs}
use Rattle.facet_json_grammar.specs.AsRead.{WellFormed, RawParts, RawItems, RawMembers, IsDocumentText, null_is_null, unit_is_null, bool_is_itself, char_is_text, i64_is_whole, u64_is_whole, i128_is_whole, u128_is_whole, decimal_is_itself, text_is_itself, bytes_are_read, raw_is_read, list_is_list, pairs_are_pairs, ItemsReadAs, no_items, one_item, MembersReadAs, no_members, one_member}
use Rattle.facet_json_grammar.specs.AsRead as written
use Rattle.facet_json_grammar.proofs.Values.Readings.{one_reading}
use Rattle.facet_json_grammar.proofs.Values.TreeTexts.{written_is_read}
use Rattle.facet_json_core.specs.Meaning.Laws.{SameReading, ReadsBack}
use Rattle.facet_json_core.specs.Meaning.Nodes.{same_scalars, same_arrays, same_objects, SameItems, same_none, same_first, SameMembers, same_no_members, same_member}
use Rattle.facet_json_core.specs.Meaning.Trees.{IsReadableTree}
use Rattle.facet_json_core.proofs.Meaning.Leaves.LeafLaws.{same-means}

-- ---- nodes of the same text

mutual
  unfolding tree_of

  pub tree-same : SameReading tree_of
  tree-same these those _ _ (same_scalars t u same bytes) = same-means these those t u same
  tree-same these those _ _ (same_arrays first last begin end nodes others bytes items) =
      ap (option_map list) (items-same these those nodes others items)
  tree-same these those _ _ (same_objects first last begin end inside others bytes members) =
      ap (option_map pairs) (members-same these those inside others members)

  items-same : (these those : List ℕ) (nodes others : Nodes) → SameItems these those nodes others → trees_of these nodes ≡ trees_of those others
  items-same these those _ _ same_none = refl
  items-same these those _ _ (same_first n m nodes others h more) =
      ap₂ put_item (tree-same these those n m h) (items-same these those nodes others more)

  members-same : (these those : List ℕ) (members others : Members) → SameMembers these those members others →
      pairs_of these members ≡ pairs_of those others
  members-same these those _ _ same_no_members = refl
  members-same these those _ _ (same_member key mark name colon n m members others named h more) =
      ap (λ o. put_pair (text_in_tree o) (tree_of these n) (pairs_of these members)) (same-means these those key name named)
      ∙ ap₂ (put_pair (text_in_tree (meaning those name))) (tree-same these those n m h) (members-same these those members others more)

-- ---- back from the text

-- The raw parts of a tree that reads as one are documents.
mutual
  unfolding RawParts

  raw-read : (t value : Tree) → written.ReadsAs as_array t value → RawParts IsDocumentText t
  raw-read _ _ null_is_null = tt
  raw-read _ _ unit_is_null = tt
  raw-read _ _ (bool_is_itself b) = tt
  raw-read _ _ (char_is_text c) = tt
  raw-read _ _ (i64_is_whole n) = tt
  raw-read _ _ (u64_is_whole n) = tt
  raw-read _ _ (i128_is_whole n) = tt
  raw-read _ _ (u128_is_whole n) = tt
  raw-read _ _ (decimal_is_itself t) = tt
  raw-read _ _ (text_is_itself t) = tt
  raw-read _ _ (bytes_are_read b) = tt
  raw-read _ _ (raw_is_read t root value document) = (root, value, document)
  raw-read _ _ (list_is_list items values h) = raw_items-read items values h
  raw-read _ _ (pairs_are_pairs members values h) = raw_members-read members values h

  raw_items-read : (items values : Trees) → ItemsReadAs as_array items values → RawItems IsDocumentText items
  raw_items-read _ _ no_items = tt
  raw_items-read _ _ (one_item t value items values h more) = (raw-read t value h, raw_items-read items values more)

  raw_members-read : (members values : Pairs) → MembersReadAs as_array members values → RawMembers IsDocumentText members
  raw_members-read _ _ no_members = tt
  raw_members-read _ _ (one_member key t value members values h more) = (raw-read t value h, raw_members-read members values more)

pub tree-reads_back : ReadsBack tree_of (λ t. t) WellFormed IsReadableTree
tree-reads_back t well readable =
    let raw = raw-read t t readable in
    let back = written_is_read default_options t refl well raw in
    let same : back.value ≡ t = one_reading as_array t back.value t back.as_read readable in (
      raw,
      record {
        root = back.root;
        tree = back.value;
        document = back.document;
        is_read = back.document.reads.has_tree ∙ ap Some same;
      },
    )
