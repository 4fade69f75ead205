-- Lists: nodes of the same text are read alike, and what is written comes back.
use Rattle.std.specs.Prelude.{ℕ, List, length}
use Rattle.std.specs.List.{All}
use Rattle.std.proofs.Common.{◌≡◌, ℕ, ◌+◌, true, List, [], ◌∷◌, ◌++◌, Option, Some, refl, ap, ap₂, arith, append_assoc, length-append}
use Rattle.std.specs.Option.{option_map}
use Rattle.std.proofs.lemmas.List.Elements.{All-head, All-tail}
use Rattle.facet_format.specs.Bytes.{left_bracket, right_bracket}
use Rattle.facet_format.specs.Bytes as bytes
use Rattle.facet_json_token.specs.Shape.{array_starts, array_ends, comma_stands}
use Rattle.facet_json_token.specs.Gap.{plain}
use Rattle.facet_json_token.specs.Token.{Token, array_start, array_end, comma}
use Rattle.facet_json_token.specs.Tokens.{next}
use Rattle.facet_json_token.specs.TokenList.{tokens_from}
use Rattle.facet_json_grammar.specs.Meaning.{tree_of, trees_of, put_item}
use Rattle.facet_json_grammar.specs.Node.{Node, array, Nodes, no_nodes, item, Spells, brackets, SpellsItems, closed, item_and_comma, last_item}
use Rattle.facet_json_grammar.specs.Text.{text, items_text, default_options}
use Rattle.facet_json_grammar.specs.Tree.{Tree, list, Trees, no_trees, tree}
use Rattle.facet_json_grammar.specs.AsRead.{RawParts, RawItems, IsDocumentText}
use Rattle.facet_json_grammar.proofs.Values.OneValue.{IsLeft, IsLeft-past, IsLeft-as, mark_at, tokens_from-structural}
use Rattle.facet_json_core.specs.Meaning.Laws.{SameReading, ReadsBack}
use Rattle.facet_json_core.specs.Meaning.Lists.{put_value, items_of, list_of, trees_by, list_by}
use Rattle.facet_json_core.specs.Meaning.Nodes.{same_scalars, same_arrays, same_objects, SameItems, same_none, same_first}
use Rattle.facet_json_core.proofs.Meaning.Nodes.TextsWithin.{ReadsAnywhere, reads-alone, reads-inside}

-- ---- nodes of the same text

module _ {V : Type 0} (reading : List ℕ → Node → Option V) (same : SameReading reading) where
  items-same : (these those : List ℕ) (nodes others : Nodes) → SameItems these those nodes others →
      items_of reading these nodes ≡ items_of reading those others
  items-same these those _ _ same_none = refl
  items-same these those _ _ (same_first n m nodes others h more) =
      ap₂ put_value (same these those n m h) (items-same these those nodes others more)

  pub list-same : SameReading (list_of reading)
  list-same these those _ _ (same_scalars t u token bytes) = refl
  list-same these those _ _ (same_arrays first last begin end nodes others bytes items) = items-same these those nodes others items
  list-same these those _ _ (same_objects first last begin end inside others bytes members) = refl

-- ---- back from the text

-- From an offset of the buffer on, up to another, stand the items of an array and its closing bracket, which read as the values.
record ItemsReadFrom (V : Type 0) (reading : List ℕ → Node → Option V) (buffer : List ℕ) (from to : ℕ) (values : List V) : Type 0 where
  nodes : Nodes
  last : Token
  trees : Trees
  spell : SpellsItems (tokens_from buffer plain from) nodes last (tokens_from buffer plain to)
  have_trees : trees_of buffer nodes ≡ Some trees
  are_read : items_of reading buffer nodes ≡ Some values

module _ {V : Type 0} (reading : List ℕ → Node → Option V) where
  -- Wherever the bytes stand, they are the items of an array and its closing bracket, which read as the values.
  record ItemsReadAnywhere (bytes : List ℕ) (values : List V) : Type 0 where
    read : (buffer : List ℕ) (from : ℕ) (after : List ℕ) → IsLeft buffer from (bytes ++ after) →
        ItemsReadFrom V reading buffer from (from + length bytes) values

  -- The bracket of an empty list.
  items-none : ItemsReadAnywhere (right_bracket ∷ []) []
  unfolding trees_of
  items-none = record {
    read = λ buffer from after left.
        let spell : SpellsItems (tokens_from buffer plain from) no_nodes (mark_at array_end from) (tokens_from buffer plain (from + 1)) =
        rw (tokens_from-structural buffer from right_bracket array_end after array_ends left) (closed (mark_at array_end from) _ refl) in
        record { nodes = no_nodes; last = mark_at array_end from; trees = no_trees; spell = spell; have_trees = refl; are_read = refl };
  }

  -- The last item, with the bracket after it.
  items-last : (item_text : List ℕ) (v : V) → ReadsAnywhere reading item_text v → ItemsReadAnywhere (item_text ++ right_bracket ∷ []) (v ∷ [])
  unfolding trees_of
  items-last item_text v h = record {
    read = λ buffer from after left.
        let whole = IsLeft-as {m = item_text ++ (right_bracket ∷ after)} (append_assoc item_text (right_bracket ∷ []) after) left in
        let rest = IsLeft-past item_text (right_bracket ∷ after) whole in
        let r = h.read buffer from (right_bracket ∷ after) whole refl in
        let close = tokens_from-structural buffer (from + length item_text) right_bracket array_end after array_ends rest in
        let last = mark_at array_end (from + length item_text) in
        let to : from + length item_text + 1 ≡ from + length (item_text ++ right_bracket ∷ []) =
        omega (arith, length-append item_text (right_bracket ∷ [])) in
        let spells : Spells (tokens_from buffer plain from) r.root (next last (tokens_from buffer plain (from + length (item_text ++ right_bracket ∷ [])))) =
        rw (← to, ← close) r.reads.spells in
        record {
          nodes = item r.root no_nodes;
          last = last;
          trees = tree r.tree no_trees;
          spell = last_item _ _ r.root last spells refl;
          have_trees = ap (λ o. put_item o (Some no_trees)) r.reads.has_tree;
          are_read = ap (λ o. put_value o (Some [])) r.is_read;
        };
  }

  -- An item, with a comma and the others after it.
  items-more : (item_text others : List ℕ) (v : V) (values : List V) → ReadsAnywhere reading item_text v → ItemsReadAnywhere others values →
      ItemsReadAnywhere (item_text ++ (bytes.comma ∷ others)) (v ∷ values)
  unfolding trees_of
  items-more item_text others v values h more = record {
    read = λ buffer from after left.
        let whole = IsLeft-as {m = item_text ++ (bytes.comma ∷ (others ++ after))} (append_assoc item_text (bytes.comma ∷ others) after) left in
        let rest = IsLeft-past item_text (bytes.comma ∷ (others ++ after)) whole in
        let r = h.read buffer from (bytes.comma ∷ (others ++ after)) whole refl in
        let separator = mark_at comma (from + length item_text) in
        let divided = tokens_from-structural buffer (from + length item_text) bytes.comma comma (others ++ after) comma_stands rest in
        let m = more.read buffer (from + length item_text + 1) after (IsLeft-past (bytes.comma ∷ []) (others ++ after) rest) in
        let to : from + length item_text + 1 + length others ≡ from + length (item_text ++ (bytes.comma ∷ others)) =
        omega (arith, length-append item_text (bytes.comma ∷ others)) in
        let spell : SpellsItems (tokens_from buffer plain from) (item r.root m.nodes) m.last (tokens_from buffer plain (from + length item_text + 1 + length others)) =
        item_and_comma _ _ _ r.root m.nodes separator m.last (rw (← divided) r.reads.spells) refl m.spell in
        record {
          nodes = item r.root m.nodes;
          last = m.last;
          trees = tree r.tree m.trees;
          spell = rw (← to) spell;
          have_trees = ap₂ put_item r.reads.has_tree m.have_trees;
          are_read = ap₂ put_value r.is_read m.are_read;
        };
  }

  -- A bracket before them makes an array.
  list-whole : (others : List ℕ) (values : List V) → ItemsReadAnywhere others values → ReadsAnywhere (list_of reading) (left_bracket ∷ others) values
  unfolding tree_of
  list-whole others values h = record {
    read = λ buffer from after left ends.
        let open_ = tokens_from-structural buffer from left_bracket array_start (others ++ after) array_starts left in
        let m = h.read buffer (from + 1) after (IsLeft-past (left_bracket ∷ []) (others ++ after) left) in
        let to : from + 1 + length others ≡ from + length (left_bracket ∷ others) = omega arith in
        let first = mark_at array_start from in
        let spells : Spells (tokens_from buffer plain from) (array first m.last m.nodes) (tokens_from buffer plain (from + 1 + length others)) =
        rw open_ (brackets first m.last _ _ m.nodes refl m.spell) in
        record {
          root = array first m.last m.nodes;
          tree = list m.trees;
          reads = record { spells = rw (← to) spells; has_tree = ap (option_map list) m.have_trees };
          is_read = m.are_read;
        };
  }

module _ {V : Type 0} (reading : List ℕ → Node → Option V) (tree_by : V → Tree) (always readable : V → Type 0) (same : SameReading reading)
    (back : ReadsBack reading tree_by always readable) where
  all-items : (values : List V) → All always values → All readable values → ItemsReadAnywhere reading (items_text default_options 0 true (trees_by tree_by values)) values
  unfolding text
  all-items [] have all = items-none reading
  all-items (v ∷ []) have all =
      items-last reading (text default_options 1 (tree_by v)) v
      (reads-inside reading tree_by always readable same back v (All-head always v [] have) (All-head readable v [] all))
  all-items (v ∷ u ∷ values) have all =
      items-more reading (text default_options 1 (tree_by v)) (items_text default_options 0 true (trees_by tree_by (u ∷ values))) v (u ∷ values)
      (reads-inside reading tree_by always readable same back v (All-head always v (u ∷ values) have) (All-head readable v (u ∷ values) all))
      (all-items (u ∷ values) (All-tail always v (u ∷ values) have) (All-tail readable v (u ∷ values) all))

  all-raw : (values : List V) → All always values → All readable values → RawItems IsDocumentText (trees_by tree_by values)
  unfolding RawItems
  all-raw [] have all = tt
  all-raw (v ∷ values) have all = (
    (back v (All-head always v values have) (All-head readable v values all)).0,
    all-raw values (All-tail always v values have) (All-tail readable v values all),
  )

  pub list-reads_back : ReadsBack (list_of reading) (list_by tree_by) (λ vs. All always vs) (λ vs. All readable vs)
  unfolding text RawParts
  list-reads_back values have all = (
    all-raw values have all,
    reads-alone (list_of reading) (text default_options 0 (list_by tree_by values)) values
        (list-whole reading (items_text default_options 0 true (trees_by tree_by values)) values (all-items values have all)),
  )
