-- Texts that read as a value wherever they stand: those that do so by themselves.
use Rattle.std.specs.Prelude.{ℕ, List, length}
use Rattle.std.proofs.Common.{◌≡◌, ℕ, suc, ◌+◌, Bool, true, false, List, [], ◌∷◌, ◌++◌, Option, Some, refl, sym, ap, ap₂, ◌∙◌, subst, arith, append-nil}
use Rattle.facet_format.specs.Bytes.{left_bracket, left_brace}
use Rattle.facet_json_token.specs.Gap.{plain}
use Rattle.facet_json_token.specs.Tokens.{ended}
use Rattle.facet_json_token.specs.TokenList.{tokens_from}
use Rattle.facet_json_token.proofs.TokensSteps.{cut-end, tokens_from-nothing}
use Rattle.facet_json_grammar.specs.Document.{Reads}
use Rattle.facet_json_grammar.specs.Node.{Node}
use Rattle.facet_json_grammar.specs.Quoted.{quoted}
use Rattle.facet_json_grammar.specs.Text.{text, items_text, members_text, new_line, separator, colon_text, default_options}
use Rattle.facet_json_grammar.specs.Tree.{Tree, null, unit, bool, char, i64, u64, i128, u128, decimal, bytes, raw, list, pairs, Trees, no_trees, tree, Pairs, no_pairs, pair}
use Rattle.facet_json_grammar.specs.Tree as trees
use Rattle.facet_json_grammar.proofs.Cuts.MovedTokens.{moved_node}
use Rattle.facet_json_grammar.proofs.Scalars.OneToken.{ends_number}
use Rattle.facet_json_grammar.proofs.Values.OneValue.{IsLeft}
use Rattle.facet_json_grammar.proofs.Values.RawValues.{document-moved}
use Rattle.facet_json_core.specs.Meaning.Laws.{SameReading, ReadsAs, ReadsBack}
use Rattle.facet_json_core.proofs.Meaning.Nodes.MovedNodes.{moved-same}

-- From an offset of the buffer on, up to another, stands a node that reads as the value.
pub record ReadsFrom (V : Type 0) (reading : List ℕ → Node → Option V) (buffer : List ℕ) (from to : ℕ) (value : V) : Type 0 where
  pub root : Node
  pub tree : Tree
  pub reads : Reads buffer (tokens_from buffer plain from) root tree (tokens_from buffer plain to)
  pub is_read : reading buffer root ≡ Some value

module _ {V : Type 0} (reading : List ℕ → Node → Option V) where
  -- Wherever the bytes stand, they read as the value.
  pub record ReadsAnywhere (bytes : List ℕ) (value : V) : Type 0 where
    pub read : (buffer : List ℕ) (from : ℕ) (after : List ℕ) → IsLeft buffer from (bytes ++ after) → ends_number after ≡ true →
        ReadsFrom V reading buffer from (from + length bytes) value

  -- So do bytes that read as the value by themselves, where nodes of the same text are read alike.
  pub reads-anywhere : SameReading reading → (bytes : List ℕ) (value : V) → ReadsAs V reading bytes value → ReadsAnywhere bytes value
  reads-anywhere same written value r = record {
    read = λ buffer from after left ends.
        record {
          root = moved_node from r.root;
          tree = r.tree;
          reads = document-moved written r.root r.tree r.document buffer from after left ends;
          is_read = sym (same written buffer r.root (moved_node from r.root) (moved-same written buffer after from left r.root ended r.document.reads.spells)) ∙ r.is_read;
        };
  }

  -- And the other way round.
  pub reads-alone : (bytes : List ℕ) (value : V) → ReadsAnywhere bytes value → ReadsAs V reading bytes value
  reads-alone written value r =
      let left : IsLeft written 0 (written ++ []) = record { within = omega arith; here = sym (append-nil written) } in
      let read = r.read written 0 [] left refl in
      let none : tokens_from written plain (0 + length written) ≡ ended =
      tokens_from-nothing written (0 + length written) plain (cut-end written (0 + length written) plain (omega arith)) in
      record {
        root = read.root;
        tree = read.tree;
        document = record { reads = rw none at read.reads };
        is_read = read.is_read;
      }

-- ---- compact texts are the same at every depth

mutual
  unfolding text

  pub text-depth : (depth other : ℕ) (t : Tree) → text default_options depth t ≡ text default_options other t
  text-depth depth other null = refl
  text-depth depth other unit = refl
  text-depth depth other (bool b) = refl
  text-depth depth other (char c) = refl
  text-depth depth other (i64 n) = refl
  text-depth depth other (u64 n) = refl
  text-depth depth other (i128 n) = refl
  text-depth depth other (u128 n) = refl
  text-depth depth other (decimal t) = refl
  text-depth depth other (trees.text t) = refl
  text-depth depth other (bytes b) = refl
  text-depth depth other (raw t) = refl
  text-depth depth other (list items) = ap (λ l. left_bracket ∷ l) (items-depth depth other true items)
  text-depth depth other (pairs members) = ap (λ l. left_brace ∷ l) (members-depth depth other true members)

  items-depth : (depth other : ℕ) (first : Bool) (items : Trees) →
      items_text default_options depth first items ≡ items_text default_options other first items
  items-depth depth other first no_trees = refl
  items-depth depth other first (tree t items) =
      ap₂ (λ a b. separator first ++ new_line default_options depth ++ a ++ b) (text-depth (suc depth) (suc other) t) (items-depth depth other false items)

  members-depth : (depth other : ℕ) (first : Bool) (members : Pairs) →
      members_text default_options depth first members ≡ members_text default_options other first members
  members-depth depth other first no_pairs = refl
  members-depth depth other first (pair key value members) =
      ap₂ (λ a b. separator first ++ new_line default_options depth ++ quoted key ++ colon_text default_options ++ a ++ b) (text-depth (suc depth) (suc other) value)
      (members-depth depth other false members)

-- The text of a readable value reads as the value wherever it stands within a list or an object.
pub reads-inside : {V : Type 0} (reading : List ℕ → Node → Option V) (tree_by : V → Tree) (always readable : V → Type 0) → SameReading reading →
    ReadsBack reading tree_by always readable → (v : V) → always v → readable v → ReadsAnywhere reading (text default_options 1 (tree_by v)) v
reads-inside reading tree_by always readable same back v h r =
    subst (λ t. ReadsAnywhere reading t v) (text-depth 0 1 (tree_by v))
    (reads-anywhere reading same (text default_options 0 (tree_by v)) v (back v h r).1)
