-- Types that have their value from a scalar alone: nodes of the same text are read alike, and what is written comes back.
use Rattle.std.specs.Prelude.{ℕ, List}
use Rattle.std.specs.Option.{option_map, option_and_then}
use Rattle.std.proofs.Common.{◌≡◌, ℕ, false, List, Option, None, Some, refl, sym, ap, ◌∙◌}
use Rattle.facet_json_token.specs.Decoded.{decoded}
use Rattle.facet_format.specs.NumberValue.{number}
use Rattle.facet_json_token.specs.Token.{Kind, Token}
use Rattle.facet_json_token.specs.Token as token
use Rattle.facet_json_grammar.specs.Node.{Node, scalar}
use Rattle.facet_json_grammar.specs.Node as node
use Rattle.facet_json_grammar.specs.Tree.{Tree, Trees, Pairs}
use Rattle.facet_json_grammar.specs.Tree as trees
use Rattle.facet_json_grammar.specs.Meaning.{meaning_of, meaning, tree_of_number, tree_of, trees_of, pairs_of}
use Rattle.facet_json_grammar.specs.Text.{as_array, text, default_options}
use Rattle.facet_json_grammar.proofs.TreesOfParts.{list_meant, object_meant}
use Rattle.facet_json_grammar.specs.AsRead.{RawParts, WellFormed, IsDocumentText}
use Rattle.facet_json_grammar.specs.AsRead as written
use Rattle.facet_json_grammar.proofs.Values.TreeTexts.{written_is_read}
use Rattle.facet_json_grammar.specs.Refusal.{needs_meaning}
use Rattle.facet_json_core.specs.Meaning.Nodes.{SameToken, same_mark, same_string, same_number, same_scalars, same_arrays, same_objects}
use Rattle.facet_json_core.specs.Meaning.Laws.{SameReading, ReadsAs}
use Rattle.facet_json_core.specs.Meaning.Readings.{leaf}

mark-means : (these those : List ℕ) (kind : Kind) → needs_meaning kind ≡ false → meaning_of these kind ≡ meaning_of those kind
mark-means these those token.null e = refl
mark-means these those token.true_literal e = refl
mark-means these those token.false_literal e = refl
mark-means these those (token.string start finish has_escapes) e = cc
mark-means these those (token.number start finish hint) e = cc
mark-means these those token.object_start e = refl
mark-means these those token.object_end e = refl
mark-means these those token.array_start e = refl
mark-means these those token.array_end e = refl
mark-means these those token.colon e = refl
mark-means these those token.comma e = refl

-- Tokens of the same bytes mean the same.
pub same-means : (these those : List ℕ) (t u : Token) → SameToken these those t u → meaning these t ≡ meaning those u
same-means these those t u (same_mark _ _ e k) = mark-means these those t.kind e ∙ ap (meaning_of those) k
same-means these those t u (same_string _ _ start finish begin end has_escapes k l e) =
    ap (meaning_of these) k ∙ ap (λ bytes. option_map trees.text (decoded bytes)) e ∙ sym (ap (meaning_of those) l)
same-means these those t u (same_number _ _ start finish begin end hint k l e) =
    ap (meaning_of these) k ∙ ap (λ bytes. option_map tree_of_number (number bytes hint)) e ∙ sym (ap (meaning_of those) l)

pub leaf-same : {V : Type 0} (value : Tree → Option V) → SameReading (leaf value)
leaf-same value these those _ _ (same_scalars t u same bytes) = ap (option_and_then value) (same-means these those t u same)
leaf-same value these those _ _ (same_arrays first last begin end nodes others bytes same) = refl
leaf-same value these those _ _ (same_objects first last begin end inside others bytes same) = refl

-- ---- back from the text

module _ {V : Type 0} (value : Tree → Option V) (no_list : (ts : Trees) → value (trees.list ts) ≡ None) (no_pairs : (ps : Pairs) → value (trees.pairs ps) ≡ None) where
  -- A node's reading is that of its tree.
  leaf-tree : (buffer : List ℕ) (n : Node) (t : Tree) → tree_of buffer n ≡ Some t → leaf value buffer n ≡ value t
  unfolding tree_of
  leaf-tree buffer (scalar token) t e = ap (option_and_then value) e
  leaf-tree buffer (node.array first last nodes) t e =
      let values = list_meant (trees_of buffer nodes) t e in
      let made : Some (trees.list values.0) ≡ Some t = sym (ap (option_map trees.list) values.1) ∙ e in
      let same : trees.list values.0 ≡ t = cc in
      sym (no_list values.0) ∙ ap value same
  leaf-tree buffer (node.object first last inside) t e =
      let values = object_meant (pairs_of buffer inside) t e in
      let made : Some (trees.pairs values.0) ≡ Some t = sym (ap (option_map trees.pairs) values.1) ∙ e in
      let same : trees.pairs values.0 ≡ t = cc in
      sym (no_pairs values.0) ∙ ap value same

  -- The text of a tree that reads as the value's trees alone reads as the value.
  pub leaf-back : (v : V) (t : Tree) → WellFormed t → RawParts IsDocumentText t →
      ((read : Tree) → written.ReadsAs as_array t read → value read ≡ Some v) →
      RawParts IsDocumentText t × ReadsAs V (leaf value) (text default_options 0 t) v
  leaf-back v t well raw back =
      let r = written_is_read default_options t refl well raw in (
        raw,
        record {
          root = r.root;
          tree = r.value;
          document = r.document;
          is_read = leaf-tree (text default_options 0 t) r.root r.value r.document.reads.has_tree ∙ back r.value r.as_read;
        },
      )
