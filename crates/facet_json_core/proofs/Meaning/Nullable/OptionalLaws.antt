-- Values that may be null: nodes of the same text are read alike, and what is written comes back.
use Rattle.std.specs.Prelude.{ℕ, List, cond, slice_range}
use Rattle.std.specs.Option.{option_map, IfSome}
use Rattle.std.proofs.Common.{◌≡◌, ℕ, Bool, true, false, List, Option, None, Some, refl, sym, ap, ◌∙◌, subst}
use Rattle.facet_format.specs.NumberValue.{Number, number}
use Rattle.facet_format.specs.NumberValue as numbers
use Rattle.facet_json_token.specs.Decoded.{decoded}
use Rattle.facet_json_token.specs.Token.{Kind, Token}
use Rattle.facet_json_token.specs.Token as token
use Rattle.facet_json_grammar.specs.Document.{IsWholeDocument}
use Rattle.facet_json_grammar.specs.Node.{Node, scalar}
use Rattle.facet_json_grammar.specs.Node as node
use Rattle.facet_json_grammar.specs.Meaning.{meaning_of, tree_of_number, tree_of, trees_of, pairs_of}
use Rattle.facet_json_grammar.specs.Text.{as_array, text, default_options}
use Rattle.facet_json_grammar.specs.Tree.{Tree, Trees, Pairs}
use Rattle.facet_json_grammar.specs.Tree as trees
use Rattle.facet_json_grammar.specs.AsRead.{RawParts, WellFormed, IsDocumentText, null_is_null}
use Rattle.facet_json_grammar.specs.AsRead as written
use Rattle.facet_json_grammar.proofs.Values.TreeTexts.{written_is_read}
use Rattle.facet_json_core.specs.Meaning.Nodes.{SameToken, same_mark, same_string, same_number, SameText, same_scalars, same_arrays, same_objects}
use Rattle.facet_json_core.specs.Meaning.Laws.{SameReading, ReadsAs, ReadsBack}
use Rattle.facet_json_core.specs.Meaning.Optional.{is_null_token, is_null_node, optional, optional_tree, IsNullText, OptionalReadable}

-- ---- nodes of the same text

same-null_token : (these those : List ℕ) (t u : Token) → SameToken these those t u → is_null_token t.kind ≡ is_null_token u.kind
same-null_token these those t u (same_mark _ _ e k) = ap is_null_token k
same-null_token these those t u (same_string _ _ start finish begin end has_escapes k l e) = ap is_null_token k ∙ sym (ap is_null_token l)
same-null_token these those t u (same_number _ _ start finish begin end hint k l e) = ap is_null_token k ∙ sym (ap is_null_token l)

same-null : (these those : List ℕ) (n m : Node) → SameText these those n m → is_null_node n ≡ is_null_node m
same-null these those _ _ (same_scalars t u same bytes) = same-null_token these those t u same
same-null these those _ _ (same_arrays first last begin end nodes others bytes same) = refl
same-null these those _ _ (same_objects first last begin end inside others bytes same) = refl

pub optional-same : {V : Type 0} (reading : List ℕ → Node → Option V) → SameReading reading → SameReading (optional reading)
optional-same reading alike these those n m same =
    ap (λ b. cond b (Some None) (option_map Some (reading these n))) (same-null these those n m same)
    ∙ ap (λ o. cond (is_null_node m) (Some None) (option_map Some o)) (alike these those n m same)

-- ---- back from the text

as_read-null : (read : Tree) → written.ReadsAs as_array trees.null read → read ≡ trees.null
as_read-null _ null_is_null = refl

no-null : {A : Type 0} (f : A → Tree) (o : Option A) (b : Bool) → ((a : A) → f a ≡ trees.null → b ≡ true) → option_map f o ≡ Some trees.null →
    b ≡ true
no-null f None b never e = cc
no-null f (Some a) b never e = never a (cc)

number-no_null : (n : Number) (b : Bool) → tree_of_number n ≡ trees.null → b ≡ true
number-no_null (numbers.u64 n) b e = cc
number-no_null (numbers.u128 n) b e = cc
number-no_null (numbers.i64 n) b e = cc
number-no_null (numbers.i128 n) b e = cc
number-no_null (numbers.decimal digits) b e = cc

null-meant : (buffer : List ℕ) (kind : Kind) → meaning_of buffer kind ≡ Some trees.null → is_null_token kind ≡ true
null-meant buffer token.null e = refl
null-meant buffer token.true_literal e = cc
null-meant buffer token.false_literal e = cc
null-meant buffer (token.string start finish has_escapes) e =
    no-null trees.text (decoded (slice_range buffer start finish)) false (λ (t : List ℕ) k. cc) e
null-meant buffer (token.number start finish hint) e =
    no-null tree_of_number (number (slice_range buffer start finish) hint) false (λ (n : Number) k. number-no_null n false k) e
null-meant buffer token.object_start e = cc
null-meant buffer token.object_end e = cc
null-meant buffer token.array_start e = cc
null-meant buffer token.array_end e = cc
null-meant buffer token.colon e = cc
null-meant buffer token.comma e = cc

-- A node whose tree is null is null.
tree-is_null : (buffer : List ℕ) (n : Node) → tree_of buffer n ≡ Some trees.null → is_null_node n ≡ true
unfolding tree_of
tree-is_null buffer (scalar t) e = null-meant buffer t.kind e
tree-is_null buffer (node.array first last nodes) e = no-null trees.list (trees_of buffer nodes) false (λ (ts : Trees) k. cc) e
tree-is_null buffer (node.object first last inside) e = no-null trees.pairs (pairs_of buffer inside) false (λ (ps : Pairs) k. cc) e

null-token_means : (buffer : List ℕ) (kind : Kind) → is_null_token kind ≡ true → meaning_of buffer kind ≡ Some trees.null
null-token_means buffer token.null e = refl
null-token_means buffer _ e = cc

-- The tree of a node that is null is null.
null-has_tree : (buffer : List ℕ) (n : Node) → is_null_node n ≡ true → tree_of buffer n ≡ Some trees.null
unfolding tree_of
null-has_tree buffer (scalar t) e = null-token_means buffer t.kind e
null-has_tree buffer (node.array first last nodes) e = cc
null-has_tree buffer (node.object first last inside) e = cc

-- A whole document of another text is not null.
not-null : (bytes : List ℕ) (root : Node) (t : Tree) → IsWholeDocument bytes root t → ¬ (IsNullText bytes) → (b : Bool) → is_null_node root ≡ b → b ≡ false
not-null bytes root t document never true is =
    let both : Some trees.null ≡ Some t = sym (null-has_tree bytes root is) ∙ document.reads.has_tree in
    let same : t ≡ trees.null = cc in
    absurd (never (root, subst (IsWholeDocument bytes root) same document))
not-null bytes root t document never false is = refl

none-back : {V : Type 0} (reading : List ℕ → Node → Option V) →
    RawParts IsDocumentText trees.null × ReadsAs (Option V) (optional reading) (text default_options 0 trees.null) None
unfolding WellFormed RawParts
none-back reading =
    let r = written_is_read default_options trees.null refl tt tt in
    let is = tree-is_null (text default_options 0 trees.null) r.root (r.document.reads.has_tree ∙ ap Some (as_read-null r.value r.as_read)) in (
      tt,
      record {
        root = r.root;
        tree = r.value;
        document = r.document;
        is_read = rw is refl;
      },
    )

pub optional-reads_back : {V : Type 0} (reading : List ℕ → Node → Option V) (tree_of : V → Tree) (always readable : V → Type 0) →
    ReadsBack reading tree_of always readable → ReadsBack (optional reading) (optional_tree tree_of) (λ o. IfSome o always) (OptionalReadable tree_of readable)
optional-reads_back reading tree_of always readable back None has comes = none-back reading
optional-reads_back reading tree_of always readable back (Some v) has comes =
    let b = back v has comes.0 in
    let written = text default_options 0 (tree_of v) in
    let other = not-null written b.1.root b.1.tree b.1.document comes.1 (is_null_node b.1.root) refl in (
      b.0,
      record {
        root = b.1.root;
        tree = b.1.tree;
        document = b.1.document;
        is_read = rw (other, b.1.is_read) refl;
      },
    )
