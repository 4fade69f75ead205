-- The text of a value comes back as the value.
use Rattle.std.proofs.Common.{◌≡◌, ℕ, List, Option, Some, Ok, Err, Result, sym, ap, ◌∙◌, subst}
use Rattle.std.specs.Prelude.{IfOk}
use Rattle.facet_json_token.specs.Gap.{plain}
use Rattle.facet_json_token.specs.Tokens.{ended}
use Rattle.facet_json_grammar.specs.Document.{IsDocument}
use Rattle.facet_json_grammar.specs.Node.{Node}
use Rattle.facet_json_grammar.specs.Text.{Options, default_options, text}
use Rattle.facet_json_grammar.specs.Tree.{Tree}
use Rattle.facet_json_grammar.proofs.Spelling.OneSpelling.{one_document}
use Rattle.facet_json_core.specs.Meaning.Laws.{ReadsAs, ReadsBack}
use Rattle.facet_json_facet.specs.Inputs.{ComesBack}

comes-back : {V : Type 0} (reading : List ℕ → Node → Option V) (bytes : List ℕ) (value : V) → ReadsAs V reading bytes value →
    ComesBack reading bytes value
comes-back reading bytes value r =
    let there : IsDocument bytes plain r.root r.tree = record { rest = ended; reads = r.document.reads } in (
      (r.root, r.tree, there),
      λ root tree d.
          subst (λ n. reading bytes n ≡ Some value) (sym (one_document bytes plain root r.root tree r.tree d there).0) r.is_read,
    )

-- The same of a text that is answered.
pub answered-comes_back : {V W E : Type 0} (items : W → List ℕ) (reading : List ℕ → Node → Option V) (tree_of : V → Tree)
    (always readable : V → Type 0) → ReadsBack reading tree_of always readable → (r : Result W E) (value : V) (o : Options) → always value →
    IfOk r (λ w. items w ≡ text o 0 (tree_of value)) → o ≡ default_options →
    IfOk r (λ w. readable value → ComesBack reading (items w) value)
answered-comes_back items reading tree_of always readable back (Ok w) value o has is default = λ can_be.
    subst (λ bytes. ComesBack reading bytes value) (sym (is ∙ ap (λ p. text p 0 (tree_of value)) default))
    (comes-back reading _ value (back value has can_be).1)
answered-comes_back items reading tree_of always readable back (Err e) value o has is default = tt
