-- Passing a document in either language: what a value and the end behind it say.
use Rattle.std.proofs.Common.{◌≡◌, ℕ, List, Option, Some}
use Rattle.facet_json_token.specs.Gap.{Mode, plain, jsonc}
use Rattle.facet_json_grammar.specs.Language.{lenient, strict}
use Rattle.facet_json_grammar.specs.Node.{Node}
use Rattle.facet_json_grammar.specs.Tree.{Tree}
use Rattle.facet_json_grammar.specs.Document.{IsDocument}
use Rattle.facet_json_grammar.specs.StrictDocument.{IsStrictDocument, IsStrict}
use Rattle.facet_json_reader.specs.declared.place.Language.{Language}
use Rattle.facet_json_reader.specs.declared.place.Language.TheVariants.{Plain, Jsonc, Strict}
use Rattle.facet_json_grammar.specs.Now.{Now, fresh, fresh_in}
use Rattle.facet_json_reader.specs.PlaceViews.{language_of}
use Rattle.facet_json_serializer.specs.Serializer.{Writing}
use Rattle.facet_json_serializer.specs.TreeCalls.{with_tree}
use Rattle.facet_json_command.specs.declared.run.Outcome.{Outcome}
use Rattle.facet_json_command.specs.Run.{IsDocumentIn, HasDocumentIn, IsRefusal}

-- Behind the end of a value the document is passed.
pub document_passed : (language : Language) (input : List ℕ) (w : Writing) (old : Now) (after : Option Writing) (Over : Type 0) →
    old ≡ fresh_in input (language_of language) →
    ((mode : Mode) → old ≡ fresh input mode →
    (root : Node) × (value : Tree) × IsDocument input mode root value × (after ≡ Some (with_tree w value))) →
    (old ≡ fresh_in input (strict plain) → Over →
    (root : Node) × (value : Tree) × IsStrictDocument input root value × (after ≡ Some (with_tree w value))) →
    Over → (root : Node) × (value : Tree) × IsDocumentIn (language_of language) input root value × (after ≡ Some (with_tree w value))
document_passed Plain input w old after Over is begun whole over = begun plain is
document_passed Jsonc input w old after Over is begun whole over = begun jsonc is
document_passed Strict input w old after Over is begun whole over = whole is over

-- What holds where the input has a document is told of a document in each language.
pub where_document : (language : Language) (input : List ℕ) (old : Now) (P : Type 0) → old ≡ fresh_in input (language_of language) →
    ((mode : Mode) → old ≡ fresh input mode → (root : Node) (value : Tree) → IsDocument input mode root value → P) →
    (old ≡ fresh_in input (strict plain) → (root : Node) (value : Tree) → IsStrictDocument input root value → P) →
    HasDocumentIn (language_of language) input → P
where_document Plain input old P is begun whole has = begun plain is has.0 has.1 has.2
where_document Jsonc input old P is begun whole has = begun jsonc is has.0 has.1 has.2
where_document Strict input old P is begun whole has = whole is has.0 has.1 has.2

-- A refusal is told of in each language.
pub refusal_is : (language : Language) (input : List ℕ) (outcome : Outcome) (P : Type 0) {parser : Now} →
    parser ≡ fresh_in input (language_of language) →
    ((mode : Mode) → parser ≡ fresh input mode → IsRefusal (lenient mode) input outcome) →
    ((IsStrict input → P) → IsRefusal (strict plain) input outcome) →
    (HasDocumentIn (language_of language) input → P) → IsRefusal (language_of language) input outcome
refusal_is Plain input outcome P is begun whole only = begun plain is
refusal_is Jsonc input outcome P is begun whole only = begun jsonc is
refusal_is Strict input outcome P is begun whole only = whole only
