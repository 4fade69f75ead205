-- What it means that an input is read as a value of a type, and that a text comes back.
use Rattle.std.specs.Prelude.{◌≡◌, ◌⊎◌, ℕ, Bool, true, List, Option, Some, None, Result, IfOk, IfErr, OnOk}
use Rattle.facet_format.specs.Complaint.{Refusal}
use Rattle.facet_format.specs.Span.{stop}
use Rattle.facet_format.specs.Views.{refusal_of}
use Rattle.facet_format.specs.declared.error.DeserializeError.{DeserializeError}
use Rattle.facet_json_token.specs.Gap.{Mode, plain}
use Rattle.facet_json_token.specs.Token.{Token}
use Rattle.facet_json_token.specs.Tokens.{Tokens}
use Rattle.facet_json_token.specs.TokenList.{tokens}
use Rattle.facet_json_grammar.specs.Document.{IsDocument}
use Rattle.facet_json_grammar.specs.Language.{Language, lenient, strict}
use Rattle.facet_json_grammar.specs.Node.{Node}
use Rattle.facet_json_grammar.specs.Run.{Run}
use Rattle.facet_json_grammar.specs.Tree.{Tree}
use Rattle.facet_json_grammar.specs.StrictDocument.{IsStrictDocument, IsStrict}
use Rattle.facet_json_grammar.specs.Now.{Now, fresh_in}
use Rattle.facet_json_grammar.specs.OneRun.{IsOneRun}
use Rattle.facet_json_grammar.specs.UnreadLaws.{RefusalWithin}
use Rattle.facet_json_core.specs.Refusing.{ComesTo, TellsRefusal}
use Rattle.facet_json_core.specs.Reading.{LacksMemory}

-- The input has a document.
abbrev pub BeginsWithDocument : List ℕ → Mode → Type 0
BeginsWithDocument input mode = (root : Node) × (tree : Tree) × IsDocument input mode root tree

-- The input's tokens, with these gaps between them, begin with a balanced run.
abbrev pub BeginsWithRun : List ℕ → Mode → Type 0
BeginsWithRun input mode = (last : Token) × (rest : Tokens) × Run (tokens input mode) last rest

-- The same, and the run ends at this offset.
abbrev pub BeginsWithRunTo : List ℕ → Mode → ℕ → Type 0
BeginsWithRunTo input mode end = (last : Token) × (rest : Tokens) × Run (tokens input mode) last rest × (stop last.span ≡ end)

-- Where the input has a document, its reading is the value.
abbrev pub IsReadFrom : {V : Type 0} → (List ℕ → Node → Option V) → List ℕ → Mode → V → Type 0
IsReadFrom reading input mode value = (root : Node) (tree : Tree) → IsDocument input mode root tree → reading input root ≡ Some value

-- Where the input has a document, memory ran out, or the document has no reading.
abbrev pub IsUnreadFrom : {V : Type 0} → (List ℕ → Node → Option V) → List ℕ → Mode → Refusal → Type 0
IsUnreadFrom reading input mode refusal = (root : Node) (tree : Tree) → IsDocument input mode root tree →
    LacksMemory refusal ⊎ (reading input root ≡ None)

-- Where the input is a strict document, its reading is the value.
abbrev pub IsReadStrictly : {V : Type 0} → (List ℕ → Node → Option V) → List ℕ → V → Type 0
IsReadStrictly reading input value = (root : Node) (tree : Tree) → IsStrictDocument input root tree → reading input root ≡ Some value

-- Where the input is a strict document, memory ran out, or the document has no reading.
abbrev pub IsUnreadStrictly : {V : Type 0} → (List ℕ → Node → Option V) → List ℕ → Refusal → Type 0
IsUnreadStrictly reading input refusal = (root : Node) (tree : Tree) → IsStrictDocument input root tree →
    LacksMemory refusal ⊎ (reading input root ≡ None)

-- The text has a document without comments, which is read as the value.
abbrev pub ComesBack : {V : Type 0} → (List ℕ → Node → Option V) → List ℕ → V → Type 0
ComesBack reading bytes value = BeginsWithDocument bytes plain × IsReadFrom reading bytes plain value

-- A new parser of the input was read by calls, and how it was refused is told.
pub record IsToldOf (input : List ℕ) (language : Language) (refusal : Refusal) : Type 0 where
  pub last : Now
  pub came : ComesTo (fresh_in input language) last
  pub tells : TellsRefusal (fresh_in input language) last refusal

-- What a call answers that reads the value which an input begins with. Of a type that is read only where there is a document, `whole` is true.
pub record FirstValue {V A : Type 0} (reading : List ℕ → Node → Option V) (whole : Bool) (view : A → V) (input : List ℕ) (mode : Mode)
    (result : Result A DeserializeError) : Type 0 where
  pub read : IfOk result (λ v. IsReadFrom reading input mode (view v))
  pub unread : IfErr result (λ e. IsUnreadFrom reading input mode (refusal_of e))
  pub document : whole ≡ true → OnOk result (BeginsWithDocument input mode)
  pub one_value : OnOk result (BeginsWithRun input mode)
  pub within : IfErr result (λ e. RefusalWithin input (refusal_of e))
  pub tells : IfErr result (λ e. IsToldOf input (lenient mode) (refusal_of e))

-- The same of one that reads the value which a strict input is.
pub record StrictValue {V A : Type 0} (reading : List ℕ → Node → Option V) (whole : Bool) (view : A → V) (input : List ℕ)
    (result : Result A DeserializeError) : Type 0 where
  pub read : IfOk result (λ v. IsReadStrictly reading input (view v))
  pub unread : IfErr result (λ e. IsUnreadStrictly reading input (refusal_of e))
  pub document : whole ≡ true → OnOk result (IsStrict input)
  pub one_run : OnOk result (IsOneRun input plain)
  pub within : IfErr result (λ e. RefusalWithin input (refusal_of e))
  pub tells : IfErr result (λ e. IsToldOf input (strict plain) (refusal_of e))
