-- How a value is not passed. The one file of the definitions that names types of the code.
use Rattle.std.specs.Prelude.{◌≡◌, ◌≤◌, ◌+◌, ◌⊎◌, ℕ, List, Option, None, Some, IfSome, codes}
use Rattle.facet_format.specs.Event.{Event}
use Rattle.facet_format.specs.Views.{refusal_of}
use Rattle.facet_json_token.specs.Gap.{Mode, plain}
use Rattle.facet_json_token.specs.Tokens.{Tokens}
use Rattle.facet_json_grammar.specs.Document.{IsDocument}
use Rattle.facet_json_grammar.specs.Language.{strict}
use Rattle.facet_json_grammar.specs.Node.{Node}
use Rattle.facet_json_grammar.specs.StrictDocument.{IsStrictDocument}
use Rattle.facet_json_grammar.specs.Tree.{Tree}
use Rattle.facet_json_grammar.specs.Place.{Place}
use Rattle.facet_json_grammar.specs.Future.{Future}
use Rattle.facet_json_grammar.specs.PrefixRefusal.{Refuses}
use Rattle.facet_json_serializer.specs.Serializer.{Writing, out_of_memory}
use Rattle.facet_json_serializer.specs.TreeCalls.{with_tree}
use Rattle.facet_json_serializer.specs.Views as serializer
use Rattle.facet_json_core.specs.declared.error.JsonError.{JsonError}
use Rattle.facet_json_core.specs.declared.kind.JsonErrorKind.TheVariants as kind
use Rattle.facet_json_core.specs.ErrorViews.{error_at}
use Rattle.facet_json_core.specs.declared.transcode_error.TranscodeError.{TranscodeError}
use Rattle.facet_json_core.specs.declared.transcode_error.TranscodeError.TheVariants.{Read, Write}
use Rattle.facet_json_grammar.specs.Now.{Now, fresh, fresh_in}
use Rattle.facet_json_core.specs.Refusing.{mismatch_of, TellsRefusal}
use Rattle.facet_json_core.specs.Told.{Tells, Breaks}
use Rattle.facet_json_core.specs.Reading as reading

-- Of a new parser's input, and of what a serializer wrote that is not out of memory.
abbrev pub FromNew : Now → Option Writing → (List ℕ → Mode → Writing → Type 0) → Type 0
FromNew parser serializer holds = (input : List ℕ) (mode : Mode) (w : Writing) → parser ≡ fresh input mode → serializer ≡ Some w → holds input mode w

-- Of a new strict parser's input, and of what such a serializer wrote.
abbrev pub FromNewStrict : Now → Option Writing → (List ℕ → Writing → Type 0) → Type 0
FromNewStrict parser serializer holds = (input : List ℕ) (w : Writing) → parser ≡ fresh_in input (strict plain) → serializer ≡ Some w → holds input w

-- The input has a document, and its value was written.
abbrev pub WritesDocument : List ℕ → Mode → Writing → Option Writing → Type 0
WritesDocument input mode w new = (root : Node) × (value : Tree) × IsDocument input mode root value × (new ≡ Some (with_tree w value))

-- The input is a strict document, and its value was written.
abbrev pub WritesStrictDocument : List ℕ → Writing → Option Writing → Type 0
WritesStrictDocument input w new = (root : Node) × (value : Tree) × IsStrictDocument input root value × (new ≡ Some (with_tree w value))

-- Memory ran out, of the parser or of the serializer.
abbrev pub TranscodeLacksMemory : TranscodeError → Type 0
TranscodeLacksMemory (Read e) = reading.LacksMemory (refusal_of e)
TranscodeLacksMemory (Write e) = serializer.write_refusal_of e ≡ out_of_memory

-- Memory ran out, or no document goes on with the tokens at the place, and the parser refuses it so.
abbrev pub TranscodeLacksOrStops : List ℕ → Place → Tokens → TranscodeError → Type 0
TranscodeLacksOrStops buffer place rest (Read e) = reading.LacksOrStops buffer place rest (refusal_of e)
TranscodeLacksOrStops buffer place rest (Write e) = serializer.write_refusal_of e ≡ out_of_memory

-- Where the events tell a value it is out of memory, and where they break off within one that or how the input is refused there.
pub record IsUnwritten (buffer : List ℕ) (start : Future) (e : TranscodeError) : Type 0 where
  pub told : (v : Tree) (rest : Future) → Tells start v rest → TranscodeLacksMemory e
  pub broken : (place : Place) (rest : Tokens) → Breaks place rest start → TranscodeLacksOrStops buffer place rest e

-- Memory ran out, or the input has no document and is refused so.
abbrev pub IsTranscodeRefused : List ℕ → Mode → TranscodeError → Type 0
IsTranscodeRefused input mode (Read e) = reading.LacksMemory (refusal_of e) ⊎ Refuses input mode (refusal_of e)
IsTranscodeRefused input mode (Write e) = serializer.write_refusal_of e ≡ out_of_memory

-- What the parser refuses stands within so many bytes, where its place is known.
abbrev pub ErrorWithin : ℕ → TranscodeError → Type 0
ErrorWithin end (Read e) = IfSome e.span (λ s. s.offset + s.len ≤ end)
ErrorWithin end (Write e) = Unit {0}

-- What is told of the parser is its own refusal, or that nothing or no value comes, or out of memory.
abbrev pub TellsError : Now → Now → TranscodeError → Type 0
TellsError old new (Read e) = TellsRefusal old new (refusal_of e)
TellsError old new (Write e) = Unit {0}

-- Memory ran out, of the parser, or a value is expected in place of this event.
abbrev pub IsMisplaced : Event → TranscodeError → Type 0
IsMisplaced given (Read e) = reading.LacksMemory (refusal_of e) ⊎ (refusal_of e ≡ mismatch_of (codes "value") given)
IsMisplaced given (Write e) = ⊥

-- the error that a person reads
abbrev pub error_of : TranscodeError → JsonError
error_of (Read e) = error_at (kind.Read e.kind) e.span
error_of (Write e) = error_at (kind.Write e) None
