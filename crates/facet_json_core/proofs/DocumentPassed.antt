-- From the value at the root, passed or refused, to a document, in either mode.
use Rattle.std.proofs.Common.{◌≡◌, ℕ, List, Some, Option, sym, subst}
use Rattle.facet_json_token.specs.Gap.{Mode}
use Rattle.facet_json_grammar.specs.Node.{Node}
use Rattle.facet_json_grammar.specs.Tree.{Tree}
use Rattle.facet_json_grammar.specs.Document.{IsDocument}
use Rattle.facet_json_grammar.specs.Future.{Future, finished}
use Rattle.facet_json_grammar.specs.Now.{fresh, future_of}
use Rattle.facet_json_grammar.specs.EventLaws.{RootComes, document_comes, prefix_comes}
use Rattle.facet_json_grammar.proofs.LongestPrefix.{input-comes}
use Rattle.facet_json_serializer.specs.Serializer.{Writing, out_of_memory}
use Rattle.facet_json_serializer.specs.TreeCalls.{with_tree}
use Rattle.facet_json_serializer.specs.Views as serializer
use Rattle.facet_json_serializer.specs.declared.error.JsonSerializeError.{JsonSerializeError}
use Rattle.facet_format.specs.declared.error.DeserializeError.{DeserializeError}
use Rattle.facet_format.specs.Views.{refusal_of}
use Rattle.facet_json_core.specs.declared.transcode_error.TranscodeError.{TranscodeError}
use Rattle.facet_json_core.specs.declared.transcode_error.TranscodeError.TheVariants.{Read, Write}
use Rattle.facet_json_core.specs.Told.{Tells, Breaks}
use Rattle.facet_json_core.specs.Reading.{IsValueUnread}
use Rattle.facet_json_core.specs.Transcode.{IsWritten}
use Rattle.facet_json_core.specs.TranscodeViews.{IsUnwritten, TranscodeLacksMemory, IsTranscodeRefused}
use Rattle.facet_json_core.proofs.Cuts.{Cut, GoesOn, uncut, value-ends}
use Rattle.facet_json_core.proofs.DocumentFromRoot.{document-told, unread-refused}
use Rattle.facet_json_core.proofs.PrefixBreaksOff.{begun-breaks}

-- ---- by whom a value is refused

-- The parser refuses it.
pub read-unwritten : (buffer : List ℕ) (start : Future) (e : DeserializeError) → IsValueUnread buffer start (refusal_of e) →
    IsUnwritten buffer start (Read e)
read-unwritten buffer start e unread = record { told = unread.told; broken = unread.broken }

-- The serializer refuses it.
pub write-unwritten : (buffer : List ℕ) (start : Future) (e : JsonSerializeError) →
    ((o : Option Cut) (g : Future) (v : Tree) (rest : Future) → GoesOn o start g → Tells g v rest → serializer.write_refusal_of e ≡ out_of_memory) →
    IsUnwritten buffer start (Write e)
write-unwritten buffer start e none = record {
  told = λ v rest told. none _ start v rest (uncut start) told;
  broken = λ place rest broken. let more = value-ends place rest start finished broken in none _ more.whole more.value finished more.on more.told;
}

-- ---- documents

module _ (buffer : List ℕ) (mode : Mode) where
  -- What is written is the document's tree.
  pub written-only : (w : Writing) (behind : Future) (after : Option Writing) → IsWritten (future_of (fresh buffer mode)) w behind after →
      (root : Node) (value : Tree) → IsDocument buffer mode root value → after ≡ Some (with_tree w value)
  written-only w behind after written root value d = (written.told value finished (document-told buffer mode root value d)).0

  -- Where there is a document, only out of memory is refused.
  pub unwritten-only : (e : TranscodeError) → IsUnwritten buffer (future_of (fresh buffer mode)) e →
      (root : Node) (value : Tree) → IsDocument buffer mode root value → TranscodeLacksMemory e
  unwritten-only e unwritten root value d = unwritten.told value finished (document-told buffer mode root value d)

  written_by : (w : Writing) (behind : Future) (after : Option Writing) → IsWritten (future_of (fresh buffer mode)) w behind after →
      RootComes buffer mode → (root : Node) × (value : Tree) × IsDocument buffer mode root value × (after ≡ Some (with_tree w value))
  written_by w behind after written (document_comes node value d comes) =
      (node, value, d, written-only w behind after written node value d)
  written_by w behind after written (prefix_comes events here left front e) =
      absurd (written.whole here left (subst (λ f. Breaks here left f) (sym e) (begun-breaks buffer front.begun)))

  -- What is written is the tree of a document.
  pub written-document : (w : Writing) (behind : Future) (after : Option Writing) → IsWritten (future_of (fresh buffer mode)) w behind after →
      (root : Node) × (value : Tree) × IsDocument buffer mode root value × (after ≡ Some (with_tree w value))
  written-document w behind after written = written_by w behind after written (input-comes buffer mode)

  write-refused : (e : JsonSerializeError) → IsUnwritten buffer (future_of (fresh buffer mode)) (Write e) → RootComes buffer mode →
      IsTranscodeRefused buffer mode (Write e)
  write-refused e unwritten (document_comes node value d comes) = unwritten-only (Write e) unwritten node value d
  write-refused e unwritten (prefix_comes events here left front more) =
      unwritten.broken here left (subst (λ f. Breaks here left f) (sym more) (begun-breaks buffer front.begun))

  over_by : (w : Writing) (behind : Future) (after : Option Writing) → IsWritten (future_of (fresh buffer mode)) w behind after →
      RootComes buffer mode → behind ≡ finished
  over_by w behind after written (document_comes node value d comes) = (written.told value finished (document-told buffer mode node value d)).1
  over_by w behind after written (prefix_comes events here left front e) =
      absurd (written.whole here left (subst (λ f. Breaks here left f) (sym e) (begun-breaks buffer front.begun)))

  -- Nothing is left behind what is written: what follows the root is not looked at.
  pub written-over : (w : Writing) (behind : Future) (after : Option Writing) → IsWritten (future_of (fresh buffer mode)) w behind after →
      behind ≡ finished
  written-over w behind after written = over_by w behind after written (input-comes buffer mode)

  -- What is refused for anything but out of memory is so refused after the longest prefix.
  pub unwritten-refused : (e : TranscodeError) → IsUnwritten buffer (future_of (fresh buffer mode)) e → IsTranscodeRefused buffer mode e
  unwritten-refused (Read e) unwritten =
      unread-refused buffer mode (refusal_of e) (record { told = unwritten.told; broken = unwritten.broken })
  unwritten-refused (Write e) unwritten = write-refused e unwritten (input-comes buffer mode)
