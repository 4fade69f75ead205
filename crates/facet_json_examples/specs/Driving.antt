-- What a new parser answers to any calls, on any input.
use Rattle.std.specs.Prelude.{ℕ, List}
use Rattle.facet_json.specs.Alone.{AllNext, AnswersAlone}
use Rattle.facet_json.specs.Begun.{RefusesAfter}
use Rattle.facet_json.specs.Complaint.{Refusal}
use Rattle.facet_json.specs.Cursor.{Call, Answer, on_walk, Cursor, start, Run}
use Rattle.facet_json.specs.Document.{IsDocument}
use Rattle.facet_json.specs.Event.{Passed}
use Rattle.facet_json.specs.Gap.{Mode}
use Rattle.facet_json.specs.Node.{Node}
use Rattle.facet_json.specs.Span.{span_at}
use Rattle.facet_json.specs.Tree.{Tree}
use Rattle.facet_json.specs.Walk.{source_of}

-- The input has a document, and the answers are a run of the cursor from its start on the document's walk.
pub record AreOfDocument (buffer : List ℕ) (mode : Mode) (calls : List Call) (answers : List Answer) : Type 0 where
  pub node : Node
  pub value : Tree
  pub document : IsDocument buffer mode node value
  pub last : Cursor ℕ
  pub run : Run (on_walk (source_of buffer node)) start calls answers last

-- The input has none. Its longest prefix that begins one gives these events, and what stands after it is refused so; and where only the
-- next event is asked for, the answers are these events, and then this refusal.
pub record AreOfPrefix (buffer : List ℕ) (mode : Mode) (calls : List Call) (answers : List Answer) : Type 0 where
  pub no_document : (node : Node) (value : Tree) → IsDocument buffer mode node value → ⊥
  pub events : List Passed
  pub refusal : Refusal
  pub refused : RefusesAfter buffer mode events refusal
  pub alone : AllNext calls → AnswersAlone refusal (span_at 0 0) events answers

-- The answers are of the one kind or of the other.
pub data AreAnswers (buffer : List ℕ) (mode : Mode) (calls : List Call) (answers : List Answer) : Type 0 where
  of_document : AreOfDocument buffer mode calls answers → AreAnswers buffer mode calls answers
  of_prefix : AreOfPrefix buffer mode calls answers → AreAnswers buffer mode calls answers
