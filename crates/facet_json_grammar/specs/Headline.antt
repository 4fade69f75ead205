-- The headline: what a new parser of an input answers. Where the input has a document, it answers every list of calls as a cursor on
-- the document's walk; elsewhere, asked for the next event alone, it answers what the longest prefix of a document gives, and then
-- its one refusal. Where memory may be lacking, the cursor's steps and `AnswersAlone` say.
use Rattle.std.specs.Prelude.{◌≡◌, ℕ, List}
use Rattle.facet_json_token.specs.Gap.{Mode}
use Rattle.facet_json_token.specs.Tokens.{Tokens}
use Rattle.facet_json_token.specs.TokenList.{tokens}
use Rattle.facet_format.specs.Span.{span_at}
use Rattle.facet_format.specs.Complaint.{Refusal}
use Rattle.facet_format.specs.Event.{Passed}
use Rattle.facet_format.specs.Cursor.{Call, Answer, on_walk, Cursor, start, Run}
use Rattle.facet_json_grammar.specs.Node.{Node}
use Rattle.facet_json_grammar.specs.Tree.{Tree}
use Rattle.facet_json_grammar.specs.Document.{IsDocument}
use Rattle.facet_json_grammar.specs.Place.{Place}
use Rattle.facet_json_grammar.specs.Walk.{source_of}
use Rattle.facet_json_grammar.specs.Begun.{LongestPrefix, RefusesAfter}
use Rattle.facet_json_grammar.specs.PrefixRefusal.{Refuses}
use Rattle.facet_json_grammar.specs.Now.{Now, fresh, StandsAt}
use Rattle.facet_json_grammar.specs.Move.{MovesAll}
use Rattle.facet_json_grammar.specs.Alone.{AllNext, AnswersAlone}

-- A new parser of the input answers the calls so, and is then this.
abbrev pub NewAnswers : List ℕ → Mode → List Call → List Answer → Now → Type 0
NewAnswers buffer mode calls answers new = MovesAll (fresh buffer mode) calls answers new

-- The input has this document alone. Every list of calls is answered by a run of the cursor from its start on the document's walk,
-- and the parser then stands where that cursor does.
pub record AnswersDocument (buffer : List ℕ) (mode : Mode) : Type 0 where
  pub node : Node
  pub value : Tree
  pub document : IsDocument buffer mode node value
  pub only : (other : Node) (meant : Tree) → IsDocument buffer mode other meant → (other ≡ node) × (meant ≡ value)
  pub run : (calls : List Call) (answers : List Answer) (new : Now) → NewAnswers buffer mode calls answers new →
      (c : Cursor ℕ) × Run (on_walk (source_of buffer node)) start calls answers c × StandsAt new (source_of buffer node) c

-- The input has no document. Its one longest prefix that begins one gives these events, and by what stands after it the input is
-- refused so alone; and where only the next event is asked for, these events are answered, and then this refusal.
pub record AnswersPrefix (buffer : List ℕ) (mode : Mode) : Type 0 where
  pub no_document : (node : Node) (value : Tree) → IsDocument buffer mode node value → ⊥
  pub events : List Passed
  pub refusal : Refusal
  pub refused : RefusesAfter buffer mode events refusal
  pub only : (others : List Passed) (there : Place) (left : Tokens) → LongestPrefix buffer (tokens buffer mode) others there left →
      (others ≡ events) × (there ≡ refused.here) × (left ≡ refused.rest)
  pub refused_only : (other : Refusal) → Refuses buffer mode other → other ≡ refusal
  pub alone : (calls : List Call) (answers : List Answer) (new : Now) → AllNext calls → NewAnswers buffer mode calls answers new →
      AnswersAlone refusal (span_at 0 0) events answers

-- The input is of the one kind or of the other.
pub data Answered (buffer : List ℕ) (mode : Mode) : Type 0 where
  with_document : AnswersDocument buffer mode → Answered buffer mode
  without_document : AnswersPrefix buffer mode → Answered buffer mode

-- So every input is answered, in either mode.
abbrev pub Headline : Type 0
Headline = (buffer : List ℕ) (mode : Mode) → Answered buffer mode
