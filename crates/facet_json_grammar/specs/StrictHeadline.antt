-- What a new parser answers that reads RFC 8259 alone. Where the input is a strict document, it answers every list of calls as a cursor on
-- the document's walk; elsewhere, asked for the next event alone, it answers events and then one refusal, and never the end.
use Rattle.std.specs.Prelude.{◌<◌, ℕ, List, length}
use Rattle.facet_format.specs.Span.{span_at}
use Rattle.facet_format.specs.Complaint.{Refusal}
use Rattle.facet_format.specs.Event.{Passed}
use Rattle.facet_format.specs.Cursor.{Call, Answer, on_walk, Cursor, start, Run}
use Rattle.facet_json_token.specs.Gap.{plain}
use Rattle.facet_json_grammar.specs.Language.{Language, strict}
use Rattle.facet_json_grammar.specs.Node.{Node}
use Rattle.facet_json_grammar.specs.Tree.{Tree}
use Rattle.facet_json_grammar.specs.StrictDocument.{IsStrictDocument}
use Rattle.facet_json_grammar.specs.Walk.{source_of}
use Rattle.facet_json_grammar.specs.Now.{Now, fresh_in, StandsAt}
use Rattle.facet_json_grammar.specs.Move.{MovesAll}
use Rattle.facet_json_grammar.specs.Alone.{AllNext, AnswersAlone}
use Rattle.facet_json_grammar.specs.CallLaws.{Ends}

-- The input is this strict document alone, and all calls are a run of the cursor on its walk.
pub record AnswersStrict (buffer : List ℕ) : Type 0 where
  pub node : Node
  pub value : Tree
  pub document : IsStrictDocument buffer node value
  pub run : (calls : List Call) (answers : List Answer) (new : Now) → MovesAll (fresh_in buffer (strict plain)) calls answers new →
      (c : Cursor ℕ) × Run (on_walk (source_of buffer node)) start calls answers c × StandsAt new (source_of buffer node) c

-- The input is no strict document: the next event alone is answered with these events, and then with this refusal.
pub record RefusesStrict (buffer : List ℕ) : Type 0 where
  pub no_document : (node : Node) (value : Tree) → IsStrictDocument buffer node value → ⊥
  pub events : List Passed
  pub refusal : Refusal
  pub alone : (calls : List Call) (answers : List Answer) (new : Now) → AllNext calls → MovesAll (fresh_in buffer (strict plain)) calls answers new →
      AnswersAlone refusal (span_at 0 0) events answers

pub data StrictAnswered (buffer : List ℕ) : Type 0 where
  as_document : AnswersStrict buffer → StrictAnswered buffer
  as_none : RefusesStrict buffer → StrictAnswered buffer

abbrev pub StrictHeadline : Type 0
StrictHeadline = (buffer : List ℕ) → StrictAnswered buffer

-- In either language, of more calls for the next event than the input has bytes one is answered with the end or a refusal.
abbrev pub EndsInTimeIn : Type 0
EndsInTimeIn = (buffer : List ℕ) (language : Language) (new : Now) (calls : List Call) (answers : List Answer) → AllNext calls →
    length buffer < length calls → MovesAll (fresh_in buffer language) calls answers new → Ends answers
