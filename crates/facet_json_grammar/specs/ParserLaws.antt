-- Laws of parsers: where a new one stands, what comes from there, and what reading by the next event alone answers where there is no document.
use Rattle.std.specs.Prelude.{ℕ, List}
use Rattle.facet_json_token.specs.Gap.{Mode}
use Rattle.facet_format.specs.Cursor.{Call, Answer, start}
use Rattle.facet_format.specs.Agree.{AgreeToLack}
use Rattle.facet_json_grammar.specs.Node.{Node}
use Rattle.facet_json_grammar.specs.Tree.{Tree}
use Rattle.facet_json_grammar.specs.Document.{IsDocument}
use Rattle.facet_json_grammar.specs.Walk.{source_of}
use Rattle.facet_json_grammar.specs.Now.{Now, fresh, StandsAt}
use Rattle.facet_json_grammar.specs.Move.{MovesAll}
use Rattle.facet_json_grammar.specs.Headline.{AnswersPrefix}

-- A new parser of an input with a document stands where the cursor starts on the document's walk.
abbrev pub NewStands : Type 0
NewStands = (buffer : List ℕ) (mode : Mode) (node : Node) (value : Tree) → IsDocument buffer mode node value →
    StandsAt (fresh buffer mode) (source_of buffer node) start

-- Where the input has no document, a new parser that is asked for the next event alone answers what the longest prefix gives, one
-- event a call, and from then on the one refusal of what stands after that prefix; or, in place of an event that allocates, out of
-- memory with the current span.
abbrev pub AloneIsGiven : Type 0
AloneIsGiven = (buffer : List ℕ) (mode : Mode) → ((node : Node) (value : Tree) → IsDocument buffer mode node value → ⊥) →
    AnswersPrefix buffer mode

-- Both answer the same calls alike, up to the first out of memory in either.
abbrev pub AnswerAlike : Now → Now → Type 0
AnswerAlike one other = (calls : List Call) (these those : List Answer) (new changed : Now) → MovesAll one calls these new →
    MovesAll other calls those changed → AgreeToLack these those

-- Two parsers that are one value do. The value says what is read, in which language and where the parser stands, and not whether the
-- parser trusts its input.
abbrev pub MovesAgree : Type 0
MovesAgree = (now : Now) → AnswerAlike now now
