-- What a parser answers that reads RFC 8259 alone, in the terms of the grammar. The law is the contract of a function of the module `laws`.
use Rattle.std.specs.Prelude.{ℕ, List, Contains, Ok, None}
use Rattle.facet_format.specs.Cursor.{Call, Answer, event}
use Rattle.facet_json_token.specs.Gap.{plain}
use Rattle.facet_json_grammar.specs.Language.{strict}
use Rattle.facet_json_grammar.specs.RfcReadable.{IsReadableText}
use Rattle.facet_json_grammar.specs.RfcText.{InUtf8}
use Rattle.facet_json_grammar.specs.Now.{Now, fresh_in}
use Rattle.facet_json_grammar.specs.Move.{MovesAll}
use Rattle.facet_json_grammar.specs.Alone.{AllNext}
use Rattle.facet_json_grammar.specs.StrictHeadline.{AnswersStrict, RefusesStrict}

-- The input is UTF-8 and one text of RFC 8259, all of whose strings have a text and whose whole numbers lie within 128 bits.
abbrev pub IsText : List ℕ → Type 0
IsText = InUtf8 IsReadableText

-- What a new strict parser of the input answers.
pub record ReadsTextsAlone (buffer : List ℕ) : Type 0 where
  -- on a text all calls are a run of the cursor on its document's walk
  pub on_texts : IsText buffer → AnswersStrict buffer
  -- elsewhere the next event alone is answered with events, and then with one refusal
  pub elsewhere : (IsText buffer → ⊥) → RefusesStrict buffer
  -- so, where only the next event is asked for, the end is told of a text alone
  pub ends : (calls : List Call) (answers : List Answer) (new : Now) → AllNext calls → MovesAll (fresh_in buffer (strict plain)) calls answers new →
      Contains answers (event (Ok None)) → IsText buffer

abbrev pub StrictReadsTexts : Type 0
StrictReadsTexts = (buffer : List ℕ) → ReadsTextsAlone buffer
