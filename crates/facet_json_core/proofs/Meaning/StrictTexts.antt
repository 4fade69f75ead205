-- What a strict parser answers on texts of RFC 8259, and elsewhere.
use Rattle.std.proofs.Common.{◌≡◌, ◌<◌, ℕ, zero, suc, List, Ok, None, length, arith}
use Rattle.std.specs.Prelude.{slice_index_or}
use Rattle.facet_format.specs.Complaint.{Refusal}
use Rattle.facet_format.specs.Cursor.{Answer, event}
use Rattle.facet_format.specs.Event.{Passed}
use Rattle.facet_format.specs.Span.{Span}
use Rattle.facet_json_grammar.specs.Alone.{AllRefused, no_answer, one_refused, AnswersAlone, not_asked, one_event, refused, wants_memory}
use Rattle.facet_json_grammar.specs.StrictHeadline.{StrictAnswered, AnswersStrict, RefusesStrict, as_document, as_none}
use Rattle.facet_json_grammar.proofs.StrictAnswered.{strict-answered}
use Rattle.facet_json_grammar.proofs.Strict.DocumentIsText.{document-is_text}
use Rattle.facet_json_grammar.proofs.Strict.TextIsDocument.{text-is_document}
use Rattle.facet_json_core.specs.Meaning.StrictTexts.{ReadsTextsAlone, StrictReadsTexts}

-- ---- the end is not among refusals

-- The end is this answer, or one of the others.
no_end-refused : (r : Refusal) (answers : List Answer) (k : ℕ) → AllRefused r answers → k < length answers →
    slice_index_or answers k (event (Ok None)) ≡ event (Ok None) → ⊥
no_end-refused r _ k no_answer less is = absurd (omega arith)
no_end-refused r _ zero (one_refused answers more) less is = cc
no_end-refused r _ (suc k) (one_refused answers more) less is = no_end-refused r answers k more (omega arith) is

-- Nor is it among events and a refusal after them.
no_end-alone : (r : Refusal) (last : Span) (events : List Passed) (answers : List Answer) (k : ℕ) → AnswersAlone r last events answers →
    k < length answers → slice_index_or answers k (event (Ok None)) ≡ event (Ok None) → ⊥
no_end-alone r _ _ _ k (not_asked last events) less is = absurd (omega arith)
no_end-alone r _ _ _ zero (one_event last p events answers more) less is = cc
no_end-alone r _ _ _ (suc k) (one_event last p events answers more) less is = no_end-alone r p.last events answers k more (omega arith) is
no_end-alone r _ _ _ k (refused last answers all) less is = no_end-refused r answers k all less is
no_end-alone r _ _ _ k (wants_memory last p events answers takes all) less is = no_end-refused _ answers k all less is

-- ---- texts

pub strict-reads_texts : StrictReadsTexts
strict-reads_texts buffer = by (strict-answered buffer)
  where
    of_document : AnswersStrict buffer → ReadsTextsAlone buffer
    of_document a =
        let is = document-is_text buffer a.node a.value a.document in
        record { on_texts = λ text. a; elsewhere = λ none. absurd (none is); ends = λ calls answers new only moves told. is }

    of_none : RefusesStrict buffer → ReadsTextsAlone buffer
    of_none r = record {
      on_texts = λ text. let d = text-is_document buffer text in absurd (r.no_document d.0 d.1 d.2);
      elsewhere = λ none. r;
      ends = λ calls answers new only moves told. absurd (no_end-alone _ _ _ answers told.0 (r.alone calls answers new only moves) told.1 told.2);
    }

    by : StrictAnswered buffer → ReadsTextsAlone buffer
    by (as_document a) = of_document a
    by (as_none r) = of_none r
