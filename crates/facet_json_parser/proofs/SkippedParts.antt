-- What is passed with its text unread leads from the spot as a skip and a capture do.
use Rattle.std.proofs.Common.{◌≡◌, ℕ, List, Ok, Err, refl}
use Rattle.facet_format.specs.Complaint.{Refusal}
use Rattle.facet_format.specs.Cursor.{World, current_span}
use Rattle.facet_format.specs.Part.{nothing}
use Rattle.facet_format.specs.Span.{Span}
use Rattle.facet_json_grammar.specs.Reader.{Reader}
use Rattle.facet_json_grammar.specs.Language.{Language}
use Rattle.facet_json_grammar.specs.Unread.{PartAt}
use Rattle.facet_json_grammar.specs.Now.{on_input}
use Rattle.facet_json_parser.specs.declared.part.Part.{Part as RustPart}
use Rattle.facet_json_parser.specs.PartViews.{after_part, Skips, Captures}
use Rattle.facet_json_parser.specs.PartViews as answers
use Rattle.facet_json_parser.specs.Lookahead.{Lookahead, lookahead_at, reader_before, spot_of}
use Rattle.facet_json_parser.specs.Steps.{SkipsOne, skips, skips_without_memory, skips_nothing, CapturesOne, captures, captures_without_memory, captures_nothing}

module _ (buffer : List ℕ) (language : Language) (f : Lookahead) where
  abbrev w : World Reader
  w = on_input buffer language

  -- after a part that ends with these bytes
  abbrev left : RustPart → Span → Lookahead
  left part final = lookahead_at (after_part part final (reader_before f).stack)

  -- ---- skips

  -- A part is skipped.
  pub skip-passes : (g : Lookahead) (part : RustPart) (last final : Span) → Skips buffer language (reader_before f) last part (Ok final) →
      g ≡ left part final → SkipsOne w (spot_of f) (Ok tt) (spot_of g)
  skip-passes g part last final (answers.skips p _ stands e) is = rw is (skips p _ stands e)

  -- A part is not skipped.
  pub skip-refused : (part : RustPart) (last : Span) (r : Refusal) → Skips buffer language (reader_before f) last part (Err r) →
      last ≡ current_span w (spot_of f) → SkipsOne w (spot_of f) (Err r) (spot_of f)
  skip-refused part last _ (answers.skips_without_memory p stands brackets) e = rw e (skips_without_memory p stands brackets)
  skip-refused part last r (answers.skips_nothing p _ stands refused) e = skips_nothing p r stands refused

  -- Nothing is skipped.
  pub skip-nothing : (r : Refusal) → PartAt buffer language (reader_before f) (nothing r) → SkipsOne w (spot_of f) (Err r) (spot_of f)
  skip-nothing r stands = skips_nothing (nothing r) r stands refl

  -- ---- captures

  -- A value is captured.
  pub capture-passes : (g : Lookahead) (part : RustPart) (last final : Span) (text : List ℕ) →
      Captures buffer language (reader_before f) last part (Ok (text, final)) → g ≡ left part final →
      CapturesOne w (spot_of f) (Ok text) (spot_of g)
  capture-passes g part last final text (answers.captures p _ _ stands e) is = rw is (captures p text _ stands e)

  -- A part is not captured.
  pub capture-refused : (part : RustPart) (last : Span) (r : Refusal) → Captures buffer language (reader_before f) last part (Err r) →
      last ≡ current_span w (spot_of f) → CapturesOne w (spot_of f) (Err r) (spot_of f)
  capture-refused part last _ (answers.captures_without_memory p stands brackets) e = rw e (captures_without_memory p stands brackets)
  capture-refused part last r (answers.captures_nothing p _ stands refused) e = captures_nothing p r stands refused

  -- Nothing is captured.
  pub capture-nothing : (r : Refusal) → PartAt buffer language (reader_before f) (nothing r) → CapturesOne w (spot_of f) (Err r) (spot_of f)
  capture-nothing r stands = captures_nothing (nothing r) r stands refl
