-- What a skip or a capture of a parser answers is a move of it.
use Rattle.std.proofs.Common.{◌≡◌, List, ℕ, Some, None, refl}
use Rattle.std.specs.Prelude.{Ok, Err}
use Rattle.facet_format.specs.Complaint.{Refusal}
use Rattle.facet_format.specs.Cursor.{skipped, raw, skip, capture, World, Spot, Cursor, at_spot, refused_at, Step, repeats}
use Rattle.facet_format.specs.Cursor as cursor
use Rattle.facet_json_grammar.specs.Reader.{Reader}
use Rattle.facet_json_grammar.specs.Now.{Now, on_input}
use Rattle.facet_json_grammar.specs.Move.{Moves}
use Rattle.facet_json_grammar.specs.UnreadLaws.{RefusalWithin}
use Rattle.facet_json_grammar.specs.Within.{NowWithin}
use Rattle.facet_json_grammar.proofs.MoveLaws.{with_cursor}
use Rattle.facet_json_parser.specs.Steps.{SkipsOne, skips, skips_without_memory, skips_nothing, CapturesOne, captures, captures_without_memory, captures_nothing}
use Rattle.facet_json_parser.proofs.AnswersAreMoves.{step-moves, none-made}
use Rattle.facet_json_parser.proofs.ParserWithin.{answer-within}

-- ---- steps

module _ {P : Type 0} (w : World P) where
  skips-step : (c : Cursor P) (t : Spot P) → c.refusal ≡ None → SkipsOne w c.spot (Ok tt) t →
      Step w c skip (skipped (Ok tt)) (at_spot c t)
  skips-step c _ none (skips part place stands is) = cursor.skips part place none stands is

  skips-refused : (c : Cursor P) (r : Refusal) (t : Spot P) → c.refusal ≡ None → SkipsOne w c.spot (Err r) t →
      Step w c skip (skipped (Err r)) (refused_at c t r)
  skips-refused c _ _ none (skips_without_memory part stands has) = cursor.skips_without_memory part none stands has
  skips-refused c _ _ none (skips_nothing part r stands is) = cursor.skips_nothing part r none stands is

  captures-step : (c : Cursor P) (text : List ℕ) (t : Spot P) → c.refusal ≡ None → CapturesOne w c.spot (Ok text) t →
      Step w c capture (raw (Ok (Some text))) (at_spot c t)
  captures-step c _ _ none (captures part text place stands is) = cursor.captures part text place none stands is

  captures-refused : (c : Cursor P) (r : Refusal) (t : Spot P) → c.refusal ≡ None → CapturesOne w c.spot (Err r) t →
      Step w c capture (raw (Err r)) (refused_at c t r)
  captures-refused c _ _ none (captures_without_memory part stands has) = cursor.captures_without_memory part none stands has
  captures-refused c _ _ none (captures_nothing part r stands is) = cursor.captures_nothing part r none stands is

-- ---- skips

-- A refusal that was kept is repeated.
pub skip-repeats : (now : Now) (r : Refusal) → now.cursor.refusal ≡ Some r → Moves now skip (skipped (Err r)) now
skip-repeats now r e = step-moves now now now.cursor skip _ refl (repeats r skip (skipped (Err r)) e refl)

pub skip-answers : (made now : Now) (t : Spot Reader) → made ≡ now → now.cursor.refusal ≡ None →
    SkipsOne (on_input made.buffer made.language) made.cursor.spot (Ok tt) t →
    Moves now skip (skipped (Ok tt)) (with_cursor made (at_spot made.cursor t))
skip-answers made now t e none one =
    step-moves made now _ skip _ e (skips-step (on_input made.buffer made.language) made.cursor t (none-made made now e none) one)

pub skip-refused : (made now new : Now) (r q : Refusal) (t : Spot Reader) → made ≡ now → now.cursor.refusal ≡ None →
    SkipsOne (on_input made.buffer made.language) made.cursor.spot (Err r) t → new ≡ with_cursor made (refused_at made.cursor t r) → q ≡ r →
    Moves now skip (skipped (Err q)) new
skip-refused made now new r q t e none one after same =
    rw (same, after) (step-moves made now _ skip _ e (skips-refused (on_input made.buffer made.language) made.cursor r t (none-made made now e none) one))

-- Its refusal lies within the input.
pub skip-refusal_within : (made now : Now) (r : Refusal) (t : Spot Reader) → made ≡ now → now.cursor.refusal ≡ None → NowWithin now →
    SkipsOne (on_input made.buffer made.language) made.cursor.spot (Err r) t → RefusalWithin made.buffer r
skip-refusal_within made now r t e none good one =
    answer-within now (with_cursor made (refused_at made.cursor t r)) good (skip-refused made now _ r r t e none one refl refl)

-- ---- captures

-- A refusal that was kept is repeated.
pub capture-repeats : (now : Now) (r : Refusal) → now.cursor.refusal ≡ Some r → Moves now capture (raw (Err r)) now
capture-repeats now r e = step-moves now now now.cursor capture _ refl (repeats r capture (raw (Err r)) e refl)

pub capture-answers : (made now : Now) (text : List ℕ) (t : Spot Reader) → made ≡ now → now.cursor.refusal ≡ None →
    CapturesOne (on_input made.buffer made.language) made.cursor.spot (Ok text) t →
    Moves now capture (raw (Ok (Some text))) (with_cursor made (at_spot made.cursor t))
capture-answers made now text t e none one =
    step-moves made now _ capture _ e
    (captures-step (on_input made.buffer made.language) made.cursor text t (none-made made now e none) one)

pub capture-refused : (made now new : Now) (r q : Refusal) (t : Spot Reader) → made ≡ now → now.cursor.refusal ≡ None →
    CapturesOne (on_input made.buffer made.language) made.cursor.spot (Err r) t → new ≡ with_cursor made (refused_at made.cursor t r) →
    q ≡ r → Moves now capture (raw (Err q)) new
capture-refused made now new r q t e none one after same =
    rw (same, after) (step-moves made now _ capture _ e
    (captures-refused (on_input made.buffer made.language) made.cursor r t (none-made made now e none) one))

-- Its refusal lies within the input.
pub capture-refusal_within : (made now : Now) (r : Refusal) (t : Spot Reader) → made ≡ now → now.cursor.refusal ≡ None → NowWithin now →
    CapturesOne (on_input made.buffer made.language) made.cursor.spot (Err r) t → RefusalWithin made.buffer r
capture-refusal_within made now r t e none good one =
    answer-within now (with_cursor made (refused_at made.cursor t r)) good (capture-refused made now _ r r t e none one refl refl)
