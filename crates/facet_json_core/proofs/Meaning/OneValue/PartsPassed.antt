-- What a capture passes, and a skip after a key: one value.
use Rattle.std.proofs.Common.{◌≡◌, ℕ, List, Option, refl, ap, ◌∙◌, subst}
use Rattle.std.specs.Prelude.{Bool, true, Ok}
use Rattle.facet_format.specs.Cursor.{Answer, Cursor, skip, capture, skipped, raw, unpeeked, repeats, skips, captures}
use Rattle.facet_format.specs.Event.{ContainerKind}
use Rattle.facet_format.specs.Part.{Part, value, broken, key, closing, nothing, skip_of, capture_of}
use Rattle.facet_json_token.specs.Token.{Kind, Token}
use Rattle.facet_json_token.specs.Token as token
use Rattle.facet_json_token.specs.Tokens.{Tokens, next}
use Rattle.facet_json_grammar.specs.Future.{Stage, within, over}
use Rattle.facet_json_grammar.specs.Reader.{Reader}
use Rattle.facet_json_grammar.specs.Language.{Rules, rules}
use Rattle.facet_json_grammar.specs.Place.{Place, after_colon, passes, names, place_turn, led}
use Rattle.facet_json_grammar.specs.Run.{Run}
use Rattle.facet_json_grammar.specs.Unread.{closes_container, past_value, PartFrom, separator, a_value, a_broken_value, a_key, a_closing, none_of_them, PartIn, PartAt}
use Rattle.facet_json_grammar.proofs.Parts.PartsWithin.{captured-place}
use Rattle.facet_json_grammar.specs.Move.{Moves}
use Rattle.facet_json_grammar.specs.Now.{Now}
use Rattle.facet_json_grammar.specs.SkipLaws.{GoesOnWith, with_value, after_separator}
use Rattle.facet_json_grammar.proofs.MoveLaws.{with_cursor, StepOf, by_step}
use Rattle.facet_json_core.specs.Meaning.OneValue.{PassesValue, tokens_left, IsAfterKey}

-- ---- a value that is passed unread

-- The tokens at a place go on with a value, which ends with the place before that one.
record EndsAt (by : Rules) (stack : List ContainerKind) (place : Place) (ts : Tokens) (there : Reader) : Type 0 where
  pub first : Token
  pub others : Tokens
  pub last : Token
  pub rest : Tokens
  pub goes : GoesOnWith by place ts first others
  pub run : Run (next first others) last rest
  pub same : there ≡ past_value last.span stack

value-part : (buffer : List ℕ) (by : Rules) (stack : List ContainerKind) (place : Place) (ts : Tokens) (has : Bool) (start finish : ℕ) (there : Reader)
    (part : Part Reader) → PartFrom buffer by stack place ts part → part ≡ value has start finish there → EndsAt by stack place ts there
value-part buffer by stack place _ has start finish there part (separator _ other t ts _ e more) is =
    let later = value-part buffer by stack (led by other) ts has start finish there part more is in
    record {
      first = later.first;
      others = later.others;
      last = later.last;
      rest = later.rest;
      goes = after_separator place other t later.first ts later.others e later.goes;
      run = later.run;
      same = later.same;
    }
value-part buffer by stack place _ has start finish there _ (a_value _ t last ts others b r) is =
    record { first = t; others = ts; last = last; rest = others; goes = with_value place t ts b; run = r; same = cc }
value-part buffer by stack place _ has start finish there _ (a_broken_value _ t ts r b breaks) is = cc
value-part buffer by stack place _ has start finish there _ (a_key _ t ts result b colon) is = cc
value-part buffer by stack place _ has start finish there _ (a_closing _ t ts b) is = cc
value-part buffer by stack place ts has start finish there _ (none_of_them _ _ r stuck) is = cc

-- The parser stood at this place.
module _ (now : Now) (d : Cursor Reader) (there : Reader) (spot : d.spot ≡ unpeeked there) where
  ends-passed : (place : Place) → now.cursor.spot.place.stage ≡ within place →
      EndsAt (rules now.language) now.cursor.spot.place.stack place (tokens_left now) there → PassesValue now (with_cursor now d)
  ends-passed place at e = record {
    first = e.first;
    others = e.others;
    before = record { place = place; stage = at; value = e.goes };
    passed = record { last = e.last; rest = e.rest; run = e.run; there = spot ∙ ap unpeeked e.same };
  }

  -- What is a value there is passed.
  value-passed : (stage : Stage) (has : Bool) (start finish : ℕ) (part : Part Reader) → now.cursor.spot.place.stage ≡ stage →
      PartIn now.buffer now.language now.cursor.spot.place stage part → part ≡ value has start finish there → PassesValue now (with_cursor now d)
  value-passed over has start finish part at stands is = cc
  value-passed (within place) has start finish part at stands is =
      ends-passed place at (value-part now.buffer (rules now.language) now.cursor.spot.place.stack place _ has start finish there part stands is)

  -- A part that is captured is a value.
  capture-passed : (text : List ℕ) (part : Part Reader) → PartAt now.buffer now.language now.cursor.spot.place part →
      capture_of now.buffer part ≡ Ok (text, there) → PassesValue now (with_cursor now d)
  capture-passed text (value has start finish place) stands is =
      let same = captured-place now.buffer start finish place there _ text _ is in
      value-passed now.cursor.spot.place.stage has start finish _ refl stands (ap (value has start finish) same)
  capture-passed text (broken r) stands is = cc
  capture-passed text (key start result) stands is = cc
  capture-passed text (closing start place) stands is = cc
  capture-passed text (nothing r) stands is = cc

-- A text that is captured is one value's.
pub captured-value : (old new : Now) (text : Option (List ℕ)) → Moves old capture (raw (Ok text)) new → PassesValue old new
captured-value old new text move = by_step (PassesValue old) old new move (λ d step. by d _ refl step)
  where
    by : (d : Cursor Reader) (answer : Answer) → answer ≡ raw (Ok text) → StepOf old capture answer d → PassesValue old (with_cursor old d)
    by d answer a (repeats r call _ e f) = cc
    by d answer a (captures part given there free stands is) = capture-passed old d there refl given part stands is
    by d answer a _ = cc

-- ---- after a key

-- No separator, key or closing bracket can stand right after a key.
no-separator : (k : Kind) (other : Place) → place_turn after_colon k ≡ passes other → ⊥
no-separator token.object_start other e = cc
no-separator _ other e = cc

no-key : (k : Kind) → place_turn after_colon k ≡ names → ⊥
no-key token.object_start e = cc
no-key _ e = cc

no-closing : (k : Kind) → closes_container (place_turn after_colon k) ≡ true → ⊥
no-closing token.object_start e = cc
no-closing _ e = cc

-- So what a skip passes there is a value.
skip-value : (buffer : List ℕ) (by : Rules) (stack : List ContainerKind) (ts : Tokens) (part : Part Reader) (there : Reader) →
    PartFrom buffer by stack after_colon ts part → skip_of part ≡ Ok there → EndsAt by stack after_colon ts there
skip-value buffer by stack _ part there (separator _ other t ts _ e more) is = absurd (no-separator t.kind other e)
skip-value buffer by stack _ _ there (a_value _ t last ts others b r) is =
    record { first = t; others = ts; last = last; rest = others; goes = with_value after_colon t ts b; run = r; same = cc }
skip-value buffer by stack _ _ there (a_broken_value _ t ts r b breaks) is = cc
skip-value buffer by stack _ _ there (a_key _ t ts result b colon) is = absurd (no-key t.kind b)
skip-value buffer by stack _ _ there (a_closing _ t ts b) is = absurd (no-closing t.kind b)
skip-value buffer by stack ts _ there (none_of_them _ _ r stuck) is = cc

pub skipped-value : (old new : Now) → IsAfterKey old → Moves old skip (skipped (Ok tt)) new → PassesValue old new
skipped-value old new at move = by_step (PassesValue old) old new move (λ d step. by d _ refl step)
  where
    by : (d : Cursor Reader) (answer : Answer) → answer ≡ skipped (Ok tt) → StepOf old skip answer d → PassesValue old (with_cursor old d)
    by d answer a (repeats r call _ e f) = cc
    by d answer a (skips part there free stands is) =
        let s = old.cursor.spot.place in
        let from = subst (λ (x : Stage). PartIn old.buffer old.language s x part) at stands in
        ends-passed old d there refl after_colon at (skip-value old.buffer (rules old.language) s.stack _ part there from is)
    by d answer a _ = cc
