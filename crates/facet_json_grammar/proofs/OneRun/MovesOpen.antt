-- Whatever calls a parser answers, the brackets that it remembers are those that the tokens up to its place leave open.
use Rattle.std.proofs.Common.{ℕ, List, refl, sym, subst}
use Rattle.std.specs.List.{All}
use Rattle.std.proofs.lemmas.List.Elements.{All-nil}
use Rattle.facet_format.specs.Event.{Event}
use Rattle.facet_format.specs.Cursor.{Call, Answer, Cursor, Comes, no_event, one_event, Run, no_calls, one_call, passes, gives, gives_up, gives_without_memory, skips, captures, saves, restores, spot_after}
use Rattle.facet_json_grammar.specs.Reader.{Reader}
use Rattle.facet_json_grammar.specs.Language.{Language}
use Rattle.facet_json_grammar.specs.Now.{Now, fresh_in, on_input}
use Rattle.facet_json_grammar.specs.Move.{Moves, MovesAll}
use Rattle.facet_json_grammar.proofs.PointsHold.{found-holds, without-holds, with_point-holds}
use Rattle.facet_json_grammar.proofs.MoveLaws.{with_cursor, same_input-is, StepOf, by_step}
use Rattle.facet_json_grammar.proofs.MovesNext.{event-comes, spot_after-place}
use Rattle.facet_json_grammar.proofs.OneRun.EventsOpen.{past-open}
use Rattle.facet_json_grammar.proofs.OneRun.PartsOpen.{skip-open, capture-open}
use Rattle.facet_json_grammar.proofs.OneRun.OpenBrackets.{nothing_passed, StandsOpen}

-- Where a parser stands, and at each of its points, those brackets are open that the tokens before leave open.
pub record NowOpen (now : Now) : Type 0 where
  pub reader : StandsOpen now.buffer now.language now.cursor.spot.place
  pub kept : All (λ point. StandsOpen now.buffer now.language point.1.place) now.cursor.kept

-- A new parser remembers no brackets, and none are open.
pub fresh-open : (buffer : List ℕ) (language : Language) → NowOpen (fresh_in buffer language)
fresh-open buffer language = record {
  reader = (nothing_passed, refl);
  kept = All-nil (λ point. StandsOpen buffer language point.1.place);
}

-- So it is after events that come.
events-open : (buffer : List ℕ) (language : Language) {s after : Reader} {given : List Event} → Comes (on_input buffer language) s given after →
    StandsOpen buffer language s → StandsOpen buffer language after
events-open buffer language (no_event place) opened = opened
events-open buffer language (one_event place after p others e more) opened =
    events-open buffer language more (past-open buffer language place p _ opened (event-comes buffer language place p e))

module _ (now : Now) (good : NowOpen now) where
  -- at the spot after events that come,
  batch-open : (given : List Event) (after : Reader) → Comes (on_input now.buffer now.language) now.cursor.spot.place given after →
      StandsOpen now.buffer now.language (spot_after given after now.cursor.spot).place
  batch-open given after all =
      subst (StandsOpen now.buffer now.language) (sym (spot_after-place now.buffer now.language now.cursor.spot all))
      (events-open now.buffer now.language all good.reader)

  -- and after each step
  step-open : {call : Call} {answer : Answer} (d : Cursor Reader) → StepOf now call answer d → NowOpen (with_cursor now d)
  step-open d (passes p none comes) = record {
    reader = past-open now.buffer now.language now.cursor.spot.place p _ good.reader
        (event-comes now.buffer now.language now.cursor.spot.place p comes);
    kept = good.kept;
  }
  step-open d (gives k n given after none all count le over) = record { reader = batch-open given after all; kept = good.kept }
  step-open d (gives_without_memory k given after p spot none all le more there) =
      record { reader = rw there (batch-open given after all); kept = good.kept }
  step-open d (gives_up k given after r none all le stops so) = record { reader = batch-open given after all; kept = good.kept }
  step-open d (skips part place none stands is) = record {
    reader = skip-open now.buffer now.language now.cursor.spot.place part place good.reader stands is;
    kept = good.kept;
  }
  step-open d (captures part text place none stands is) = record {
    reader = capture-open now.buffer now.language now.cursor.spot.place part text place good.reader stands is;
    kept = good.kept;
  }
  step-open d (saves none h) = record {
    reader = good.reader;
    kept = with_point-holds (λ spot. StandsOpen now.buffer now.language spot.place) _ now.cursor.spot now.cursor.kept good.kept good.reader;
  }
  step-open d (restores point spot e) = record {
    reader = found-holds (λ spot. StandsOpen now.buffer now.language spot.place) point spot now.cursor.kept good.kept e;
    kept = without-holds (λ spot. StandsOpen now.buffer now.language spot.place) point now.cursor.kept good.kept;
  }
  step-open d _ = record { reader = good.reader; kept = good.kept }

  -- Each move leaves it so.
  pub moves-open : (new : Now) {call : Call} {answer : Answer} → Moves now call answer new → NowOpen new
  moves-open new move = by_step NowOpen now new move step-open

module _ (buffer : List ℕ) (language : Language) where
  abbrev now_at : Cursor Reader → Now
  now_at c = record { buffer = buffer; language = language; cursor = c }

  run-open : {c d : Cursor Reader} {calls : List Call} {answers : List Answer} → NowOpen (now_at c) →
      Run (on_input buffer language) c calls answers d → NowOpen (now_at d)
  run-open good (no_calls c) = good
  run-open good (one_call c between d call answer calls answers step more) = run-open (step-open (now_at c) good between step) more

-- So do all calls in order.
pub moves_all-open : (old new : Now) {calls : List Call} {answers : List Answer} → NowOpen old → MovesAll old calls answers new → NowOpen new
moves_all-open old new good moves =
    subst NowOpen (sym (same_input-is old new moves.input)) (run-open old.buffer old.language good moves.run)
