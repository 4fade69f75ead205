-- Events that are given one by one are a batch.
use Rattle.std.proofs.Common.{◌≡◌, ℕ, zero, suc, ◌+◌, ◌<◌, ◌≤◌, List, [], ◌∷◌, ◌++◌, map, length, Option, Some, None, refl, sym, ap, subst, ◌∙◌, arith, append-nil, append_assoc, length-append}
use Rattle.std.specs.Prelude.{Result, Ok, Err, ⊤}
use Rattle.std.specs.Option.{option_map}
use Rattle.std.proofs.lemmas.List.{map-append, length-map}
use Rattle.std.proofs.lemmas.Option.{none-some}
use Rattle.facet_format.specs.declared.event.ParseEvent.{ParseEvent}
use Rattle.facet_format.specs.declared.parse_error.ParseError.{ParseError}
use Rattle.facet_format.specs.Views.{event_of, parse_refusal, answer_of_events}
use Rattle.facet_format.specs.Complaint.{Refusal}
use Rattle.facet_format.specs.Event.{Event}
use Rattle.facet_format.specs.Cursor.{World, Spot, unpeeked, Comes, no_event, one_event, spot_after, Cursor, at_spot, refused_at, events, batch, Step, repeats, gives_none, gives, gives_without_memory, gives_up}
use Rattle.facet_json_parser.specs.Steps.{QueuesOne, queues, queues_the_end, queues_without_memory, queues_nothing, QueuesNext, answers, refuses, QueuesNow}
use Rattle.facet_json_parser.specs.Steps as steps
use Rattle.facet_json_grammar.specs.Reader.{Reader}
use Rattle.facet_json_grammar.specs.Now.{Now, on_input, SameInput}
use Rattle.facet_json_grammar.specs.Move.{Moves}
use Rattle.facet_json_grammar.specs.Next.{PassesAll}
use Rattle.facet_json_grammar.specs.Within.{NowWithin}
use Rattle.facet_json_grammar.proofs.StepLaws.{Comes-one_more}
use Rattle.facet_json_grammar.proofs.MovesNext.{events-pass, events-count}
use Rattle.facet_json_grammar.proofs.MoveLaws.{with_cursor, same_cursor-is}
use Rattle.facet_json_parser.proofs.AnswersAreMoves.{step-moves}

module _ {P : Type 0} (w : World P) where
  -- These events were given so far.
  pub data Batch (c : Cursor P) : List Event → Cursor P → Type 0 where
    nothing_yet : Batch c [] c
    some_given : (given : List Event) (place : P) → 1 ≤ length given → c.refusal ≡ None → Comes w c.spot.place given place →
        Batch c given (at_spot c (unpeeked place))

  -- ---- one more event

  length-more : (given : List Event) (e : Event) → 1 ≤ length (given ++ e ∷ [])
  length-more [] e = omega arith
  length-more (f ∷ given) e = omega arith

  first-given : (old : Cursor P) (e : Event) (s : Spot P) → old.refusal ≡ None → QueuesOne w old.spot (Ok (Some e)) s →
      Batch old (e ∷ []) (at_spot old s)
  first-given old _ _ none (queues p up) =
      some_given (p.event ∷ []) (w.past p old.spot.place) (omega arith) none (one_event _ _ p [] up (no_event _))

  next-given : (old : Cursor P) (given : List Event) (place : P) (e : Event) (s : Spot P) → old.refusal ≡ None →
      Comes w old.spot.place given place → QueuesOne w (unpeeked place) (Ok (Some e)) s → Batch old (given ++ e ∷ []) (at_spot old s)
  next-given old given place _ _ none comes (queues p up) =
      some_given (given ++ p.event ∷ []) (w.past p place) (length-more given p.event) none (Comes-one_more w p comes up)

  pub batch-more : (old cur new : Cursor P) (given : List Event) (e : Event) → Batch old given cur → QueuesNext w cur (Ok (Some e)) new →
      Batch old (given ++ e ∷ []) new
  batch-more old _ _ _ e (nothing_yet) (answers _ s none one) = first-given old e s none one
  batch-more old _ _ given e (some_given _ place h none comes) (answers _ s none_too one) = next-given old given place e s none comes one

  -- ---- the end, or a refusal

  after-some : (given : List Event) (place : P) (s : Spot P) → 1 ≤ length given → spot_after given place s ≡ unpeeked place
  after-some [] place s h = absurd (omega (arith, h))
  after-some (e ∷ given) place s h = refl

  end-given : (old : Cursor P) (k : ℕ) (s : Spot P) → old.refusal ≡ None → QueuesOne w old.spot (Ok None) s →
      Step w old (events (suc k)) (batch [] (Ok 0)) (at_spot old s)
  end-given old k _ none (queues_the_end up) = gives k 0 [] old.spot.place none (no_event _) refl (omega arith) (λ h. up)

  end-after : (old : Cursor P) (given : List Event) (place : P) (k : ℕ) (s : Spot P) → 1 ≤ length given → length given ≤ k →
      old.refusal ≡ None → Comes w old.spot.place given place → QueuesOne w (unpeeked place) (Ok None) s →
      Step w old (events (suc k)) (batch given (Ok (length given))) (at_spot old s)
  end-after old given place k _ h le none comes (queues_the_end up) =
      subst (λ s. Step w old (events (suc k)) (batch given (Ok (length given))) (at_spot old s)) (after-some given place old.spot h)
      (gives k (length given) given place none comes refl (omega (arith, le)) (λ h. up))

  pub batch-end : (old cur new : Cursor P) (given : List Event) (k : ℕ) → length given ≤ k → Batch old given cur →
      QueuesNext w cur (Ok None) new → Step w old (events (suc k)) (batch given (Ok (length given))) new
  batch-end old _ _ _ k le (nothing_yet) (answers _ s none one) = end-given old k s none one
  batch-end old _ _ given k le (some_given _ place h none comes) (answers _ s none_too one) =
      end-after old given place k s h le none comes one

  refused-first : (old : Cursor P) (k : ℕ) (r : Refusal) (s : Spot P) → old.refusal ≡ None → QueuesOne w old.spot (Err r) s →
      Step w old (events (suc k)) (batch [] (Err r)) (refused_at old s r)
  refused-first old k _ _ none (queues_without_memory p up) = gives_without_memory k [] old.spot.place p old.spot none (no_event _) (omega arith) up refl
  refused-first old k _ _ none (queues_nothing r up so) = gives_up k [] old.spot.place r none (no_event _) (omega arith) up so

  refused-after : (old : Cursor P) (given : List Event) (place : P) (k : ℕ) (r : Refusal) (s : Spot P) → 1 ≤ length given →
      length given ≤ k → old.refusal ≡ None → Comes w old.spot.place given place → QueuesOne w (unpeeked place) (Err r) s →
      Step w old (events (suc k)) (batch given (Err r)) (refused_at old s r)
  refused-after old given place k _ _ h le none comes (queues_without_memory p up) =
      gives_without_memory k given place p (unpeeked place) none comes le up (sym (after-some given place old.spot h))
  refused-after old given place k _ _ h le none comes (queues_nothing r up so) =
      subst (λ s. Step w old (events (suc k)) (batch given (Err r)) (refused_at old s r)) (after-some given place old.spot h)
      (gives_up k given place r none comes le up so)

  pub batch-refused : (old cur new : Cursor P) (given : List Event) (k : ℕ) (r : Refusal) → length given ≤ k → Batch old given cur →
      QueuesNext w cur (Err r) new → Step w old (events (suc k)) (batch given (Err r)) new
  batch-refused old _ _ _ k r le (nothing_yet) (steps.repeats _ f) = repeats r (events (suc k)) (batch [] (Err r)) f refl
  batch-refused old _ _ given k r le (some_given _ place h none comes) (steps.repeats _ f) = absurd (none-some r (sym none ∙ f))
  batch-refused old _ _ _ k r le (nothing_yet) (refuses _ s none one) = refused-first old k r s none one
  batch-refused old _ _ given k r le (some_given _ place h none comes) (refuses _ s none_too one) =
      refused-after old given place k r s h le none comes one

  -- ---- all of them

  pub batch-full : (old cur : Cursor P) (given : List Event) (limit : ℕ) → Batch old given cur → length given ≡ limit →
      Step w old (events limit) (batch given (Ok limit)) cur
  batch-full old _ _ zero (nothing_yet) e = gives_none
  batch-full old _ _ (suc k) (nothing_yet) e = cc
  batch-full old _ given zero (some_given _ place h none comes) e = absurd (omega (arith, h, e))
  batch-full old _ given (suc k) (some_given _ place h none comes) e =
      subst (λ s. Step w old (events (suc k)) (batch given (Ok (suc k))) (at_spot old s)) (after-some given place old.spot h)
      (gives k (suc k) given place none comes (sym e) (omega arith) (λ less. absurd (omega (arith, less))))

-- ---- of a parser

-- These events were given so far.
abbrev pub GivenSoFar : Now → List Event → Now → Type 0
GivenSoFar old given cur = SameInput old cur × Batch (on_input old.buffer old.language) old.cursor given cur.cursor

-- A step over the input of one parser is one over that of another with the same input.
same-world : (old cur : Now) (answer : Result (Option Event) Refusal) (c d : Cursor Reader) → SameInput old cur →
    QueuesNext (on_input cur.buffer cur.language) c answer d → QueuesNext (on_input old.buffer old.language) c answer d
same-world old cur answer c d same step = rw (← same.buffer, ← same.language) step

through : (old cur new : Now) → SameInput old cur → SameInput cur new → SameInput old new
through old cur new first second = record { buffer = second.buffer ∙ first.buffer; language = second.language ∙ first.language }

more-of : (old cur new : Now) (given : List Event) (e : Event) → GivenSoFar old given cur → QueuesNow cur (Ok (Some e)) new →
    GivenSoFar old (given ++ e ∷ []) new
more-of old cur new given e (same, b) one =
    (through old cur new same one.input, batch-more (on_input old.buffer old.language) old.cursor cur.cursor new.cursor given e b (same-world old cur _ _ _ same one.step))

end-of : (old cur new : Now) (given : List Event) (k : ℕ) → length given ≤ k → GivenSoFar old given cur → QueuesNow cur (Ok None) new →
    Moves old (events (suc k)) (batch given (Ok (length given))) new
end-of old cur new given k le (same, b) one = record {
  input = through old cur new same one.input;
  step = batch-end (on_input old.buffer old.language) old.cursor cur.cursor new.cursor given k le b (same-world old cur _ _ _ same one.step);
}

refused-of : (old cur new : Now) (given : List Event) (k : ℕ) (r : Refusal) → length given ≤ k → GivenSoFar old given cur →
    QueuesNow cur (Err r) new → Moves old (events (suc k)) (batch given (Err r)) new
refused-of old cur new given k r le (same, b) one = record {
  input = through old cur new same one.input;
  step = batch-refused (on_input old.buffer old.language) old.cursor cur.cursor new.cursor given k r le b (same-world old cur _ _ _ same one.step);
}

full-of : (old cur : Now) (given : List Event) (limit : ℕ) → GivenSoFar old given cur → length given ≡ limit →
    Moves old (events limit) (batch given (Ok limit)) cur
full-of old cur given limit (same, b) e =
    record { input = same; step = batch-full (on_input old.buffer old.language) old.cursor cur.cursor given limit b e }

-- A refusal of the first event that is asked for is one of the call.
pub queue-refuses : (made now new : Now) (r : Refusal) (t : Spot Reader) → made ≡ now → now.cursor.refusal ≡ None →
    QueuesOne (on_input made.buffer made.language) made.cursor.spot (Err r) t → new ≡ with_cursor made (refused_at made.cursor t r) →
    Moves now (events 1) (batch [] (Err r)) new
queue-refuses made now new r t e none one after =
    let free : made.cursor.refusal ≡ None = rw e none in
    rw after (step-moves made now _ (events 1) (batch [] (Err r)) e (refused-first (on_input made.buffer made.language) made.cursor 0 r t free one))

-- The next event of a parser, once there is room for it.
pub queue-answers : (made now : Now) (o : Option Event) (t : Spot Reader) → made ≡ now → now.cursor.refusal ≡ None →
    QueuesOne (on_input made.buffer made.language) made.cursor.spot (Ok o) t → QueuesNow now (Ok o) (with_cursor made (at_spot made.cursor t))
queue-answers made now o t e none one =
    let free : made.cursor.refusal ≡ None = rw e none in
    subst (λ x. QueuesNow x (Ok o) (with_cursor made (at_spot made.cursor t))) e
    (record { input = record { buffer = refl; language = refl }; step = answers o t free one })

pub queue-refused : (made now new : Now) (r q : Refusal) (t : Spot Reader) → made ≡ now → now.cursor.refusal ≡ None →
    QueuesOne (on_input made.buffer made.language) made.cursor.spot (Err r) t → new ≡ with_cursor made (refused_at made.cursor t r) → q ≡ r →
    QueuesNow now (Err q) new
queue-refused made now new r q t e none one after same =
    let free : made.cursor.refusal ≡ None = rw e none in
    rw (same, after) (subst (λ x. QueuesNow x (Err r) (with_cursor made (refused_at made.cursor t r))) e
    (record { input = record { buffer = refl; language = refl }; step = refuses r t free one }))

-- A refusal that was kept is repeated.
pub queue-repeats : (now : Now) (r : Refusal) → now.cursor.refusal ≡ Some r → QueuesNow now (Err r) now
queue-repeats now r e = record { input = record { buffer = refl; language = refl }; step = steps.repeats r e }

-- ---- over the code's events

-- No event is given yet.
pub given-none : (items : List ParseEvent) (old : Now) →
    (given : List ParseEvent) × (items ≡ items ++ given) × (length given ≡ 0) × GivenSoFar old (map event_of given) old
given-none items old = ([], rw append-nil refl, refl, (record { buffer = refl; language = refl }, nothing_yet))

pub none-given : (cur new : Now) (o : Option ParseEvent) → ((e : ParseEvent) → o ≡ Some e → ⊥) →
    QueuesNow cur (Ok (option_map event_of o)) new → QueuesNow cur (Ok None) new
none-given cur new None n one = one
none-given cur new (Some e) n one = absurd (n e refl)

pub event-given : (cur new : Now) (o : Option ParseEvent) (e : ParseEvent) → o ≡ Some e →
    QueuesNow cur (Ok (option_map event_of o)) new → QueuesNow cur (Ok (Some (event_of e))) new
event-given cur new o e same one = subst (λ x. QueuesNow cur (Ok (option_map event_of x)) new) same one

-- One more event is given.
pub given-more : (start now next : List ParseEvent) (old cur new : Now) (e : ParseEvent) (count : ℕ) →
    (given : List ParseEvent) × (now ≡ start ++ given) × (length given ≡ count) × GivenSoFar old (map event_of given) cur →
    next ≡ now ++ e ∷ [] → QueuesNow cur (Ok (Some (event_of e))) new →
    (given : List ParseEvent) × (next ≡ start ++ given) × (length given ≡ count + 1) × GivenSoFar old (map event_of given) new
given-more start now next old cur new e count (given, items, n, b) more one = (
  given ++ e ∷ [],
  more ∙ (ap (λ xs. xs ++ e ∷ []) items ∙ append_assoc start given (e ∷ [])),
  rw length-append (omega (arith, n)),
  subst (λ x. GivenSoFar old x new) (sym (map-append event_of given (e ∷ []))) (more-of old cur new (map event_of given) (event_of e) b one),
)

-- The end came after what is given.
pub given-end : (start now next : List ParseEvent) (old cur new : Now) (count limit : ℕ) →
    (given : List ParseEvent) × (now ≡ start ++ given) × (length given ≡ count) × GivenSoFar old (map event_of given) cur →
    next ≡ now → count < limit → QueuesNow cur (Ok None) new →
    (given : List ParseEvent) × (next ≡ start ++ given) × Moves old (events limit) (answer_of_events given (Ok count)) new
given-end start now next old cur new count zero g same less one = absurd (omega (arith, less))
given-end start now next old cur new count (suc k) (given, items, n, b) same less one =
    let len : length (map event_of given) ≡ count = rw length-map n in (
      given,
      same ∙ items,
      subst (λ x. Moves old (events (suc k)) (batch (map event_of given) (Ok x)) new) len
          (end-of old cur new (map event_of given) k (omega (arith, len, less)) b one),
    )

-- A refusal came after what is given.
pub given-refused : (start now next : List ParseEvent) (old cur new : Now) (e : ParseError) (count limit : ℕ) →
    (given : List ParseEvent) × (now ≡ start ++ given) × (length given ≡ count) × GivenSoFar old (map event_of given) cur →
    next ≡ now → count < limit → QueuesNow cur (Err (parse_refusal e)) new →
    (given : List ParseEvent) × (next ≡ start ++ given) × Moves old (events limit) (answer_of_events given (Err e)) new
given-refused start now next old cur new e count zero g same less one = absurd (omega (arith, less))
given-refused start now next old cur new e count (suc k) (given, items, n, b) same less one =
    let len : length (map event_of given) ≡ count = rw length-map n in
    (given, same ∙ items, refused-of old cur new (map event_of given) k (parse_refusal e) (omega (arith, len, less)) b one)

-- As many events are given as were asked for.
pub given-full : (start now : List ParseEvent) (old cur : Now) (count limit : ℕ) →
    (given : List ParseEvent) × (now ≡ start ++ given) × (length given ≡ count) × GivenSoFar old (map event_of given) cur →
    count ≡ limit →
    (given : List ParseEvent) × (now ≡ start ++ given) × Moves old (events limit) (answer_of_events given (Ok limit)) cur
given-full start now old cur count limit (given, items, n, b) e =
    let len : length (map event_of given) ≡ limit = rw length-map (n ∙ e) in
    (given, items, full-of old cur (map event_of given) limit b len)

-- What a batch appends came next, and is as many events as is answered.
pub given-pass : (start now : List ParseEvent) (old new : Now) (limit n : ℕ) →
    (given : List ParseEvent) × (now ≡ start ++ given) × Moves old (events limit) (answer_of_events given (Ok n)) new →
    (given : List ParseEvent) × (now ≡ start ++ given) × PassesAll old (map event_of given) new × (n ≡ length given)
given-pass start now old new limit n (given, items, move) =
    let count = events-count old new limit n (map event_of given) move in
    (given, items, events-pass old new limit (map event_of given) (Ok n) move, count ∙ length-map given event_of)

-- The same of what it appends before a refusal.
pub given-pass_refused : (start now : List ParseEvent) (old new : Now) (limit : ℕ) (r : Refusal) →
    (given : List ParseEvent) × (now ≡ start ++ given) × Moves old (events limit) (batch (map event_of given) (Err r)) new →
    (given : List ParseEvent) × (now ≡ start ++ given) × PassesAll old (map event_of given) new × ⊤
given-pass_refused start now old new limit r (given, items, move) =
    (given, items, events-pass old new limit (map event_of given) (Err r) move, tt)

-- ---- what holds of every parser

within-by : (old cur : Now) (given : List Event) (d : Cursor Reader) → SameInput old cur → cur.cursor ≡ d →
    Batch (on_input old.buffer old.language) old.cursor given d → (0 < length given → NowWithin old) → NowWithin cur → NowWithin old
within-by old cur _ _ same e (nothing_yet) known here = subst NowWithin (same_cursor-is old cur same e) here
within-by old cur given _ same e (some_given _ place h none comes) known here = known (omega (arith, h))

-- Once one event is asked for, the parser is known to lie within its input.
pub given-within : (start now : List ParseEvent) (old cur : Now) (count : ℕ) →
    (given : List ParseEvent) × (now ≡ start ++ given) × (length given ≡ count) × GivenSoFar old (map event_of given) cur →
    (0 < count → NowWithin old) → NowWithin cur → NowWithin old
given-within start now old cur count (given, items, n, (same, b)) known here =
    let len : length (map event_of given) ≡ count = rw length-map n in
    within-by old cur (map event_of given) cur.cursor same refl b (λ h. known (omega (arith, len, h))) here
