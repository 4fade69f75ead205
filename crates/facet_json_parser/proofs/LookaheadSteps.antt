-- What a lookahead gives, once the next event is read, leads from its spot as a call does, and leaves it sound.
use Rattle.std.proofs.Common.{◌≡◌, ℕ, Bool, true, false, List, Option, Some, None, refl, sym, ap, subst}
use Rattle.std.specs.Prelude.{Ok, Err, IfSome, MatchOption, is_some}
use Rattle.std.specs.Option.{option_map}
use Rattle.std.proofs.lemmas.Option.{same_Some}
use Rattle.facet_format.specs.declared.event.ParseEvent.{ParseEvent}
use Rattle.facet_format.specs.Complaint.{Refusal}
use Rattle.facet_format.specs.Cursor.{World, an_event, Spot, unpeeked, peeked_at, current_span, no_memory_at}
use Rattle.facet_format.specs.Event.{EventKind, field_key, scalar, Event, Passed, holds_made, peek_takes_memory}
use Rattle.facet_format.specs.Views.{event_of}
use Rattle.facet_json_grammar.specs.Language.{Language}
use Rattle.facet_json_grammar.specs.Future.{Future, gives, finished}
use Rattle.facet_json_grammar.specs.Reader.{Reader, past, future_at}
use Rattle.facet_json_grammar.proofs.PastEvents.{comes-within}
use Rattle.facet_json_grammar.specs.Now.{first_of, on_input}
use Rattle.facet_json_grammar.specs.Within.{ReaderWithin}
use Rattle.facet_json_reader.specs.declared.reader.Held.{Held}
use Rattle.facet_json_reader.specs.declared.reader.Reader.{Reader as RustReader}
use Rattle.facet_json_reader.specs.Inner.Quick.{PassesQuickly}
use Rattle.facet_json_parser.specs.declared.lookahead.Lookahead.{Lookahead as RustLookahead}
use Rattle.facet_json_reader.specs.Views.{passed_of, reader_of, IsRefusedBefore, without_memory, at_a_stop}
use Rattle.facet_json_parser.specs.Lookahead.{Lookahead, lookahead_with, reader_before, spot_of, HoldsNext, HoldsWhatComes, lookahead_past, TakesHeld, Lends, Withholds}
use Rattle.facet_json_parser.specs.Ready.{IsSound}
use Rattle.facet_json_parser.specs.Views.{lookahead_of}
use Rattle.facet_json_parser.specs.Steps.{PassesOne, passes, passes_the_end, passes_without_memory, passes_nothing, ShowsOne, shows, shows_the_end, shows_without_memory, shows_nothing, QueuesOne, queues, queues_the_end, queues_without_memory, queues_nothing}

-- A peek of an event with a text that is made allocates, the first as each other one.
copy-takes : (peeked : Bool) (kind : EventKind) → holds_made kind ≡ true → peek_takes_memory peeked kind ≡ true
copy-takes true kind e = e
copy-takes false (field_key name) e = e
copy-takes false (scalar value) e = e
copy-takes false _ e = cc

-- What holds of what is there.
if-some : {A : Type 0} (F : A → Type 0) (o : Option A) (a : A) → IfSome o F → o ≡ Some a → F a
if-some F None a h e = cc
if-some F (Some b) a h e = subst F (same_Some b a e) h

-- What is there is not none.
pub held-not_none : (held : Option Held) (A : Type 0) → is_some held ≡ true → option_map passed_of held ≡ None → A
held-not_none None A e none = cc
held-not_none (Some h) A e none = cc

module _ (buffer : List ℕ) (language : Language) where
  abbrev w : World Reader
  w = on_input buffer language

  -- An event that is held comes.
  holds-next : (f : Lookahead) (p : Passed) → HoldsWhatComes buffer language f → f.held ≡ Some p → HoldsNext buffer language f p
  holds-next f p filled e = if-some (HoldsNext buffer language f) f.held p filled e

  comes-first : (s : Reader) (p : Passed) (rest : Future) → future_at buffer language s ≡ gives p rest → w.comes s ≡ an_event p
  comes-first s p rest e = ap first_of e

  held-first : (f : Lookahead) (p : Passed) → HoldsWhatComes buffer language f → f.held ≡ Some p → w.comes (reader_before f) ≡ an_event p
  held-first f p filled e =
      let next = holds-next f p filled e in comes-first (reader_before f) p next.rest next.comes

  -- ---- the event that is held

  -- It is taken: after it the lookahead is past it.
  taken-lookahead : (f g : Lookahead) (e : Event) (filled : HoldsWhatComes buffer language f) (t : TakesHeld f e g) → g ≡ lookahead_past t.p (reader_before f).stack f
  taken-lookahead f g e filled t = t.new (reader_before f).stack (holds-next f t.p filled t.held).opened

  taken-spot : (f g : Lookahead) (e : Event) (filled : HoldsWhatComes buffer language f) (t : TakesHeld f e g) →
      spot_of g ≡ unpeeked (past t.p (reader_before f))
  taken-spot f g e filled t = rw (taken-lookahead f g e filled t) refl

  pub taken-sound : (f g : Lookahead) (e : Event) → IsSound buffer language f → TakesHeld f e g → IsSound buffer language g
  taken-sound f g e good t =
      let next = holds-next f t.p good.filled t.held in
      let within = comes-within buffer language (reader_before f) t.p next.rest good.within next.comes in
      rw (taken-lookahead f g e good.filled t) (record { within = within.2; filled = tt })

  pub taken-passes : (f g : Lookahead) (e : Event) → HoldsWhatComes buffer language f → TakesHeld f e g →
      PassesOne w (spot_of f) (Ok (Some e)) (spot_of g)
  taken-passes f g e filled t =
      rw (taken-spot f g e filled t, t.event) (passes t.p (held-first f t.p filled t.held))

  pub taken-queues : (f g : Lookahead) (e : Event) → HoldsWhatComes buffer language f → TakesHeld f e g →
      QueuesOne w (spot_of f) (Ok (Some e)) (spot_of g)
  taken-queues f g e filled t =
      rw (taken-spot f g e filled t, t.event) (queues t.p (held-first f t.p filled t.held))

  lent-spot : (f g : Lookahead) (e : Event) (l : Lends f e g) → spot_of g ≡ peeked_at (spot_of f)
  lent-spot f g e l = rw (l.new, l.held) refl

  pub lent-shows : (f g : Lookahead) (e : Event) → HoldsWhatComes buffer language f → Lends f e g →
      ShowsOne w (spot_of f) (Ok (Some e)) (spot_of g)
  lent-shows f g e filled l =
      rw (lent-spot f g e l, l.event) (shows l.p (held-first f l.p filled l.held))

  pub withheld-shows : (f g : Lookahead) (r : Refusal) → HoldsWhatComes buffer language f → Withholds f g →
      (HoldsWhatComes buffer language g → r ≡ no_memory_at (current_span w (spot_of g))) → ShowsOne w (spot_of f) (Err r) (spot_of g)
  withheld-shows f g r filled x is =
      let same : r ≡ no_memory_at (current_span w (spot_of f)) = (rw x.new at is) filled in
      rw (x.new, same) (shows_without_memory x.p (held-first f x.p filled x.held) (copy-takes (spot_of f).peeked x.p.event.kind x.made))

  -- Where nothing is held, the end is there.
  pub over-queues : (f : Lookahead) (held : Option Held) → is_some held ≡ false → (f.held ≡ None → future_at buffer language (reader_before f) ≡ finished) →
      f.held ≡ option_map passed_of held → QueuesOne w (spot_of f) (Ok None) (spot_of f)
  over-queues f None e over is = queues_the_end (ap first_of (over is))
  over-queues f (Some h) e over is = cc

  pub held-lacks_room : (f : Lookahead) (held : Option Held) (r : Refusal) → is_some held ≡ true → HoldsWhatComes buffer language f →
      r ≡ no_memory_at (current_span w (spot_of f)) → f.held ≡ option_map passed_of held → QueuesOne w (spot_of f) (Err r) (spot_of f)
  held-lacks_room f None r e filled same is = cc
  held-lacks_room f (Some h) r e filled same is = rw same (queues_without_memory (passed_of h) (held-first f (passed_of h) filled is))

  -- ---- an event that is passed at once, where none is held

  pub passed-sound : {A : Type 0} (given : A → Event) (r t : RustReader) (held : Option Passed) (shown : Bool) (o : Option A) → held ≡ None →
      IsSound buffer language (record { reader = reader_of r; held = held; shown = shown }) →
      MatchOption o (t ≡ r) (λ a. PassesQuickly buffer language r (given a) t) →
      IsSound buffer language (record { reader = reader_of t; held = held; shown = shown })
  passed-sound given r t held shown None none good same = rw same good
  passed-sound given r t None shown (Some a) none good is =
      let within = comes-within buffer language (reader_of r) is.p is.rest good.within is.comes in
      let new = is.new in
      rw new (record { within = within.2; filled = tt })
  passed-sound given r t (Some q) shown (Some a) none good is = cc

  past-passes : (reader s : Reader) (held : Option Passed) (shown : Bool) (p : Passed) (rest : Future) → held ≡ None →
      future_at buffer language reader ≡ gives p rest → s ≡ past p reader →
      PassesOne w (spot_of (record { reader = reader; held = held; shown = shown })) (Ok (Some p.event))
      (spot_of (record { reader = s; held = held; shown = shown }))
  past-passes reader s None shown p rest none comes new = rw new (passes p (comes-first reader p rest comes))
  past-passes reader s (Some q) shown p rest none comes new = cc

  pub passed-passes : {A : Type 0} (given : A → Event) (s : RustLookahead) (t : RustReader) (o : Option A) → option_map passed_of s.held ≡ None →
      MatchOption o (t ≡ s.reader) (λ a. PassesQuickly buffer language s.reader (given a) t) →
      MatchOption o (record s { reader = t } ≡ s)
      (λ a. PassesOne w (spot_of (lookahead_of s)) (Ok (Some (given a))) (spot_of (lookahead_of (record s { reader = t }))))
  passed-passes given s t None none same = ap (λ (x : RustReader). record s { reader = x }) same
  passed-passes given s t (Some a) none is =
      let event = is.event in
      rw event (past-passes (reader_of s.reader) (reader_of t) (option_map passed_of s.held) s.shown is.p is.rest none is.comes is.new)

  -- ---- a refusal, where nothing is held

  -- What is refused so before this future, at a spot where no event was peeked at.
  refused-passes_by : (s : Spot Reader) (future : Future) (r : Refusal) → future_at buffer language s.place ≡ future → s.peeked ≡ false →
      IsRefusedBefore buffer s.place.last future r → PassesOne w s (Err r) s
  refused-passes_by s _ _ e off (without_memory p rest takes) =
      let here : current_span w s ≡ s.place.last = rw off refl in
      subst (λ x. PassesOne w s (Err (no_memory_at x)) s) here (passes_without_memory p (ap first_of e) takes off)
  refused-passes_by s _ r e off (at_a_stop place rest _ so) = passes_nothing r (ap first_of e) (rw e so)

  refused-shows_by : (s : Spot Reader) (future : Future) (r : Refusal) → future_at buffer language s.place ≡ future → s.peeked ≡ false →
      IsRefusedBefore buffer s.place.last future r → ShowsOne w s (Err r) s
  refused-shows_by s _ _ e off (without_memory p rest takes) =
      let here : current_span w s ≡ s.place.last = rw off refl in
      let needs : peek_takes_memory s.peeked p.event.kind ≡ true = rw off takes in
      subst (λ x. ShowsOne w s (Err (no_memory_at x)) s) here (shows_without_memory p (ap first_of e) needs)
  refused-shows_by s _ r e off (at_a_stop place rest _ so) = shows_nothing r (ap first_of e) (rw e so)

  refused-queues_by : (s : Spot Reader) (future : Future) (r : Refusal) → future_at buffer language s.place ≡ future → s.peeked ≡ false →
      IsRefusedBefore buffer s.place.last future r → QueuesOne w s (Err r) s
  refused-queues_by s _ _ e off (without_memory p rest takes) =
      let here : current_span w s ≡ s.place.last = rw off refl in
      subst (λ x. QueuesOne w s (Err (no_memory_at x)) s) here (queues_without_memory p (ap first_of e))
  refused-queues_by s _ r e off (at_a_stop place rest _ so) = queues_nothing r (ap first_of e) (rw e so)

  unpeeked-where-none : (f : Lookahead) → f.held ≡ None → (spot_of f).peeked ≡ false
  unpeeked-where-none f e = rw e refl

  pub refused-passes : (f : Lookahead) (r : Refusal) → f.held ≡ None →
      IsRefusedBefore buffer (reader_before f).last (future_at buffer language (reader_before f)) r → PassesOne w (spot_of f) (Err r) (spot_of f)
  refused-passes f r e refused = refused-passes_by (spot_of f) _ r refl (unpeeked-where-none f e) refused

  pub refused-shows : (f : Lookahead) (r : Refusal) → f.held ≡ None →
      IsRefusedBefore buffer (reader_before f).last (future_at buffer language (reader_before f)) r → ShowsOne w (spot_of f) (Err r) (spot_of f)
  refused-shows f r e refused = refused-shows_by (spot_of f) _ r refl (unpeeked-where-none f e) refused

  pub refused-queues : (f : Lookahead) (r : Refusal) → f.held ≡ None →
      IsRefusedBefore buffer (reader_before f).last (future_at buffer language (reader_before f)) r → QueuesOne w (spot_of f) (Err r) (spot_of f)
  refused-queues f r e refused = refused-queues_by (spot_of f) _ r refl (unpeeked-where-none f e) refused

  -- ---- the code's answers

  -- The reading of the next event leaves it sound.
  pub fills-sound : (f g : Lookahead) → IsSound buffer language f → HoldsWhatComes buffer language g → spot_of g ≡ spot_of f → IsSound buffer language g
  fills-sound f g good filled same = record {
    within = subst (λ (s : Spot Reader). ReaderWithin buffer s.place) (sym same) good.within;
    filled = filled;
  }

  -- An event is taken, or none at the end.
  pub take-sound : (f g : Lookahead) (o : Option ParseEvent) → IsSound buffer language f →
      MatchOption o ((g ≡ f) × (f.held ≡ None)) (λ e. TakesHeld f (event_of e) g) → IsSound buffer language g
  take-sound f g None good taken = rw taken.0 good
  take-sound f g (Some e) good taken = taken-sound f g (event_of e) good taken

  pub take-passes : (f g : Lookahead) (o : Option ParseEvent) → HoldsWhatComes buffer language f →
      (f.held ≡ None → future_at buffer language (reader_before f) ≡ finished) →
      MatchOption o ((g ≡ f) × (f.held ≡ None)) (λ e. TakesHeld f (event_of e) g) →
      PassesOne w (spot_of f) (Ok (option_map event_of o)) (spot_of g)
  take-passes f g None filled over taken = rw taken.0 (passes_the_end (ap first_of (over taken.1)))
  take-passes f g (Some e) filled over taken = taken-passes f g (event_of e) filled taken

  pub take-queues : (f g : Lookahead) (o : Option ParseEvent) → HoldsWhatComes buffer language f →
      (f.held ≡ None → future_at buffer language (reader_before f) ≡ finished) →
      MatchOption o ((g ≡ f) × (f.held ≡ None)) (λ e. TakesHeld f (event_of e) g) →
      QueuesOne w (spot_of f) (Ok (option_map event_of o)) (spot_of g)
  take-queues f g None filled over taken = rw taken.0 (queues_the_end (ap first_of (over taken.1)))
  take-queues f g (Some e) filled over taken = taken-queues f g (event_of e) filled taken

  pub lend-shows : (f g : Lookahead) (o : Option ParseEvent) → HoldsWhatComes buffer language f →
      (f.held ≡ None → future_at buffer language (reader_before f) ≡ finished) →
      MatchOption o ((g ≡ f) × (f.held ≡ None)) (λ e. Lends f (event_of e) g) →
      ShowsOne w (spot_of f) (Ok (option_map event_of o)) (spot_of g)
  lend-shows f g None filled over lent = rw lent.0 (shows_the_end (ap first_of (over lent.1)))
  lend-shows f g (Some e) filled over lent = lent-shows f g (event_of e) filled lent

  -- At the end nothing is passed.
  pub over-passes : (f g : Lookahead) → g.held ≡ None → spot_of (lookahead_with None g) ≡ spot_of f →
      future_at buffer language (reader_before (lookahead_with None g)) ≡ finished → PassesOne w (spot_of f) (Ok None) (spot_of g)
  over-passes f g free same over =
      let here : spot_of g ≡ spot_of (lookahead_with None g) = rw free refl in
      rw (← same, here) (passes_the_end (ap first_of over))
