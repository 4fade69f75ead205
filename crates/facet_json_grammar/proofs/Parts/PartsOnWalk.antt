-- Where a place of an input is one on a walk, the same stands at both.
use Rattle.std.specs.Prelude.{slice_get, not, Result}
use Rattle.std.proofs.Common.{◌≡◌, ℕ, suc, ◌+◌, ◌≤◌, Bool, true, false, List, [], ◌∷◌, length, drop, Some, refl, sym, ap, ◌∙◌, subst, arith}
use Rattle.std.proofs.lemmas.List.{drop-drop, length-drop}
use Rattle.facet_format.specs.Alike.{PartsAlike, same_value, same_key, same_closing, both_nothing}
use Rattle.facet_format.specs.Complaint.{Refusal}
use Rattle.facet_format.specs.Event.{ContainerKind, object, array, EventKind, Passed}
use Rattle.facet_format.specs.Event as event
use Rattle.facet_format.specs.Part.{Part, value, key, closing, Source, last_of, closing_len, part_of, part_at}
use Rattle.facet_format.specs.Span.{stop}
use Rattle.facet_json_token.specs.Token.{Kind, Token}
use Rattle.facet_json_token.specs.Tokens.{Tokens, ended, refused, next}
use Rattle.facet_json_token.specs.TokenList.{tokens_from}
use Rattle.facet_json_grammar.specs.Future.{Stage, finished, events_before, within, over, after_value, around, behind_root, reads_by}
use Rattle.facet_json_grammar.specs.Reader.{Reader, past, future_at}
use Rattle.facet_json_grammar.specs.Language.{Language, lenient, strict, gaps, rules, Rules, lenient_rules, strict_rules}
use Rattle.facet_json_grammar.specs.Node.{is_scalar}
use Rattle.facet_json_grammar.specs.Place.{Place, after_root, Turn, says, names, place_turn, led}
use Rattle.facet_json_grammar.specs.Run.{Run, one_token, brackets, opening, BreaksOff}
use Rattle.facet_json_grammar.specs.OnWalk.{IsOnWalk}
use Rattle.facet_json_grammar.specs.StrictTokens.{tokens_in}
use Rattle.facet_json_grammar.specs.Unread.{begins_value, closes_container, past_value, past_key, PartFrom, separator, a_value, a_broken_value, a_key, a_closing, none_of_them, HasColon, colon_stands, colon_missing, PartIn}
use Rattle.facet_json_grammar.specs.UnreadLaws.{PartsOnWalk}
use Rattle.facet_json_grammar.specs.Walk.{event_at, scalar_event, key_event}
use Rattle.facet_json_grammar.specs.Inner.PassedRun.{closes, stops as stops_so, passed}
use Rattle.facet_json_grammar.proofs.Parts.BracketsOnWalk.{LeadsOut, LeadsTo, passed-none, opening_event, Opens, opens}
use Rattle.facet_json_grammar.proofs.Parts.FinishedComes.{begins-with, never-stuck, nothing-left, takes_value, takes_turn, never-unread, never-unread_colon}
use Rattle.facet_json_grammar.proofs.Parts.PlacesOnWalk.{is-there, none-there, last_of-drop, IsNext, is-next}
use Rattle.facet_json_grammar.proofs.Parts.TokensAfterRuns.{tokens_in-run}
use Rattle.facet_json_grammar.proofs.Runs.RunsPassed.{closed-passed, break-stops}
use Rattle.facet_json_grammar.proofs.StrictComes.{finished-strict, strict-same}
use Rattle.facet_json_grammar.proofs.TokensIn.{tokens_in-others}
use Rattle.facet_json_grammar.proofs.WalkComes.{scalar_here, colon-stands}

module _ (buffer : List ℕ) (language : Language) (w : Source) (s : Reader) (place : ℕ) (on : IsOnWalk buffer language w s place) where
  -- This stands at the place of the walk.
  abbrev Same : Part Reader → Type 0
  Same part = PartsAlike (IsOnWalk buffer language w) part (part_at w place)

  -- The events that come at the place are these.
  abbrev Events : List ContainerKind → Place → Tokens → Type 0
  Events stack at ts = reads_by (rules language) buffer stack (within at) ts ≡ events_before (drop place w.events) finished

  -- Where an event comes, the place after it is the next one.
  next-place : (p : Passed) (others : List Passed) → drop place w.events ≡ p ∷ others → IsNext buffer language w s place on p
  next-place p others same = is-next buffer language w s place on p _ (on.comes ∙ ap (λ ps. events_before ps finished) same)

  -- The part at the place is the event's.
  same-part : (p : Passed) → slice_get w.events place ≡ Some p → part_at w place ≡ part_of w p (suc place) p.event.kind
  same-part p there = rw there refl

  -- A value is the same, where it leads to a place that is alike.
  value-same : (b : Bool) (start : ℕ) (to : Reader) (after : ℕ) → IsOnWalk buffer language w to after →
      part_at w place ≡ value b start (stop (last_of w.events after)) after → Same (value b start (stop to.last) to)
  value-same b start to after there is =
      let stops = ap stop there.last in
      rw (is, ← stops) (same_value b start (stop to.last) to after there)

  -- A scalar is the same.
  scalar-same : (t : Token) (others : List Passed) → is_scalar t.kind ≡ true → drop place w.events ≡ scalar_event buffer t ∷ others →
      Same (value (not (is_scalar t.kind)) t.span.offset (stop t.span) (past_value t.span s.stack))
  scalar-same t others scalar same =
      let next = next-place (scalar_event buffer t) others same in
      rw scalar (value-same false t.span.offset (past_value t.span s.stack) (suc place) next.after (same-part _ next.there))

  -- Brackets lead out to this place.
  stands-out : (last : Token) (rest : Tokens) (count : ℕ) → suc place ≤ length w.events →
      LeadsOut (rules language) buffer s.stack count (drop (suc place) w.events) last rest → tokens_in language buffer (stop last.span) ≡ rest →
      IsOnWalk buffer language w (past_value last.span s.stack) (suc place + count)
  stands-out last rest count inside out from = record {
    bytes = on.bytes;
    place_within = omega (arith, out.place_within, length-drop (suc place) w.events);
    comes = ap (reads_by (rules language) buffer s.stack (after_value s.stack)) from ∙ out.comes
        ∙ ap (λ ps. events_before ps finished) (drop-drop count (suc place) w.events);
    last = sym out.ends ∙ last_of-drop (suc place) count w.events out.some;
  }

  -- The part of an opening bracket's event goes up to the bracket that closes it.
  opened-part : (kind : ContainerKind) (t : Token) (n : ℕ) → let after = n + closing_len 1 (drop n w.events) in
      part_of w (event_at (opening_event kind) t) n (opening_event kind) ≡ value true t.span.offset (stop (last_of w.events after)) after
  opened-part object t n = refl
  opened-part array t n = refl

  -- An opening bracket is no scalar.
  not_scalar : (kind : ContainerKind) (k : Kind) → k ≡ opening kind → is_scalar k ≡ false
  not_scalar object k e = ap is_scalar e
  not_scalar array k e = ap is_scalar e

  -- A value in brackets is the same.
  brackets-same : (kind : ContainerKind) (t last : Token) (inner rest : Tokens) → t.kind ≡ opening kind →
      Opens (rules language) buffer s.stack kind t inner (drop place w.events) → passed buffer (kind ∷ []) t inner ≡ closes last rest →
      tokens_in language buffer (stop last.span) ≡ rest →
      Same (value (not (is_scalar t.kind)) t.span.offset (stop last.span) (past_value last.span s.stack))
  brackets-same kind t last inner rest k o run from =
      let p = event_at (opening_event kind) t in
      let at = is-there w.events place p o.others o.same in
      let events : o.others ≡ drop (suc place) w.events = sym at.behind in
      let leads : LeadsTo (rules language) buffer s.stack 1 (drop (suc place) w.events) (closes last rest) = rw (events, run) at o.leads in
      let count = closing_len 1 (drop (suc place) w.events) in
      let there = stands-out last rest count at.place_within leads from in
      let is = same-part p at.there ∙ opened-part kind t (suc place) in
      rw (not_scalar kind t.kind k) (value-same true t.span.offset (past_value last.span s.stack) (suc place + count) there is)

  -- A run is the same.
  run-same : (at : Place) (t last : Token) (rest others : Tokens) (from : ℕ) → begins_value (place_turn at t.kind) ≡ true →
      Run (next t rest) last others → Events s.stack at (next t rest) → tokens_in language buffer from ≡ next t rest →
      Same (value (not (is_scalar t.kind)) t.span.offset (stop last.span) (past_value last.span s.stack))
  run-same at t _ rest _ from b (one_token _ _ scalar) e f =
      let here = scalar_here buffer at t.kind (takes_value at t.kind b) scalar in
      let first = begins-with (scalar_event buffer t) _ _ (takes_turn (rules language) buffer s.stack at t rest _ _ here e) in
      scalar-same t first.others scalar first.same
  run-same at t last rest others from b (brackets kind _ _ _ _ k inside c) e f =
      let o = opens (rules language) buffer s.stack kind at t rest _ (takes_value at t.kind b) k e in
      let run = closed-passed buffer kind [] t last rest others inside c ∙ passed-none buffer last others in
      brackets-same kind t last rest others k o run (tokens_in-run language buffer from _ _ _ (brackets kind t last rest others k inside c) f)

  -- What breaks off doesn't stand where what comes is finished.
  never-breaks : (at : Place) (t : Token) (rest : Tokens) (r : Refusal) → begins_value (place_turn at t.kind) ≡ true →
      BreaksOff buffer (next t rest) r → Events s.stack at (next t rest) → ⊥
  never-breaks at t rest r b breaks e =
      let stopped = break-stops buffer (next t rest) r breaks in
      let first : stopped.first ≡ t = let here = stopped.here in cc in
      let inner : stopped.inner ≡ rest = let here = stopped.here in cc in
      let k : t.kind ≡ opening stopped.kind = rw first at stopped.opens in
      let o = opens (rules language) buffer s.stack stopped.kind at t rest _ (takes_value at t.kind b) k e in
      let no : passed buffer (stopped.kind ∷ []) t rest ≡ stops_so r = rw (first, inner) at (stopped.stopped []) in
      subst (λ outcome. LeadsTo (rules language) buffer s.stack 1 o.others outcome) no o.leads

  -- A key is the same.
  key-same : (at : Place) (t : Token) (rest : Tokens) (result : Result Reader Refusal) → place_turn at t.kind ≡ names →
      HasColon buffer s.stack rest result → Events s.stack at (next t rest) → Same (key t.span.offset result)
  key-same at t _ _ n (colon_stands mark rest g) e =
      let taken = takes_turn (rules language) buffer s.stack at t (next mark rest) _ _ n e in
      let first = begins-with (key_event buffer t mark) _ _ (sym (colon-stands (rules language) buffer s.stack t mark rest g) ∙ taken) in
      let there = next-place (key_event buffer t mark) first.others first.same in
      let is = same-part _ there.there in
      rw is (same_key t.span.offset (past_key mark.span s.stack) (suc place) there.after)
  key-same at t rest _ n (colon_missing _ r stuck_so) e =
      absurd (never-unread_colon (rules language) buffer s.stack t rest r _ stuck_so (takes_turn (rules language) buffer s.stack at t rest _ _ n e))

  -- An event of a closing bracket is the same.
  closing-there : (t : Token) (p : Passed) (others : List Passed) → drop place w.events ≡ p ∷ others →
      past p s ≡ past_value t.span (around s.stack) → part_of w p (suc place) p.event.kind ≡ closing t.span.offset (suc place) →
      Same (closing t.span.offset (past_value t.span (around s.stack)))
  closing-there t p others same to is =
      let next = next-place p others same in
      let there : IsOnWalk buffer language w (past_value t.span (around s.stack)) (suc place) = rw to at next.after in
      let part = same-part p next.there ∙ is in
      rw part (same_closing t.span.offset (past_value t.span (around s.stack)) (suc place) there)

  -- A closing bracket is the same.
  closing-same : (at : Place) (t : Token) (rest : Tokens) (way : Turn) → place_turn at t.kind ≡ way → closes_container way ≡ true →
      Events s.stack at (next t rest) → Same (closing t.span.offset (past_value t.span (around s.stack)))
  closing-same at t rest (says event.struct_end) is c e =
      let first = begins-with (event_at event.struct_end t) _ _ (takes_turn (rules language) buffer s.stack at t rest _ _ is e) in
      closing-there t (event_at event.struct_end t) first.others first.same refl refl
  closing-same at t rest (says event.sequence_end) is c e =
      let first = begins-with (event_at event.sequence_end t) _ _ (takes_turn (rules language) buffer s.stack at t rest _ _ is e) in
      closing-there t (event_at event.sequence_end t) first.others first.same refl refl
  closing-same at t rest (says _) is c e = cc
  closing-same at t rest _ is c e = cc

  -- What stands at a place within the document is the same.
  part-same : (at : Place) (ts : Tokens) (part : Part Reader) (from : ℕ) → PartFrom buffer (rules language) s.stack at ts part → Events s.stack at ts →
      tokens_in language buffer from ≡ ts → Same part
  part-same at _ _ from (separator _ other t rest part is more) e f =
      part-same (led (rules language) other) rest part (stop t.span) more (takes_turn (rules language) buffer s.stack at t rest _ _ is e)
      (tokens_in-others language buffer from t rest f)
  part-same at _ _ from (a_value _ t last rest others b run) e f = run-same at t last rest others from b run e f
  part-same at _ _ from (a_broken_value _ t rest r b breaks) e f = absurd (never-breaks at t rest r b breaks e)
  part-same at _ _ from (a_key _ t rest result n colon) e f = key-same at t rest result n colon e
  part-same at _ _ from (a_closing _ t rest c) e f = closing-same at t rest _ refl c e
  part-same at _ _ from (none_of_them _ ts r stuck_so) e f = absurd (never-unread (rules language) buffer s.stack at ts r _ stuck_so e)

  -- What comes at this stage is finished.
  stage-comes : (stage : Stage) → s.stage ≡ stage →
      reads_by (rules language) buffer s.stack stage (tokens_in language buffer (stop s.last)) ≡ events_before (drop place w.events) finished
  stage-comes stage is = sym (ap (λ x. reads_by (rules language) buffer s.stack x (tokens_in language buffer (stop s.last))) is) ∙ on.comes

  nothing-over : (r : Rules) (ts : Tokens) (ps : List Passed) → behind_root r ts ≡ events_before ps finished → ps ≡ []
  nothing-over lenient_rules ts ps e = nothing-left ps e
  nothing-over strict_rules ended ps e = nothing-left ps e
  nothing-over strict_rules (refused f) ps e = absurd (never-stuck after_root (refused f) ps e)
  nothing-over strict_rules (next t ts) ps e = absurd (never-stuck after_root (next t ts) ps e)

  -- The tokens of the language are all tokens there.
  all-allowed : tokens_from buffer (gaps language) (stop s.last) ≡ tokens_in language buffer (stop s.last)
  all-allowed = by_language language on.comes
    where
      by_language : (l : Language) → future_at buffer l s ≡ events_before (drop place w.events) finished →
          tokens_from buffer (gaps l) (stop s.last) ≡ tokens_in l buffer (stop s.last)
      by_language (lenient mode) e = refl
      by_language (strict mode) e = sym (strict-same buffer _ (finished-strict buffer _ s.stack s.stage _ e))

  -- After the root nothing stands, and the walk is at its end.
  end-same : (part : Part Reader) → s.stage ≡ over → PartIn buffer language s over part → Same part
  unfolding reads_by
  end-same part over_it is =
      let none = nothing-over (rules language) _ (drop place w.events) (stage-comes over over_it) in
      let there = none-there w.events place none in
      let last = on.last in
      rw (is, there, last) (both_nothing _)

  -- At whatever stage, what stands is the same.
  stage-same : (stage : Stage) (part : Part Reader) → s.stage ≡ stage → PartIn buffer language s stage part → Same part
  stage-same over part is here = end-same part is here
  stage-same (within at) part is here =
      part-same at _ part (stop s.last) here (ap (reads_by (rules language) buffer s.stack (within at)) all-allowed ∙ stage-comes (within at) is) (sym all-allowed)

-- Where a place of an input is one on a walk, the same stands at both.
pub parts-on_walk : PartsOnWalk
parts-on_walk buffer language w s place part on here =
    (part_at w place, refl, stage-same buffer language w s place on s.stage part refl here)
