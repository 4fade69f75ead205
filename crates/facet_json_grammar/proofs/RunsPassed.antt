-- What a skip and a capture do before a value: they pass the run that stands there, or are refused where it breaks off.
use Rattle.std.proofs.Common.{◌≡◌, ℕ, ◌-◌, Bool, true, false, not, List, Option, Some, None, refl, sym, ap, subst, ◌∙◌}
use Rattle.std.specs.Prelude.{Result, Ok, Err, MatchResult, codes}
use Rattle.std.specs.Str.{is_utf8}
use Rattle.facet_format.specs.Complaint.{Refusal}
use Rattle.facet_format.specs.Cursor.{Answer, skip, capture, skipped, raw, unpeeked, Cursor, repeats, skips, skips_without_memory, skips_nothing, captures, captures_without_memory, captures_nothing}
use Rattle.facet_format.specs.Event.{ContainerKind, struct_end, sequence_end}
use Rattle.facet_format.specs.Part.{Part, value, broken, has_brackets, skip_of, capture_of, captured, no_raw}
use Rattle.facet_format.specs.Span.{span_at, stop}
use Rattle.facet_json_token.specs.Token.{Token}
use Rattle.facet_json_token.specs.Tokens.{Tokens, next}
use Rattle.facet_json_grammar.specs.Future.{Stage}
use Rattle.facet_json_grammar.specs.Reader.{Reader}
use Rattle.facet_json_grammar.specs.Language.{Rules, rules}
use Rattle.facet_json_grammar.specs.Node.{is_scalar}
use Rattle.facet_json_grammar.specs.Place.{Place, Turn, stops, passes, says, place_turn, leads_on, led}
use Rattle.facet_json_grammar.specs.Run.{opening, Run, one_token, brackets, BreaksOff, ends_inside, fault_inside, crossed, nested}
use Rattle.facet_json_grammar.specs.Unread.{misplaced, begins_value, closes_container, past_value, PartFrom, separator, a_value, a_broken_value, a_key, a_closing, none_of_them, PartIn, PartAt}
use Rattle.facet_json_grammar.specs.Now.{Now}
use Rattle.facet_json_grammar.specs.SkipLaws.{GoesOnWith, with_value, after_separator, BeforeValue, PassesRun, NotPassed, breaks_off, lacks_memory, SkipPassesRun, GivesRun, NotGiven, not_passed, not_utf8, CapturePassesRun}
use Rattle.facet_json_grammar.proofs.MoveLaws.{with_cursor, StepOf, by_step}

-- ---- the part before a value

-- What closes a container begins no value.
closes-none : (t : Turn) → closes_container t ≡ true → begins_value t ≡ true → ⊥
closes-none (says struct_end) c b = cc
closes-none (says sequence_end) c b = cc
closes-none _ c b = cc

-- Nor does what leads on nowhere.
stops-none : (t : Turn) → leads_on t ≡ false → begins_value t ≡ true → ⊥
stops-none stops l b = cc
stops-none _ l b = cc

-- A value that begins with this token: a run, or one that breaks off.
data IsValueFrom (buffer : List ℕ) (stack : List ContainerKind) (first : Token) (others : Tokens) : Part Reader → Type 0 where
  is_run : (last : Token) (rest : Tokens) → Run (next first others) last rest →
      IsValueFrom buffer stack first others
      (value (not (is_scalar first.kind)) first.span.offset (stop last.span) (past_value last.span stack))
  is_broken : (r : Refusal) → BreaksOff buffer (next first others) r → IsValueFrom buffer stack first others (broken r)

module _ (buffer : List ℕ) (by : Rules) (stack : List ContainerKind) where
  -- At the value's first token the part is that value.
  value-here : (place : Place) (first : Token) (others : Tokens) (part : Part Reader) →
      begins_value (place_turn place first.kind) ≡ true → PartFrom buffer by stack place (next first others) part →
      IsValueFrom buffer stack first others part
  value-here place first others part b (separator _ other _ _ _ e more) = cc
  value-here place first others _ b (a_value _ _ last _ rest e run) = is_run last rest run
  value-here place first others _ b (a_broken_value _ _ _ r e breaks) = is_broken r breaks
  value-here place first others _ b (a_key _ _ _ result e colon) = cc
  value-here place first others _ b (a_closing _ _ _ e) = absurd (closes-none (place_turn place first.kind) e b)
  value-here place first others _ b (none_of_them _ _ r (misplaced _ _ _ e)) = absurd (stops-none (place_turn place first.kind) e b)

  -- After a separator the part stands at the next place.
  past-separator : (place other : Place) (t : Token) (ts : Tokens) (part : Part Reader) → place_turn place t.kind ≡ passes other →
      PartFrom buffer by stack place (next t ts) part → PartFrom buffer by stack (led by other) ts part
  past-separator place other t ts part e (separator _ there _ _ _ f more) =
      let same : there ≡ other = cc in subst (λ x. PartFrom buffer by stack (led by x) ts part) same more
  past-separator place other t ts _ e (a_value _ _ last _ rest f run) = cc
  past-separator place other t ts _ e (a_broken_value _ _ _ r f breaks) = cc
  past-separator place other t ts _ e (a_key _ _ _ result f colon) = cc
  past-separator place other t ts _ e (a_closing _ _ _ f) = cc
  past-separator place other t ts _ e (none_of_them _ _ r (misplaced _ _ _ f)) = cc

  -- Where the tokens go on with a value, the part is that value.
  value-from : (place : Place) (ts : Tokens) (first : Token) (others : Tokens) (part : Part Reader) →
      GoesOnWith by place ts first others → PartFrom buffer by stack place ts part → IsValueFrom buffer stack first others part
  value-from place _ first others part (with_value _ _ _ b) p = value-here place first others part b p
  value-from place _ first others part (after_separator _ other t _ ts _ e more) p =
      value-from (led by other) ts first others part more (past-separator place other t ts part e p)

-- Where a parser stands before a value, the part that stands there is that value.
value-stands : (now : Now) (first : Token) (others : Tokens) (part : Part Reader) → BeforeValue now first others →
    PartAt now.buffer now.language now.cursor.spot.place part →
    IsValueFrom now.buffer now.cursor.spot.place.stack first others part
value-stands now first others part at stands =
    let s = now.cursor.spot.place in
    let from = subst (λ (x : Stage). PartIn now.buffer now.language s x part) at.stage stands in
    value-from now.buffer (rules now.language) s.stack at.place _ first others part at.value from

-- ---- skips

module _ (now : Now) (first : Token) (others : Tokens) where
  -- A value that is skipped is a run, and the place is right after it.
  skipped-run : (part : Part Reader) (place : Reader) →
      IsValueFrom now.buffer now.cursor.spot.place.stack first others part → skip_of part ≡ Ok place →
      (last : Token) × (rest : Tokens) × Run (next first others) last rest × (place ≡ past_value last.span now.cursor.spot.place.stack)
  skipped-run _ place (is_run last rest run) e = (last, rest, run, cc)
  skipped-run _ place (is_broken r breaks) e = cc

  -- One that is not skipped breaks off.
  unskipped-breaks : (part : Part Reader) (r : Refusal) →
      IsValueFrom now.buffer now.cursor.spot.place.stack first others part → skip_of part ≡ Err r → BreaksOff now.buffer (next first others) r
  unskipped-breaks _ r (is_run last rest run) e = cc
  unskipped-breaks _ r (is_broken q breaks) e = let same : q ≡ r = cc in subst (BreaksOff now.buffer (next first others)) same breaks

  -- A value with brackets begins with one.
  bracket-opens : (part : Part Reader) → IsValueFrom now.buffer now.cursor.spot.place.stack first others part →
      has_brackets part ≡ true → (kind : ContainerKind) × (first.kind ≡ opening kind)
  bracket-opens _ (is_run _ rest (one_token _ _ is)) has = let no : not true ≡ true = ap not (sym is) ∙ has in cc
  bracket-opens _ (is_run last rest (brackets kind _ _ inner _ opens inside closes)) has = (kind, opens)
  bracket-opens _ (is_broken r (ends_inside kind _ inner opens inside)) has = (kind, opens)
  bracket-opens _ (is_broken r (fault_inside kind _ inner f opens inside)) has = (kind, opens)
  bracket-opens _ (is_broken r (crossed kind _ last inner rest opens inside closes)) has = (kind, opens)
  bracket-opens _ (is_broken r (nested kind _ inner others refusal opens inside breaks)) has = (kind, opens)

  skip_runs : (d : Cursor Reader) (result : Result (Unit {0}) Refusal) (answer : Answer) → answer ≡ skipped result →
      now.cursor.refusal ≡ None → BeforeValue now first others → StepOf now skip answer d →
      MatchResult result (λ nothing. PassesRun now first others (with_cursor now d)) (λ r. NotPassed now first others r)
  skip_runs d result answer a free at (repeats r call _ e f) = cc
  skip_runs d (Ok nothing) answer a free at (skips part place none stands is) =
      let (last, rest, run, there) = skipped-run part place (value-stands now first others part at stands) is in
      record { last = last; rest = rest; run = run; there = ap unpeeked there }
  skip_runs d (Err r) answer a free at (skips part place none stands is) = cc
  skip_runs d (Ok nothing) answer a free at (skips_without_memory part none stands has) = cc
  skip_runs d (Err r) answer a free at (skips_without_memory part none stands has) =
      let (kind, opens) = bracket-opens part (value-stands now first others part at stands) has in lacks_memory kind opens cc
  skip_runs d (Ok nothing) answer a free at (skips_nothing part q none stands is) = cc
  skip_runs d (Err r) answer a free at (skips_nothing part q none stands is) =
      let same : q ≡ r = cc in
      let breaks = unskipped-breaks part q (value-stands now first others part at stands) is in
      breaks_off (subst (BreaksOff now.buffer (next first others)) same breaks)

-- A skip before a value passes its run, or is refused where it breaks off, or for lack of memory.
pub skip-runs : SkipPassesRun
skip-runs old new first others result free at move =
    by_step (λ x. MatchResult result (λ nothing. PassesRun old first others x) (λ r. NotPassed old first others r)) old new move
    (λ d step. skip_runs old first others d result _ refl free at step)

-- ---- captures

-- A text that is captured is UTF-8.
captured-text : (start finish : ℕ) (there place : Reader) (content text : List ℕ) (valid : Bool) → is_utf8 content ≡ valid →
    captured start finish there content valid ≡ Ok (text, place) → (text ≡ content) × (is_utf8 content ≡ true) × (place ≡ there)
captured-text start finish there place content text true is e =
    let same : ◌≡◌ {A = List ℕ × Reader} (content, there) (text, place) = cc in
    (sym (ap (λ (x : List ℕ × Reader). x.0) same), is, sym (ap (λ (x : List ℕ × Reader). x.1) same))
captured-text start finish there place content text false is e = cc

-- One that is not captured is not UTF-8, and is refused over all of it.
uncaptured-text : (start finish : ℕ) (there : Reader) (content : List ℕ) (valid : Bool) (r : Refusal) → is_utf8 content ≡ valid →
    captured start finish there content valid ≡ Err r →
    (is_utf8 content ≡ false) × (r ≡ no_raw (codes "invalid UTF-8 in raw JSON") (span_at start (finish - start)))
uncaptured-text start finish there content true r is e = cc
uncaptured-text start finish there content false r is e = (is, cc)

module _ (now : Now) (first : Token) (others : Tokens) where
  -- A value that is captured is a run, and its bytes are given.
  given-run : (d : Cursor Reader) (part : Part Reader) (text : List ℕ) (place : Reader) →
      IsValueFrom now.buffer now.cursor.spot.place.stack first others part → capture_of now.buffer part ≡ Ok (text, place) →
      d.spot ≡ unpeeked place → GivesRun now first others (Some text) (with_cursor now d)
  given-run d _ text place (is_run last rest run) e there =
      let (same, valid, place_is) = captured-text first.span.offset (stop last.span) _ place _ text _ refl e in
      record {
        passed = record { last = last; rest = rest; run = run; there = there ∙ ap unpeeked place_is };
        bytes = ap Some same;
        utf8 = valid;
      }
  given-run d _ text place (is_broken r breaks) e there = cc

  -- One that is not captured breaks off, or is not UTF-8.
  ungiven-run : (part : Part Reader) (r : Refusal) → IsValueFrom now.buffer now.cursor.spot.place.stack first others part →
      capture_of now.buffer part ≡ Err r → NotGiven now first others r
  ungiven-run _ r (is_run last rest run) e =
      let (bad, same) = uncaptured-text first.span.offset (stop last.span) _ _ _ r refl e in not_utf8 last rest run bad same
  ungiven-run _ r (is_broken q breaks) e =
      let same : q ≡ r = cc in not_passed (breaks_off (subst (BreaksOff now.buffer (next first others)) same breaks))

  capture_runs : (d : Cursor Reader) (result : Result (Option (List ℕ)) Refusal) (answer : Answer) → answer ≡ raw result →
      now.cursor.refusal ≡ None → BeforeValue now first others → StepOf now capture answer d →
      MatchResult result (λ text. GivesRun now first others text (with_cursor now d)) (λ r. NotGiven now first others r)
  capture_runs d result answer a free at (repeats r call _ e f) = cc
  capture_runs d (Ok text) answer a free at (captures part got place none stands is) =
      let same : Some got ≡ text = cc in
      subst (λ t. GivesRun now first others t (with_cursor now d)) same
      (given-run d part got place (value-stands now first others part at stands) is refl)
  capture_runs d (Err r) answer a free at (captures part got place none stands is) = cc
  capture_runs d (Ok text) answer a free at (captures_without_memory part none stands has) = cc
  capture_runs d (Err r) answer a free at (captures_without_memory part none stands has) =
      let (kind, opens) = bracket-opens now first others part (value-stands now first others part at stands) has in
      not_passed (lacks_memory kind opens cc)
  capture_runs d (Ok text) answer a free at (captures_nothing part q none stands is) = cc
  capture_runs d (Err r) answer a free at (captures_nothing part q none stands is) =
      let same : q ≡ r = cc in
      subst (NotGiven now first others) same (ungiven-run part q (value-stands now first others part at stands) is)

-- A capture before a value passes its run and gives its bytes, or is refused where it breaks off or is not UTF-8, or for lack of memory.
pub capture-runs : CapturePassesRun
capture-runs old new first others result free at move =
    by_step (λ x. MatchResult result (λ text. GivesRun old first others text x) (λ r. NotGiven old first others r)) old new move
    (λ d step. capture_runs old first others d result _ refl free at step)
