-- Within open brackets, where what comes is finished: the events that close them lead out, and the tokens are passed to the last bracket.
use Rattle.std.proofs.Common.{◌≡◌, ℕ, suc, ◌<◌, ◌≤◌, Bool, true, false, List, [], ◌∷◌, ◌++◌, length, drop, refl, sym, ap, ◌∙◌, subst, arith}
use Rattle.facet_format.specs.Event.{ContainerKind, object, array, EventKind, Passed}
use Rattle.facet_format.specs.Event as event
use Rattle.facet_format.specs.Part.{last_of, depth_after, closing_len}
use Rattle.facet_format.specs.Span.{Span}
use Rattle.facet_json_token.specs.Token.{Kind, Token}
use Rattle.facet_json_token.specs.Token as token
use Rattle.facet_json_token.specs.Tokens.{Tokens, ended, refused, next}
use Rattle.facet_json_grammar.specs.Language.{Rules, lenient_rules, strict_rules}
use Rattle.facet_json_grammar.specs.Future.{gives, finished, events_before, within, after_value, reads_by, reads_colon_by}
use Rattle.facet_json_grammar.specs.Inner.PassedRun.{Passing, leaves, passing, Outcome, closes, stops as breaks, passed}
use Rattle.facet_json_grammar.specs.Place.{Place, before_key, after_key, after_colon, after_member, before_item, after_item, next_key, next_item, Turn, stops, passes, says, says_scalar, names, place_turn, goes_on, led}
use Rattle.facet_json_grammar.specs.Run.{opening, is_separator}
use Rattle.facet_json_grammar.specs.Walk.{event_at, key_event}
use Rattle.facet_json_grammar.proofs.Parts.FinishedComes.{begins-with, never-stuck, takes_turn}
use Rattle.facet_json_grammar.proofs.Parts.PlacesOnWalk.{last_of-cons}
use Rattle.facet_json_grammar.proofs.Runs.RunsPassed.{passing-separator, passed-next}
use Rattle.facet_json_grammar.proofs.WalkComes.{TakesValue, follows, object_here, array_here, reads-ended, reads-refused, colon-ended, colon-refused, colon-stands, colon-missing}

-- ---- one token

-- the places within a container
data IsIn : ContainerKind → Place → Type 0 where
  to_key : IsIn object before_key
  to_colon : IsIn object after_key
  to_value : IsIn object after_colon
  past_member : IsIn object after_member
  to_item : IsIn array before_item
  past_item : IsIn array after_item
  to_next_key : IsIn object next_key
  to_next_item : IsIn array next_item

-- So is the one that a separator leads to.
led-in : (by : Rules) {kind : ContainerKind} {place : Place} → IsIn kind place → IsIn kind (led by place)
led-in lenient_rules at = at
led-in strict_rules to_key = to_next_key
led-in strict_rules to_item = to_next_item
led-in strict_rules to_colon = to_colon
led-in strict_rules to_value = to_value
led-in strict_rules past_member = past_member
led-in strict_rules past_item = past_item
led-in strict_rules to_next_key = to_next_key
led-in strict_rules to_next_item = to_next_item

-- What a token with this turn does within open brackets.
abbrev Does : Turn → ContainerKind → List ContainerKind → Passing → Type 0
Does stops kind around p = p ≡ p
Does (passes other) kind around p = IsIn kind other × (p ≡ leaves (kind ∷ around))
Does (says (event.struct_start opened)) kind around p = p ≡ leaves (object ∷ kind ∷ around)
Does (says event.struct_end) kind around p = p ≡ leaves around
Does (says (event.sequence_start opened)) kind around p = p ≡ leaves (array ∷ kind ∷ around)
Does (says event.sequence_end) kind around p = p ≡ leaves around
Does (says (event.field_key name)) kind around p = ⊥
Does (says (event.scalar value)) kind around p = ⊥
Does says_scalar kind around p = p ≡ leaves (kind ∷ around)
Does names kind around p = IsIn kind after_colon × (p ≡ leaves (kind ∷ around))

-- A token within a container does what its turn says.
does : {kind : ContainerKind} {place : Place} (around : List ContainerKind) (s : Span) (k : Kind) → IsIn kind place →
    Does (place_turn place k) kind around (passing kind around s k)
does around s token.object_end to_key = refl
does around s (token.string start finish has_escapes) to_key = (to_value, refl)
does around s _ to_key = refl
does around s token.colon to_colon = (to_value, refl)
does around s _ to_colon = refl
does around s token.object_start to_value = refl
does around s _ to_value = refl
does around s token.comma past_member = (to_key, refl)
does around s token.object_end past_member = refl
does around s _ past_member = refl
does around s token.array_end to_item = refl
does around s _ to_item = refl
does around s token.comma past_item = (to_item, refl)
does around s token.array_end past_item = refl
does around s _ past_item = refl
does around s (token.string start finish has_escapes) to_next_key = (to_value, refl)
does around s _ to_next_key = refl
does around s token.object_start to_next_item = refl
does around s _ to_next_item = refl

-- What may stand after a key is a colon.
pub a_colon : (k : Kind) → goes_on after_key k ≡ true → is_separator k ≡ true
a_colon token.colon e = refl
a_colon _ e = cc

-- ---- what comes within open brackets

module _ (buffer : List ℕ) where
  -- With no bracket open the last token was the one before.
  pub passed-none : (t : Token) (rest : Tokens) → passed buffer [] t rest ≡ closes t rest
  unfolding passed
  passed-none t rest = refl

module _ (by : Rules) (buffer : List ℕ) (stack : List ContainerKind) where
  -- So many events lead out of the brackets, to where the rest of the tokens stands after the last token.
  pub record LeadsOut (count : ℕ) (ps : List Passed) (last : Token) (rest : Tokens) : Type 0 where
    pub some : 0 < count
    pub place_within : count ≤ length ps
    pub comes : reads_by by buffer stack (after_value stack) rest ≡ events_before (drop count ps) finished
    pub ends : last_of ps count ≡ last.span

  -- The events that close so many brackets lead out of them, as they are passed.
  abbrev pub LeadsTo : ℕ → List Passed → Outcome → Type 0
  LeadsTo n ps (closes last rest) = LeadsOut (closing_len n ps) ps last rest
  LeadsTo n ps (breaks refusal) = ⊥

  -- Where the events after one lead out, it and they do.
  leads-on : (n m : ℕ) (p : Passed) (ps : List Passed) (o : Outcome) → depth_after (suc n) p.event.kind ≡ suc m → LeadsTo (suc m) ps o →
      LeadsTo (suc n) (p ∷ ps) o
  leads-on n m p ps (closes last rest) e leads =
      let more : LeadsOut (suc (closing_len (suc m) ps)) (p ∷ ps) last rest = record {
        some = omega arith;
        place_within = omega (arith, leads.place_within);
        comes = leads.comes;
        ends = last_of-cons p ps (closing_len (suc m) ps) leads.some ∙ leads.ends;
      } in
      subst (λ depth. LeadsOut (suc (closing_len depth ps)) (p ∷ ps) last rest) (sym e) more
  leads-on n m p ps (breaks refusal) e leads = leads

  -- Where a bracket closes the innermost one, and it alone is open, it leads out.
  last-leads : (p : Passed) (ps : List Passed) (t : Token) (rest : Tokens) → depth_after 1 p.event.kind ≡ 0 → p.last ≡ t.span →
      reads_by by buffer stack (after_value stack) rest ≡ events_before ps finished → LeadsTo 1 (p ∷ ps) (closes t rest)
  last-leads p ps t rest e last comes =
      let one : LeadsOut 1 (p ∷ ps) t rest = record { some = omega arith; place_within = omega arith; comes = comes; ends = last } in
      subst (λ depth. LeadsOut (suc (closing_len depth ps)) (p ∷ ps) t rest) (sym e) one

  -- From wherever within open brackets these tokens stand and what comes is finished, the brackets lead out.
  abbrev LeadsFrom : Tokens → Type 0
  LeadsFrom ts = (kind : ContainerKind) (around : List ContainerKind) (place : Place) (before : Token) (ps : List Passed) → IsIn kind place →
      reads_by by buffer (kind ∷ around ++ stack) (within place) ts ≡ events_before ps finished →
      LeadsTo (suc (length around)) ps (passed buffer (kind ∷ around) before ts)

  -- the same after a key
  abbrev LeadsAfterKey : Tokens → Type 0
  LeadsAfterKey ts = (kind : ContainerKind) (around : List ContainerKind) (key : Token) (ps : List Passed) → IsIn kind after_colon →
      reads_colon_by by buffer (kind ∷ around ++ stack) key ts ≡ events_before ps finished →
      LeadsTo (suc (length around)) ps (passed buffer (kind ∷ around) key ts)

  -- After an event at whose end these brackets are open, the events from it on lead out of those before it.
  event-leads : (ts : Tokens) → LeadsFrom ts → (n : ℕ) (kind : ContainerKind) (around : List ContainerKind) (place : Place) (t : Token)
      (p : Passed) (ps : List Passed) → IsIn kind place → depth_after (suc n) p.event.kind ≡ suc (length around) →
      gives p (reads_by by buffer (kind ∷ around ++ stack) (within place) ts) ≡ events_before ps finished →
      LeadsTo (suc n) ps (passed buffer (kind ∷ around) t ts)
  event-leads ts later n kind around place t p ps there depth e =
      let first = begins-with p _ ps e in
      let same = first.same in
      rw same (leads-on n (length around) p first.others _ depth (later kind around place t first.others there first.behind))

  -- After a value within a bracket its place goes on.
  value-leads : (ts : Tokens) → LeadsFrom ts → (n : ℕ) (kind : ContainerKind) (around : List ContainerKind) (t : Token) (p : Passed)
      (ps : List Passed) → depth_after (suc n) p.event.kind ≡ suc (length around) →
      gives p (reads_by by buffer (kind ∷ around ++ stack) (after_value (kind ∷ around ++ stack)) ts) ≡ events_before ps finished →
      LeadsTo (suc n) ps (passed buffer (kind ∷ around) t ts)
  value-leads ts later n object around t p ps depth e = event-leads ts later n object around after_member t p ps past_member depth e
  value-leads ts later n array around t p ps depth e = event-leads ts later n array around after_item t p ps past_item depth e

  -- An event that closes the innermost bracket leads out of it, and so on where others are open around it.
  closed-leads : (ts : Tokens) → LeadsFrom ts → (around : List ContainerKind) (t : Token) (p : Passed) (ps : List Passed) →
      ((n : ℕ) → depth_after (suc n) p.event.kind ≡ n) → p.last ≡ t.span →
      gives p (reads_by by buffer (around ++ stack) (after_value (around ++ stack)) ts) ≡ events_before ps finished →
      LeadsTo (suc (length around)) ps (passed buffer around t ts)
  closed-leads ts later [] t p ps depth last e =
      let first = begins-with p _ ps e in
      let same = first.same in
      rw (same, passed-none buffer t ts) (last-leads p first.others t ts (depth 0) last first.behind)
  closed-leads ts later (kind ∷ around) t p ps depth last e = value-leads ts later _ kind around t p ps (depth _) e

  -- Whatever its turn, a token leads out.
  turn-leads : (kind : ContainerKind) (around : List ContainerKind) (place : Place) (before t : Token) (ts : Tokens) (ps : List Passed)
      (way : Turn) (p : Passing) → LeadsFrom ts → LeadsAfterKey ts → IsIn kind place → Does way kind around p →
      passing kind around t.span t.kind ≡ p → follows by buffer place t (kind ∷ around ++ stack) ts way ≡ events_before ps finished →
      LeadsTo (suc (length around)) ps (passed buffer (kind ∷ around) before (next t ts))
  turn-leads kind around place before t ts ps stops p later key there d is e = absurd (never-stuck place (next t ts) ps e)
  turn-leads kind around place before t ts ps (passes other) p later key there d is e =
      rw (passed-next buffer kind around before t ts _ (is ∙ d.1)) (later kind around (led by other) t ps (led-in by d.0) e)
  turn-leads kind around place before t ts ps (says (event.struct_start opened)) p later key there d is e =
      rw (passed-next buffer kind around before t ts _ (is ∙ d)) (event-leads ts later _ object (kind ∷ around) before_key t _ ps to_key refl e)
  turn-leads kind around place before t ts ps (says event.struct_end) p later key there d is e =
      rw (passed-next buffer kind around before t ts _ (is ∙ d)) (closed-leads ts later around t _ ps (λ n. omega arith) refl e)
  turn-leads kind around place before t ts ps (says (event.sequence_start opened)) p later key there d is e =
      rw (passed-next buffer kind around before t ts _ (is ∙ d)) (event-leads ts later _ array (kind ∷ around) before_item t _ ps to_item refl e)
  turn-leads kind around place before t ts ps (says event.sequence_end) p later key there d is e =
      rw (passed-next buffer kind around before t ts _ (is ∙ d)) (closed-leads ts later around t _ ps (λ n. omega arith) refl e)
  turn-leads kind around place before t ts ps (says (event.field_key name)) p later key there d is e = absurd d
  turn-leads kind around place before t ts ps (says (event.scalar value)) p later key there d is e = absurd d
  turn-leads kind around place before t ts ps says_scalar p later key there d is e =
      rw (passed-next buffer kind around before t ts _ (is ∙ d)) (value-leads ts later _ kind around t _ ps refl e)
  turn-leads kind around place before t ts ps names p later key there d is e =
      rw (passed-next buffer kind around before t ts _ (is ∙ d.1)) (key kind around t ps d.0 e)

  -- A key's colon is passed, and the value after it stands at its place.
  mark-leads : (kind : ContainerKind) (around : List ContainerKind) (key mark : Token) (ts : Tokens) (ps : List Passed) (b : Bool) →
      LeadsFrom ts → IsIn kind after_colon → goes_on after_key mark.kind ≡ b →
      reads_colon_by by buffer (kind ∷ around ++ stack) key (next mark ts) ≡ events_before ps finished →
      LeadsTo (suc (length around)) ps (passed buffer (kind ∷ around) key (next mark ts))
  mark-leads kind around key mark ts ps false later there c e =
      absurd (never-stuck after_key (next mark ts) ps (sym (colon-missing by buffer (kind ∷ around ++ stack) key mark ts c) ∙ e))
  mark-leads kind around key mark ts ps true later there c e =
      rw (passed-next buffer kind around key mark ts _ (passing-separator kind around mark.span mark.kind (a_colon mark.kind c)))
      (event-leads ts later _ kind around after_colon mark (key_event buffer key mark) ps there refl
      (sym (colon-stands by buffer (kind ∷ around ++ stack) key mark ts c) ∙ e))

  mutual
    -- Within open brackets what comes leads out, where it is finished.
    leads-from : (ts : Tokens) → LeadsFrom ts
    leads-from ended kind around place before ps there e = absurd (never-stuck place ended ps (sym (reads-ended by buffer _ place) ∙ e))
    leads-from (refused f) kind around place before ps there e =
        absurd (never-stuck place (refused f) ps (sym (reads-refused by buffer _ place f) ∙ e))
    leads-from (next t ts) kind around place before ps there e =
        turn-leads kind around place before t ts ps (place_turn place t.kind) _ (leads-from ts) (leads-after_key ts) there
        (does around t.span t.kind there) refl
        (takes_turn by buffer (kind ∷ around ++ stack) place t ts ps _ refl e)

    -- So it does after a key.
    leads-after_key : (ts : Tokens) → LeadsAfterKey ts
    leads-after_key ended kind around key ps there e = absurd (never-stuck after_key ended ps (sym (colon-ended by buffer _ key) ∙ e))
    leads-after_key (refused f) kind around key ps there e =
        absurd (never-stuck after_key (refused f) ps (sym (colon-refused by buffer _ key f) ∙ e))
    leads-after_key (next mark ts) kind around key ps there e =
        mark-leads kind around key mark ts ps (goes_on after_key mark.kind) (leads-from ts) there refl e

-- ---- an opening bracket

-- the event of an opening bracket
abbrev pub opening_event : ContainerKind → EventKind
opening_event object = event.struct_start object
opening_event array = event.sequence_start array

module _ (by : Rules) (buffer : List ℕ) (stack : List ContainerKind) where
  -- The events begin with an opening bracket's, and those after it lead out of it as it is passed.
  pub record Opens (kind : ContainerKind) (t : Token) (inner : Tokens) (ps : List Passed) : Type 0 where
    pub others : List Passed
    pub same : ps ≡ event_at (opening_event kind) t ∷ others
    pub leads : LeadsTo by buffer stack 1 others (passed buffer (kind ∷ []) t inner)

  -- Where an opening bracket stands, they are so.
  pub opens : (kind : ContainerKind) (place : Place) (t : Token) (inner : Tokens) (ps : List Passed) → TakesValue place →
      t.kind ≡ opening kind → reads_by by buffer stack (within place) (next t inner) ≡ events_before ps finished → Opens kind t inner ps
  opens object place t inner ps at k e =
      let taken = takes_turn by buffer stack place t inner ps _ (ap (place_turn place) k ∙ object_here buffer place at) e in
      let first = begins-with (event_at (event.struct_start object) t) _ ps taken in
      let leads = leads-from by buffer stack inner object [] before_key t first.others to_key first.behind in
      record { others = first.others; same = first.same; leads = leads }
  opens array place t inner ps at k e =
      let taken = takes_turn by buffer stack place t inner ps _ (ap (place_turn place) k ∙ array_here buffer place at) e in
      let first = begins-with (event_at (event.sequence_start array) t) _ ps taken in
      let leads = leads-from by buffer stack inner array [] before_item t first.others to_item first.behind in
      record { others = first.others; same = first.same; leads = leads }
