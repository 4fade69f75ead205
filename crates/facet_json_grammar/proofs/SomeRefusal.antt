-- Where nothing comes any more, no document goes on, so some refusal stands there.
use Rattle.std.proofs.Common.{◌≡◌, ℕ, Bool, true, false, cond, ◌&&◌, List, [], ◌∷◌, Option, Some, None, inl, inr, refl, sym, ap, ◌∙◌}
use Rattle.std.specs.Prelude.{ℕ, List, is_none, IsSome, slice_range}
use Rattle.std.specs.Option.{option_map}
use Rattle.facet_json_token.specs.Token.{Kind, Token}
use Rattle.facet_json_token.specs.Token as token
use Rattle.facet_json_token.specs.Gap.{Mode}
use Rattle.facet_json_grammar.specs.Begun.{LongestPrefix, RefusesAfter}
use Rattle.facet_json_token.specs.Tokens.{Tokens, ended, refused, next}
use Rattle.facet_json_token.specs.TokenList.{tokens}
use Rattle.facet_json_grammar.specs.Language.{Rules, lenient_rules, strict_rules}
use Rattle.facet_json_grammar.specs.Tree.{Tree, text}
use Rattle.facet_json_grammar.specs.Meaning.{meaning_of, meaning}
use Rattle.facet_json_grammar.specs.Place.{Place, root, after_key, after_colon, after_root, Turn, stops, passes, says, says_scalar, names, place_turn, leads_on, goes_on, led}
use Rattle.facet_format.specs.Complaint.{Refusal}
use Rattle.facet_json_grammar.specs.Refusal.{needs_meaning, IsStuck, at_end, at_fault, meaningless, misplaced, Complains, of_number, of_plain_string, of_escaped_string}
use Rattle.facet_format.specs.Event.{ContainerKind, Passed}
use Rattle.facet_json_grammar.specs.Walk.{key_event}
use Rattle.facet_json_grammar.specs.Future.{gives, stuck, events_before, Stage, within, over, after_value, stack_after, stage_after, is_meaningless, turn, behind_root, reads, reads_by, reads_colon_by}
use Rattle.facet_json_grammar.proofs.WalkComes.{follows, reads-turn}
use Rattle.facet_json_token.specs.Decoded.{decoded}
use Rattle.facet_json_token.specs.DecodeLaws.{HasTextOrFault}
use Rattle.facet_json_token.proofs.DecodeLaws.{decoded-decodes}
use Rattle.facet_json_token.proofs.FaultLaws.{text_or_fault}

-- Some refusal is allowed there.
abbrev pub IsRefusable : List ℕ → Place → Tokens → Type 0
IsRefusable buffer place ts = (r : Refusal) × IsStuck buffer place ts r

-- ---- the refusals of strings and numbers

text-faults : (buffer : List ℕ) (t : Token) (start finish : ℕ) → t.kind ≡ token.string start finish true →
    option_map text (decoded (slice_range buffer start finish)) ≡ None → HasTextOrFault (slice_range buffer start finish) →
    (r : Refusal) × Complains buffer t r
text-faults buffer t start finish e none has = elim has.one_of_them [
  | inl found ↦
      let is : decoded (slice_range buffer start finish) ≡ Some found.0 = decoded-decodes _ found.0 found.1 in
      let some : option_map text (decoded (slice_range buffer start finish)) ≡ Some (text found.0) = ap (option_map text) is in
      absurd (cc)
  | inr fault ↦ (_, of_escaped_string start finish fault.0 e fault.1 refl)
]

complains-by : (buffer : List ℕ) (t : Token) (kind : Kind) → t.kind ≡ kind → needs_meaning kind ≡ true →
    meaning_of buffer kind ≡ None → (r : Refusal) × Complains buffer t r
complains-by buffer t (token.string start finish true) e n none =
    text-faults buffer t start finish e none (text_or_fault (slice_range buffer start finish))
complains-by buffer t (token.string start finish false) e n none = (_, of_plain_string start finish e refl)
complains-by buffer t (token.number start finish hint) e n none = (_, of_number (rw e refl) refl)
complains-by buffer t _ e n none = cc

-- Whatever a buffer holds, its strings and numbers without a meaning are refused in some way.
complains-always : (buffer : List ℕ) (t : Token) → needs_meaning t.kind ≡ true → meaning buffer t ≡ None →
    (r : Refusal) × Complains buffer t r
complains-always buffer t needs none = complains-by buffer t t.kind refl needs none

-- ---- what is stuck

module _ (buffer : List ℕ) where
  without_by : (t : Token) (rest : Tokens) (place : Place) (needs : Bool) (o : Option Tree) → needs_meaning t.kind ≡ needs →
      meaning buffer t ≡ o → (needs && is_none o) ≡ true → IsRefusable buffer place (next t rest)
  without_by t rest place true None n e h =
      let r = complains-always buffer t n e in
      (r.0, meaningless place t rest r.0 n e r.1)
  without_by t rest place true (Some value) n e h = cc
  without_by t rest place false o n e h = cc

  sensible_by : (t : Token) (needs : Bool) (o : Option Tree) → needs_meaning t.kind ≡ needs → meaning buffer t ≡ o →
      (needs && is_none o) ≡ false → needs_meaning t.kind ≡ true → IsSome (meaning buffer t)
  sensible_by t true None n e h k = cc
  sensible_by t true (Some value) n e h k = rw e refl
  sensible_by t false o n e h k = cc

  -- A token with which no document goes on.
  never_by : (place : Place) (t : Token) (rest : Tokens) (b : Bool) → is_meaningless buffer t ≡ b → goes_on place t.kind ≡ false →
      IsRefusable buffer place (next t rest)
  never_by place t rest true e never = without_by t rest place (needs_meaning t.kind) (meaning buffer t) refl refl e
  never_by place t rest false e never =
      (_, misplaced place t rest (sensible_by t (needs_meaning t.kind) (meaning buffer t) refl refl e) never)

  -- A token where the turn is to stop.
  stops_by : (place : Place) (t : Token) (rest : Tokens) (b : Bool) → is_meaningless buffer t ≡ b →
      cond b stops (place_turn place t.kind) ≡ stops → IsRefusable buffer place (next t rest)
  stops_by place t rest true e s = without_by t rest place (needs_meaning t.kind) (meaning buffer t) refl refl e
  stops_by place t rest false e s = never_by place t rest false e (ap leads_on s)

module _ (by : Rules) (buffer : List ℕ) where
  -- Wherever these tokens are stuck at the end, some refusal is allowed.
  abbrev StuckRefuses : Tokens → Type 0
  StuckRefuses ts = (stack : List ContainerKind) (stage : Stage) (events : List Passed) (here : Place) (rest : Tokens) →
      reads_by by buffer stack stage ts ≡ events_before events (stuck here rest) → IsRefusable buffer here rest

  -- the same after a key
  abbrev StuckAfterKeyRefuses : Tokens → Type 0
  StuckAfterKeyRefuses ts = (stack : List ContainerKind) (key : Token) (events : List Passed) (here : Place) (rest : Tokens) →
      reads_colon_by by buffer stack key ts ≡ events_before events (stuck here rest) → IsRefusable buffer here rest

  -- What is stuck at one place is stuck at no other.
  there : (place here : Place) (ts rest : Tokens) → stuck place ts ≡ stuck here rest → IsRefusable buffer place ts →
      IsRefusable buffer here rest
  there place here ts rest e r =
      let places : place ≡ here = cc in
      let prefixes : ts ≡ rest = cc in
      rw (places, prefixes) at r

  turn-refuses : (stack : List ContainerKind) (place : Place) (t : Token) (ts : Tokens) (way : Turn) → StuckRefuses ts → StuckAfterKeyRefuses ts →
      (way ≡ stops → IsRefusable buffer place (next t ts)) → (events : List Passed) (here : Place) (rest : Tokens) →
      follows by buffer place t stack ts way ≡ events_before events (stuck here rest) → IsRefusable buffer here rest
  turn-refuses stack place t ts stops h g r [] here rest e = there place here (next t ts) rest e (r refl)
  turn-refuses stack place t ts stops h g r (p ∷ events) here rest e = cc
  turn-refuses stack place t ts (passes other) h g r events here rest e = h stack (within (led by other)) events here rest e
  turn-refuses stack place t ts (says kind) h g r [] here rest e = cc
  turn-refuses stack place t ts (says kind) h g r (p ∷ events) here rest e =
      let others = stack_after kind stack in
      let stage = stage_after kind stack in
      let same : reads_by by buffer others stage ts ≡ events_before events (stuck here rest) = cc in
      h others stage events here rest same
  turn-refuses stack place t ts says_scalar h g r [] here rest e = cc
  turn-refuses stack place t ts says_scalar h g r (p ∷ events) here rest e =
      let same : reads_by by buffer stack (after_value stack) ts ≡ events_before events (stuck here rest) = cc in
      h stack (after_value stack) events here rest same
  turn-refuses stack place t ts names h g r events here rest e = g stack t events here rest e

  mark-refuses : (stack : List ContainerKind) (key mark : Token) (ts : Tokens) (b : Bool) → StuckRefuses ts → goes_on after_key mark.kind ≡ b →
      (events : List Passed) (here : Place) (rest : Tokens) →
      reads_colon_by by buffer stack key (next mark ts) ≡ events_before events (stuck here rest) → IsRefusable buffer here rest
  unfolding reads_colon_by
  mark-refuses stack key mark ts false h c [] here rest e =
      let same : stuck after_key (next mark ts) ≡ stuck here rest = rw (c, reads_colon_by) at e in
      there after_key here (next mark ts) rest same (never_by buffer after_key mark ts (is_meaningless buffer mark) refl c)
  mark-refuses stack key mark ts false h c (p ∷ events) here rest e =
      let same : stuck after_key (next mark ts) ≡ gives p (events_before events (stuck here rest)) = rw (c, reads_colon_by) at e in cc
  mark-refuses stack key mark ts true h c [] here rest e =
      let same : gives (key_event buffer key mark) (reads_by by buffer stack (within after_colon) ts) ≡ stuck here rest = rw (c, reads_colon_by) at e in cc
  mark-refuses stack key mark ts true h c (p ∷ events) here rest e =
      let same : gives (key_event buffer key mark) (reads_by by buffer stack (within after_colon) ts) ≡ gives p (events_before events (stuck here rest)) = rw (c, reads_colon_by) at e in
      let behind : reads_by by buffer stack (within after_colon) ts ≡ events_before events (stuck here rest) = cc in
      h stack (within after_colon) events here rest behind

  behind-refuses : (r : Rules) (ts : Tokens) (events : List Passed) (here : Place) (rest : Tokens) →
      behind_root r ts ≡ events_before events (stuck here rest) → IsRefusable buffer here rest
  behind-refuses lenient_rules ts [] here rest e = cc
  behind-refuses lenient_rules ts (p ∷ events) here rest e = cc
  behind-refuses strict_rules ended [] here rest e = cc
  behind-refuses strict_rules ended (p ∷ events) here rest e = cc
  behind-refuses strict_rules (refused f) [] here rest e = there after_root here (refused f) rest e (_, at_fault after_root f)
  behind-refuses strict_rules (refused f) (p ∷ events) here rest e = cc
  behind-refuses strict_rules (next t ts) [] here rest e =
      there after_root here (next t ts) rest e (never_by buffer after_root t ts (is_meaningless buffer t) refl refl)
  behind-refuses strict_rules (next t ts) (p ∷ events) here rest e = cc

  mutual
    unfolding reads_by

    -- Where nothing comes any more, some refusal is allowed.
    pub stuck-refuses : (ts : Tokens) → StuckRefuses ts
    stuck-refuses ts stack over events here rest e = behind-refuses by ts events here rest e
    stuck-refuses ended stack (within place) [] here rest e = there place here ended rest e (_, at_end place)
    stuck-refuses ended stack (within place) (p ∷ events) here rest e = cc
    stuck-refuses (refused f) stack (within place) [] here rest e = there place here (refused f) rest e (_, at_fault place f)
    stuck-refuses (refused f) stack (within place) (p ∷ events) here rest e = cc
    stuck-refuses (next t ts) stack (within place) events here rest e =
        turn-refuses stack place t ts (turn buffer place t) (stuck-refuses ts) (colon-refuses ts)
        (stops_by buffer place t ts (is_meaningless buffer t) refl) events here rest
        (sym (reads-turn by buffer stack place t ts (turn buffer place t) refl) ∙ e)

    colon-refuses : (ts : Tokens) → StuckAfterKeyRefuses ts
    colon-refuses ended stack key [] here rest e = there after_key here ended rest e (_, at_end after_key)
    colon-refuses ended stack key (p ∷ events) here rest e = cc
    colon-refuses (refused f) stack key [] here rest e = there after_key here (refused f) rest e (_, at_fault after_key f)
    colon-refuses (refused f) stack key (p ∷ events) here rest e = cc
    colon-refuses (next mark ts) stack key events here rest e =
        mark-refuses stack key mark ts (goes_on after_key mark.kind) (stuck-refuses ts) refl events here rest e

-- Where a longest prefix comes and then nothing, some refusal is allowed after it.
pub prefix-refuses : (buffer : List ℕ) (mode : Mode) (events : List Passed) (here : Place) (rest : Tokens) →
    LongestPrefix buffer (tokens buffer mode) events here rest →
    reads buffer [] (within root) (tokens buffer mode) ≡ events_before events (stuck here rest) →
    (r : Refusal) × RefusesAfter buffer mode events r
prefix-refuses buffer mode events here rest prefix e =
    let found = stuck-refuses lenient_rules buffer (tokens buffer mode) [] (within root) events here rest e in
    (found.0, record { here = here; rest = rest; prefix = prefix; stuck = found.1 })
