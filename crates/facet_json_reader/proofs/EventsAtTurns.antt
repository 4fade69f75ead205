-- What comes where a reader stands at a token whose turn is known, and how it is refused there.
use Rattle.std.proofs.Common.{◌≡◌, ◌∙◌, ℕ, ◌&&◌, Bool, true, false, cond, List, Option, Some, None, refl, sym, ap, ap₂, subst, inl, inr}
use Rattle.std.specs.Prelude.{ℕ, List, ◌⊎◌, IsSome, is_none, slice_range}
use Rattle.std.specs.Option.{option_map}
use Rattle.facet_format.specs.declared.event.Span.{Span as RustSpan}
use Rattle.facet_json_token.specs.declared.token.SpannedToken.{SpannedToken}
use Rattle.facet_json_reader.specs.declared.place.Turn.{Turn as RustTurn}
use Rattle.facet_json_reader.specs.declared.place.Turn.TheVariants as turns
use Rattle.facet_json_reader.specs.declared.reader.Held.{Held}
use Rattle.facet_format.specs.Complaint.{Refusal}
use Rattle.facet_format.specs.Cursor.{no_memory_at}
use Rattle.facet_format.specs.Event.{ContainerKind, EventKind, Event, Passed, Scalar, Text, scalar, field_key, takes_memory, is_made, is_owned}
use Rattle.facet_format.specs.Span.{Span, stop}
use Rattle.facet_format.specs.Views.{span_of, event_of}
use Rattle.facet_json_token.specs.Decoded.{decoded}
use Rattle.facet_json_grammar.specs.Language.{Language, rules}
use Rattle.facet_json_grammar.specs.StrictTokens.{tokens_in}
use Rattle.facet_json_token.specs.Token.{Kind, Token, colon}
use Rattle.facet_json_token.specs.Token as token
use Rattle.facet_json_token.specs.Tokens.{Tokens}
use Rattle.facet_json_grammar.specs.Future.{Future, gives, within, after_value, stack_after, stage_after, turn, reads_by, reads_colon_by}
use Rattle.facet_json_grammar.specs.Meaning.{meaning_of, text_in_tree as text_in}
use Rattle.facet_json_grammar.specs.Place.{Place, after_key, after_colon, Turn, stops, passes, says, says_scalar, names, place_turn, led}
use Rattle.facet_json_grammar.specs.Refusal.{needs_meaning, meaningless}
use Rattle.facet_json_grammar.specs.Tree.{Tree}
use Rattle.facet_json_grammar.specs.Tree as tree
use Rattle.facet_json_grammar.specs.Walk.{scalar_event, key_event, scalar_of, name_of}
use Rattle.facet_json_reader.specs.PlaceViews.{turn_of}
use Rattle.facet_json_reader.specs.TokenViews.{IsTextOf, IsUnmade, IsMeaningless}
use Rattle.facet_json_reader.specs.Views.{passed_of, comes_at, IsTurn, StopsAt, IsUnmadeScalar, IsColon, GivesHeld, IsRefusedBefore, without_memory, at_a_stop}
use Rattle.facet_json_grammar.proofs.WalkComes.{follows, reads-turn, turn-plain}
use Rattle.facet_json_grammar.proofs.StuckComes.{stuck-reads, stuck-reads_colon}
use Rattle.facet_json_reader.proofs.TurnsAtPlaces.{is_mark, mark-plain}

-- ---- what needs a meaning and has it

judged : (b : Bool) (o : Option Tree) → (b ≡ true → IsSome o) → b && is_none o ≡ false
judged true None h = let some = h refl in cc
judged true (Some v) h = refl
judged false o h = refl

-- A scalar for which a text is made has a meaning.
made_means : (kind : Kind) (o : Option Tree) → is_made (scalar_of kind o) ≡ true → IsSome o
made_means kind None e = cc
made_means kind (Some v) e = refl

unmade_by : (a b : ℕ) (o : Option (List ℕ)) → IsSome (option_map tree.text o) →
    is_owned (name_of (token.string a b true) (text_in (option_map tree.text o))) ≡ true
unmade_by a b None some = cc
unmade_by a b (Some t) some = refl

-- The name of a key is made where its string holds a backslash.
pub unmade-owned : (buffer : List ℕ) (kind : Kind) → IsUnmade buffer kind →
    is_owned (name_of kind (text_in (meaning_of buffer kind))) ≡ true
unmade-owned buffer (token.string a b true) u =
    unmade_by a b (decoded (slice_range buffer a b)) u.means
unmade-owned buffer (token.string a b false) u = let e = u.escaped in cc
unmade-owned buffer _ u = let e = u.escaped in cc

module _ (buffer : List ℕ) (language : Language) (stack : List ContainerKind) (place : Place) (position : ℕ) where
  abbrev here : Future
  here = comes_at buffer language stack (within place) position

  -- Tokens that are refused at the place.
  pub stops-refused : (last : Span) (ts : Tokens) (refusal : Refusal) → tokens_in language buffer position ≡ ts →
      StopsAt buffer place ts refusal → IsRefusedBefore buffer last here refusal
  stops-refused last ts refusal is halts =
      let comes = ap (reads_by (rules language) buffer stack (within place)) is
      ∙ stuck-reads (rules language) buffer stack place ts refusal halts in
      subst (λ f. IsRefusedBefore buffer last f refusal) (sym comes) (at_a_stop place ts refusal halts)

module _ (buffer : List ℕ) (language : Language) (stack : List ContainerKind) (place : Place) (position : ℕ) (t : SpannedToken) where
  abbrev whole : Kind → Token
  whole kind = record { kind = kind; span = span_of t.span }

  abbrev rest : Tokens
  rest = tokens_in language buffer (stop (span_of t.span))

  abbrev all : Future
  all = here buffer language stack place position

  abbrev Turns : RustTurn → Type 0
  Turns w = IsTurn buffer language place position t w

  -- ---- what comes

  comes_by : (w : RustTurn) (is : Turns w) (way : Turn) → turn buffer place (whole is.kind) ≡ way →
      all ≡ follows (rules language) buffer place (whole is.kind) stack rest way
  comes_by w is way e =
      ap (reads_by (rules language) buffer stack (within place)) is.tokens
      ∙ reads-turn (rules language) buffer stack place (whole is.kind) rest way e

  mark_comes : (w : RustTurn) (is : Turns w) (way : Turn) → turn_of w ≡ way → is_mark way ≡ true →
      all ≡ follows (rules language) buffer place (whole is.kind) stack rest way
  mark_comes w is way e m =
      let turns = is.turns ∙ e in
      let plain = mark-plain place is.kind (ap is_mark turns ∙ m) in
      comes_by w is way (turn-plain buffer place (whole is.kind) is.kind refl plain ∙ turns)

  meant : (w : RustTurn) (is : Turns w) → (needs_meaning is.kind ≡ true → IsSome (meaning_of buffer is.kind)) →
      turn buffer place (whole is.kind) ≡ turn_of w
  meant w is h =
      ap (λ b. cond b stops (place_turn place is.kind)) (judged (needs_meaning is.kind) (meaning_of buffer is.kind) h)
      ∙ is.turns

  scalar_comes : (is : Turns turns.Scalar) → (needs_meaning is.kind ≡ true → IsSome (meaning_of buffer is.kind)) →
      all ≡ gives (scalar_event buffer (whole is.kind)) (reads_by (rules language) buffer stack (after_value stack) rest)
  scalar_comes is h = comes_by turns.Scalar is says_scalar (meant turns.Scalar is h)

  names_comes : (is : Turns turns.Names) → IsSome (meaning_of buffer is.kind) →
      all ≡ reads_colon_by (rules language) buffer stack (whole is.kind) rest
  names_comes is some = comes_by turns.Names is names (meant turns.Names is (λ n. some))

  colon_comes : (key : Token) (s : Span) → IsColon buffer language (stop (span_of t.span)) s →
      reads_colon_by (rules language) buffer stack key rest ≡ gives (key_event buffer key (record { kind = colon; span = s })) (reads_by (rules language) buffer stack (within after_colon) (tokens_in language buffer (stop s)))
  unfolding reads_colon_by
  colon_comes key s c = ap (reads_colon_by (rules language) buffer stack key) c.tokens

  abbrev passed : EventKind → Span → Passed
  passed kind last = record { event = record { kind = kind; span = span_of t.span }; last = last }

  as_held : (h : Held) (kind : EventKind) (last : Span) → event_of h.event ≡ record { kind = kind; span = span_of t.span } →
      span_of h.last ≡ last → passed kind last ≡ passed_of h
  as_held h kind last e l = ap₂ (λ (x : Event) y. record { event = x; last = y }) (sym e) (sym l)

  -- ---- an event is given

  -- A bracket that opens or closes a container gives its event.
  pub says-given : (w : RustTurn) (kind : EventKind) → turn_of w ≡ says kind → Turns w → (h : Held) →
      event_of h.event ≡ record { kind = kind; span = span_of t.span } → span_of h.last ≡ span_of t.span → GivesHeld all h
  says-given w kind way is h e l =
      let after = reads_by (rules language) buffer (stack_after kind stack) (stage_after kind stack) rest in
      (after, mark_comes w is (says kind) way refl ∙ ap (λ p. gives p after) (as_held h kind (span_of t.span) e l))

  -- A scalar gives its event.
  pub scalar-given : (is : Turns turns.Scalar) (value : Scalar) → value ≡ scalar_of is.kind (meaning_of buffer is.kind) →
      (needs_meaning is.kind ≡ true → IsSome (meaning_of buffer is.kind)) → (h : Held) →
      event_of h.event ≡ record { kind = scalar value; span = span_of t.span } → span_of h.last ≡ span_of t.span → GivesHeld all h
  scalar-given is value v some h e l =
      let after = reads_by (rules language) buffer stack (after_value stack) rest in
      let event : Scalar → Event = λ x. record { kind = scalar x; span = span_of t.span } in
      (after, scalar_comes is some ∙ ap (λ p. gives p after) (as_held h _ (span_of t.span) (e ∙ ap event v) l))

  -- A key gives its event, with its colon.
  pub key-given : (is : Turns turns.Names) (name : Text) (mark : RustSpan) → IsTextOf buffer is.kind name →
      IsColon buffer language (stop (span_of t.span)) (span_of mark) → (h : Held) →
      event_of h.event ≡ record { kind = field_key name; span = span_of t.span } → span_of h.last ≡ span_of mark → GivesHeld all h
  key-given is name mark text c h e l =
      let means = text.means in
      let some : IsSome (meaning_of buffer is.kind) = rw means refl in
      let named : name_of is.kind (text_in (meaning_of buffer is.kind)) ≡ name = rw means (sym text.held) in
      let first : key_event buffer (whole is.kind) (record { kind = colon; span = span_of mark }) ≡ passed (field_key name) (span_of mark) = ap (λ n. passed (field_key n) (span_of mark)) named in
      let after = reads_by (rules language) buffer stack (within after_colon) (tokens_in language buffer (stop (span_of mark))) in
      (after, names_comes is some ∙ colon_comes (whole is.kind) (span_of mark) c ∙ ap (λ p. gives p after) (first ∙ as_held h _ (span_of mark) e l))

  -- A separator is passed, and gives nothing.
  pub passes-comes : (w : RustTurn) (other : Place) → turn_of w ≡ passes other → Turns w →
      comes_at buffer language stack (within (led (rules language) other)) (stop (span_of t.span)) ≡ all
  passes-comes w other way is = sym (mark_comes w is (passes other) way refl)

  -- ---- a refusal

  -- Where memory runs out for an event that takes some.
  refused_memory : (last : Span) (p : Passed) (future : Future) → all ≡ gives p future → takes_memory p.event.kind ≡ true →
      IsRefusedBefore buffer last all (no_memory_at last)
  refused_memory last p future comes takes =
      subst (λ f. IsRefusedBefore buffer last f (no_memory_at last)) (sym comes) (without_memory p future takes)

  -- A token without a meaning.
  pub meaningless-refused : (w : RustTurn) (last : Span) (refusal : Refusal) (is : Turns w) →
      IsMeaningless buffer is.kind (span_of t.span) refusal → IsRefusedBefore buffer last all refusal
  meaningless-refused w last refusal is m =
      stops-refused buffer language stack place position last _ refusal is.tokens (meaningless place (whole is.kind) rest refusal m.judged m.meaningless m.refused)

  -- A scalar that is not read.
  pub scalar-refused : (last : Span) (refusal : Refusal) (is : Turns turns.Scalar) →
      IsUnmadeScalar buffer is.kind last refusal ⊎ IsMeaningless buffer is.kind (span_of t.span) refusal →
      IsRefusedBefore buffer last all refusal
  scalar-refused last refusal is (inl u) =
      let same = u.refused in
      let comes = scalar_comes is (λ n. made_means is.kind (meaning_of buffer is.kind) u.made) in
      rw same (refused_memory last _ _ comes u.made)
  scalar-refused last refusal is (inr m) = meaningless-refused turns.Scalar last refusal is m

  -- A key's name for which there is no memory.
  pub key-unmade : (last : Span) (mark : RustSpan) (is : Turns turns.Names) → IsUnmade buffer is.kind →
      IsColon buffer language (stop (span_of t.span)) (span_of mark) → IsRefusedBefore buffer last all (no_memory_at last)
  key-unmade last mark is u c =
      refused_memory last _ _ (names_comes is u.means ∙ colon_comes (whole is.kind) (span_of mark) c) (unmade-owned buffer is.kind u)

  -- A key whose colon is missing.
  pub key-stopped : (last : Span) (refusal : Refusal) (is : Turns turns.Names) → IsSome (meaning_of buffer is.kind) →
      StopsAt buffer after_key rest refusal → IsRefusedBefore buffer last all refusal
  key-stopped last refusal is some halts =
      let comes = names_comes is some ∙ stuck-reads_colon (rules language) buffer stack (whole is.kind) rest refusal halts in
      subst (λ f. IsRefusedBefore buffer last f refusal) (sym comes) (at_a_stop after_key rest refusal halts)
