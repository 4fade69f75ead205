-- What is consumed between two fronts, and that the second one is before the next token.
use Rattle.std.proofs.Common.{◌≡◌, ℕ, ◌+◌, ◌-◌, ◌≤◌, ◌<◌, false, List, [], ◌∷◌, Option, Some, length, drop, slice_get, refl, sym, ap, ap₂, ◌∙◌, arith}
use Rattle.std.specs.Prelude.{IfNone}
use Rattle.std.proofs.lemmas.List.{length-drop}
use Rattle.facet_format.specs.Bytes.{colon as colon_byte}
use Rattle.facet_format.specs.Event.{ContainerKind, Event, EventKind, Scalar, borrowed, field_key, scalar}
use Rattle.facet_format.specs.Span.{Span, span_at}
use Rattle.facet_format.specs.Views.{span_of, container_of}
use Rattle.facet_format.specs.declared.event.ContainerKind.{ContainerKind as RustContainerKind}
use Rattle.facet_format.specs.declared.event.ContainerKind.TheVariants as containers
use Rattle.facet_json_token.specs.Cut.{past_gap, cut_here, token_at}
use Rattle.facet_json_token.specs.Gap.{Mode, plain, whole}
use Rattle.facet_json_token.specs.GapLen.{piece_len}
use Rattle.facet_json_token.specs.Token.{Kind, string}
use Rattle.facet_json_token.proofs.Gaps.{gap_len-none}
use Rattle.facet_json_token.proofs.Offsets.{drop-at_byte}
use Rattle.facet_json_grammar.specs.Future.{Stage, after_value, around, stack_after, stage_after, within}
use Rattle.facet_json_grammar.specs.Language.{Language, gaps}
use Rattle.facet_json_grammar.specs.Place.{names, place_turn, says}
use Rattle.facet_json_grammar.specs.StrictTokens.{Allows}
use Rattle.facet_json_reader.specs.declared.in_sight.Front.{Front}
use Rattle.facet_json_reader.specs.declared.place.Place.{Place as RustPlace}
use Rattle.facet_json_reader.specs.declared.place.Place.TheVariants as places
use Rattle.facet_json_reader.specs.declared.reader.Reader.{Reader}
use Rattle.facet_json_reader.specs.declared.reader.Stage.TheVariants as stages
use Rattle.facet_json_reader.specs.Inner.InSight.{Stays, not_told, reader_at, IsFront, PassesSeveral, none_more, one_more, none_taken, TakesScalar, PassesAt, PassesScalarAt, PassesOver, PassesBracket, GoesFar}
use Rattle.facet_json_reader.specs.Inner.Quick.{MayBeValue}
use Rattle.facet_json_reader.specs.PlaceViews.{place_of, opening_bracket, closing_bracket, opening_token, closing_token, opening_event, closing_event}
use Rattle.facet_json_reader.specs.Values.{IsAllowedThere, IsPlainText, IsScalarThere}
use Rattle.facet_json_reader.specs.Views.{stage_of, reader_of}
use Rattle.facet_json_reader.proofs.TokensThere.{there-fits}
use Rattle.facet_json_reader.proofs.QuickEvents.{bracket-passes, closing-cut, key-passes, opening-cut, opens-here, scalar-passes}

-- ---- bytes

-- The gap ends at a byte that begins no piece of one.
pub gap-ends : (mode : Mode) (buffer : List ℕ) (at b : ℕ) → slice_get buffer at ≡ Some b →
    ((bytes : List ℕ) → piece_len mode whole (b ∷ bytes) ≡ 0) → at ≡ past_gap buffer at mode
gap-ends mode buffer at b here none =
    let empty = gap_len-none mode whole (drop at buffer)
    (ap (piece_len mode whole) (drop-at_byte buffer at b here) ∙ none (drop (at + 1) buffer)) in
    omega (arith, empty)

-- A scalar takes some bytes of the buffer.
token-fits : (buffer bytes : List ℕ) (at len : ℕ) (kind : Kind) → drop at buffer ≡ bytes → cut_here plain at bytes ≡ token_at kind at len →
    (0 < len) × (at + len ≤ length buffer)
unfolding cut_here
token-fits buffer [] at len kind is e = cc
token-fits buffer (b ∷ bytes) at len kind is e =
    let fits = there-fits plain buffer at len kind (omega (arith, length-drop at buffer, ap length is)) (ap (cut_here plain at) is ∙ e) in
    (omega (arith, fits.some), omega (arith, fits.within))

pub scalar-fits : (buffer : List ℕ) (at len : ℕ) (value : Scalar) → IsScalarThere buffer at len value → (0 < len) × (at + len ≤ length buffer)
scalar-fits buffer at len value there = token-fits buffer (drop at buffer) at len there.kind refl (there.cut plain)

-- What was not told of an event stays.
pub untold : {X T : Type 0} (takes : Option Event → T → T → Type 0) (x : T) (answer : Option X) → IfNone answer (Stays takes x x)
untold takes x Option.None = not_told
untold takes x (Some answer) = tt

-- The reader within these containers, after this token and at this stage.
left : (stack : List ContainerKind) (to : Front) (last : Span) (stage : Stage) → span_of to.last ≡ last → stage_of to.stage ≡ stage →
    reader_of (reader_at stack to) ≡ record { last = last; stack = stack; stage = stage }
left stack to last stage l s = ap₂ (λ (x : Span) (y : Stage). record { last = x; stack = stack; stage = y }) l s

-- ---- events within the same containers

module _ (buffer : List ℕ) (language : Language) (stack : List ContainerKind) (from to : Front) where
  -- A scalar is consumed.
  pub scalar-at : (place : RustPlace) (len : ℕ) (is : IsAllowedThere language buffer from.at len) → MayBeValue (place_of from.place) →
      after_value stack ≡ within (place_of place) → IsFront buffer language stack from → span_of to.last ≡ span_at from.at len →
      to.stage ≡ stages.Within place → IsFront buffer language stack to → PassesScalarAt buffer language stack from len is.value to
  scalar-at place len is may after reached last stage front = record {
    one = scalar-passes buffer language (reader_at stack from) (place_of from.place) from.at len is.value (span_at from.at len) (reader_at stack to) may
        reached refl is.there is.allowed (record { new = left stack to (span_at from.at len) (after_value stack) last (ap stage_of stage ∙ sym after) });
    front = front;
  }

  -- A key and its colon are consumed.
  pub key-at : (finish mark : ℕ) (name : List ℕ) → place_turn (place_of from.place) (string (from.at + 1) finish false) ≡ names →
      Allows language buffer (record { kind = string (from.at + 1) finish false; span = span_at from.at ((finish + 1) - from.at) }) →
      IsFront buffer language stack from → IsPlainText buffer from.at finish name → from.at < finish → finish < length buffer →
      mark ≡ past_gap buffer (finish + 1) (gaps language) → slice_get buffer mark ≡ Some colon_byte → span_of to.last ≡ span_at mark 1 →
      to.stage ≡ stages.Within places.AfterColon → IsFront buffer language stack to →
      PassesAt buffer language stack from (record { kind = field_key (borrowed name); span = span_at from.at ((finish + 1) - from.at) }) to
  key-at finish mark name key allowed reached text some room gap here last stage front = record {
    one = key-passes buffer language (reader_at stack from) (place_of from.place) from.at finish mark name (span_at from.at ((finish + 1) - from.at))
        (reader_at stack to) key refl allowed reached text some room gap here (record { new = left stack to (span_at mark 1) _ last (ap stage_of stage) });
    front = front;
  }

module _ {T : Type 0} (takes : Option Event → T → T → Type 0) (buffer : List ℕ) (language : Language) where
  -- ---- events

  module _ (stack : List ContainerKind) (from to : Front) (x y : T) where
    -- What is consumed is taken.
    over-at : (e : Event) → PassesAt buffer language stack from e to → takes (Some e) x y → PassesOver takes buffer language stack from x stack to y
    over-at e passes taken = record { event = e; one = passes.one; taken = taken; front = passes.front }

    pub scalar-over : (place : RustPlace) (len : ℕ) → TakesScalar takes buffer language from.at len x y → MayBeValue (place_of from.place) →
        after_value stack ≡ within (place_of place) → IsFront buffer language stack from → span_of to.last ≡ span_at from.at len →
        to.stage ≡ stages.Within place → IsFront buffer language stack to → PassesOver takes buffer language stack from x stack to y
    scalar-over place len takes_one may after reached last stage front =
        over-at _ (scalar-at buffer language stack from to place len takes_one.is may after reached last stage front) takes_one.taken

    pub key-over : (finish mark : ℕ) (name : List ℕ) → place_turn (place_of from.place) (string (from.at + 1) finish false) ≡ names →
        Allows language buffer (record { kind = string (from.at + 1) finish false; span = span_at from.at ((finish + 1) - from.at) }) →
        IsFront buffer language stack from → IsPlainText buffer from.at finish name → from.at < finish → finish < length buffer →
        mark ≡ past_gap buffer (finish + 1) (gaps language) → slice_get buffer mark ≡ Some colon_byte → span_of to.last ≡ span_at mark 1 →
        to.stage ≡ stages.Within places.AfterColon → IsFront buffer language stack to →
        takes (Some (record { kind = field_key (borrowed name); span = span_at from.at ((finish + 1) - from.at) })) x y →
        PassesOver takes buffer language stack from x stack to y
    key-over finish mark name key allowed reached text some room gap here last stage front taken =
        over-at _ (key-at buffer language stack from to finish mark name key allowed reached text some room gap here last stage front) taken

    -- A value of one token is consumed, which may be the root.
    pub value-over : (len : ℕ) → TakesScalar takes buffer language from.at len x y → MayBeValue (place_of from.place) →
        IsFront buffer language stack from → span_of to.last ≡ span_at from.at len → stage_of to.stage ≡ after_value stack →
        ((to.stage ≡ stages.Over → ⊥) → IsFront buffer language stack to) → PassesBracket takes buffer language stack from x stack to y
    value-over len takes_one may reached last stage front =
        let is = takes_one.is in
        record {
          event = record { kind = scalar is.value; span = span_at from.at len };
          one = scalar-passes buffer language (reader_at stack from) (place_of from.place) from.at len is.value (span_at from.at len) (reader_at stack to)
              may reached refl is.there is.allowed (record { new = left stack to (span_at from.at len) (after_value stack) last stage });
          taken = takes_one.taken;
          front = front;
        }

    -- A bracket is consumed, which leaves these containers open.
    bracket-over : (kind : Kind) (way : EventKind) (after : List ContainerKind) → IsFront buffer language stack from →
        cut_here (gaps language) from.at (drop from.at buffer) ≡ token_at kind from.at 1 → place_turn (place_of from.place) kind ≡ says way →
        span_of to.last ≡ span_at from.at 1 → after ≡ stack_after way stack → stage_of to.stage ≡ stage_after way stack →
        ((to.stage ≡ stages.Over → ⊥) → IsFront buffer language after to) → takes (Some (record { kind = way; span = span_at from.at 1 })) x y →
        PassesBracket takes buffer language stack from x after to y
    bracket-over kind way after reached cuts turns last opens stage front taken =
        let all = left after to (span_at from.at 1) (stage_after way stack) last stage
        ∙ ap (λ (x : List ContainerKind). record { last = span_at from.at 1; stack = x; stage = stage_after way stack }) opens in
        record {
          event = record { kind = way; span = span_at from.at 1 };
          one = bracket-passes buffer language (reader_at stack from) (place_of from.place) from.at kind way (span_at from.at 1) (reader_at after to) reached
              cuts turns refl (record { new = all });
          taken = taken;
          front = front;
        }

    pub start-over : (kind : RustContainerKind) (after : List ContainerKind) → MayBeValue (place_of from.place) → IsFront buffer language stack from →
        slice_get buffer from.at ≡ Some (opening_bracket kind) → span_of to.last ≡ span_at from.at 1 → after ≡ container_of kind ∷ stack →
        stage_of to.stage ≡ stage_after (opening_event kind) stack → IsFront buffer language after to →
        takes (Some (record { kind = opening_event kind; span = span_at from.at 1 })) x y → PassesBracket takes buffer language stack from x after to y
    start-over kind after may reached here last opens stage front taken =
        bracket-over (opening_token kind) (opening_event kind) after reached (opening-cut (gaps language) buffer from.at kind here)
        (opens-here (place_of from.place) kind may) last (opens ∙ opened kind) stage (λ _. front) taken
      where
        opened : (k : RustContainerKind) → container_of k ∷ stack ≡ stack_after (opening_event k) stack
        opened containers.Object = refl
        opened containers.Array = refl

    pub end-over : (kind : RustContainerKind) (after : List ContainerKind) → place_turn (place_of from.place) (closing_token kind) ≡ says (closing_event kind) →
        IsFront buffer language stack from → slice_get buffer from.at ≡ Some (closing_bracket kind) → span_of to.last ≡ span_at from.at 1 →
        after ≡ around stack → stage_of to.stage ≡ after_value after → ((to.stage ≡ stages.Over → ⊥) → IsFront buffer language after to) →
        takes (Some (record { kind = closing_event kind; span = span_at from.at 1 })) x y → PassesBracket takes buffer language stack from x after to y
    end-over kind after turns reached here last closes stage front taken =
        bracket-over (closing_token kind) (closing_event kind) after reached (closing-cut (gaps language) buffer from.at kind here) turns last
        (closes ∙ closed kind) (stage ∙ ap after_value closes ∙ ended kind) front taken
      where
        closed : (k : RustContainerKind) → around stack ≡ stack_after (closing_event k) stack
        closed containers.Object = refl
        closed containers.Array = refl

        ended : (k : RustContainerKind) → after_value (around stack) ≡ stage_after (closing_event k) stack
        ended containers.Object = refl
        ended containers.Array = refl

  -- ---- some events

  -- Nothing is consumed, and perhaps one event was not taken.
  pub none-far : (stack : List ContainerKind) (f : Front) (x y : T) → IsFront buffer language stack f → Stays takes x y →
      GoesFar takes buffer language stack f x f y
  none-far stack f x y front stays = record { several = none_taken _ x y none_more stays; front = front }

  pub left-far : (stack : List ContainerKind) (f g : Front) (x y z : T) → GoesFar takes buffer language stack f x g y → Stays takes y z →
      GoesFar takes buffer language stack f x g z
  left-far stack f g x y z far stays = record { several = none_taken _ y z far.several stays; front = far.front }

  pub one-far : (stack : List ContainerKind) (f g h : Front) (x y z : T) → GoesFar takes buffer language stack f x g y →
      PassesOver takes buffer language stack g y stack h z → GoesFar takes buffer language stack f x h z
  one-far stack f g h x y z far over = record { several = one_more _ _ y z over.event far.several over.one over.taken; front = over.front }

  pub several-more : {r s : Reader} {x y : T} {t : Reader} {z : T} → PassesSeveral takes buffer language r x s y → PassesSeveral takes buffer language s y t z →
      PassesSeveral takes buffer language r x t z
  several-more first none_more = first
  several-more first (one_more s t y z e more one taken) = one_more s t y z e (several-more first more) one taken
  several-more first (none_taken s y z more stays) = none_taken s y z (several-more first more) stays
