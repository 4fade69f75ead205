-- Events that are consumed one after another, each of which is taken, and how far that is.
use Rattle.std.specs.Prelude.{◌≡◌, ◌∷◌, ◌+◌, ◌-◌, ℕ, List, Option, Some, None, slice_range}
use Rattle.facet_format.specs.Event.{ContainerKind, Event, Scalar, borrowed, owned, field_key, scalar}
use Rattle.facet_format.specs.Event as event
use Rattle.facet_format.specs.Span.{Span, span_at, stop}
use Rattle.facet_json_token.specs.Decoded.{decoded}
use Rattle.facet_json_token.specs.Gap.{plain}
use Rattle.facet_json_grammar.specs.Language.{Language, lenient}
use Rattle.facet_json_reader.specs.declared.in_sight.Front.{Front}
use Rattle.facet_json_reader.specs.declared.reader.Reader.{Reader}
use Rattle.facet_json_reader.specs.declared.reader.Stage.TheVariants as stages
use Rattle.facet_json_reader.specs.PlaceViews.{place_of}
use Rattle.facet_json_reader.specs.Inner.Quick.{Reaches, PassesQuickly}
use Rattle.facet_json_reader.specs.Values.{IsAllowedThere}

-- What takes events took none: it was not told of one, or of one that it does not take.
pub data Stays {T : Type 0} (takes : Option Event → T → T → Type 0) (x : T) : T → Type 0 where
  not_told : Stays takes x x
  not_taken : (y : T) → takes None x y → Stays takes x y

-- Some events came where the reader stood, each was passed at once and taken, and the reader stands after them.
pub data PassesSeveral {T : Type 0} (takes : Option Event → T → T → Type 0) (buffer : List ℕ) (language : Language) (r : Reader) (x : T) :
    Reader → T → Type 0 where
  none_more : PassesSeveral takes buffer language r x r x
  one_more : (s t : Reader) (y z : T) (e : Event) → PassesSeveral takes buffer language r x s y → PassesQuickly buffer language s e t →
      takes (Some e) y z → PassesSeveral takes buffer language r x t z
  none_taken : (s : Reader) (y z : T) → PassesSeveral takes buffer language r x s y → Stays takes y z → PassesSeveral takes buffer language r x s z

-- the reader within these containers
abbrev pub reader_at : List ContainerKind → Front → Reader
reader_at stack f = record { last = f.last; contexts = stack; stage = f.stage }

-- Within these containers it is before the next token.
abbrev pub IsFront : List ℕ → Language → List ContainerKind → Front → Type 0
IsFront buffer language stack f = Reaches buffer language (reader_at stack f) (place_of f.place) f.at

-- It is as far as this reader, in the lenient language without comments.
pub record IsFrontOf (buffer : List ℕ) (language : Language) (r : Reader) (f : Front) : Type 0 where
  pub spoken : language ≡ lenient plain
  pub there : reader_at r.contexts f ≡ r
  pub front : IsFront buffer language r.contexts f

-- One event is consumed within the same containers.
pub record PassesAt (buffer : List ℕ) (language : Language) (stack : List ContainerKind) (f : Front) (e : Event) (g : Front) : Type 0 where
  pub one : PassesQuickly buffer language (reader_at stack f) e (reader_at stack g)
  pub front : IsFront buffer language stack g

-- A key of this name is.
abbrev pub PassesKeyAt : List ℕ → Language → List ContainerKind → Front → List ℕ → Front → Type 0
PassesKeyAt buffer language stack f name g =
    (span : Span) × PassesAt buffer language stack f (record { kind = field_key (borrowed name); span = span }) g

-- A scalar of so many bytes and this value is.
abbrev pub PassesScalarAt : List ℕ → Language → List ContainerKind → Front → ℕ → Scalar → Front → Type 0
PassesScalarAt buffer language stack f len value g = PassesAt buffer language stack f (record { kind = scalar value; span = span_at f.at len }) g

-- A scalar of so many bytes stands there, and is taken.
pub record TakesScalar {T : Type 0} (takes : Option Event → T → T → Type 0) (buffer : List ℕ) (language : Language) (at len : ℕ) (x y : T) : Type 0 where
  pub is : IsAllowedThere language buffer at len
  pub taken : takes (Some (record { kind = scalar is.value; span = span_at at len })) x y

-- The text is taken that is made of the content of a string, which stands between its quotes.
pub record TakesText {T : Type 0} (takes : Option Event → T → T → Type 0) (buffer : List ℕ) (span : Span) (x y : T) : Type 0 where
  pub text : List ℕ
  pub means : decoded (slice_range buffer (span.offset + 1) (stop span - 1)) ≡ Some text
  pub taken : takes (Some (record { kind = scalar (event.text (owned text)); span = span })) x y

-- One event is consumed and taken, before it within these containers and after it within those.
pub record PassesOver {T : Type 0} (takes : Option Event → T → T → Type 0) (buffer : List ℕ) (language : Language) (before : List ContainerKind)
    (f : Front) (x : T) (after : List ContainerKind) (g : Front) (y : T) : Type 0 where
  pub event : Event
  pub one : PassesQuickly buffer language (reader_at before f) event (reader_at after g)
  pub taken : takes (Some event) x y
  pub front : IsFront buffer language after g

-- A bracket, or a text with an escape, is consumed and taken. After the root's end no token is looked for.
pub record PassesBracket {T : Type 0} (takes : Option Event → T → T → Type 0) (buffer : List ℕ) (language : Language) (before : List ContainerKind)
    (f : Front) (x : T) (after : List ContainerKind) (g : Front) (y : T) : Type 0 where
  pub event : Event
  pub one : PassesQuickly buffer language (reader_at before f) event (reader_at after g)
  pub taken : takes (Some event) x y
  pub front : (g.stage ≡ stages.Over → ⊥) → IsFront buffer language after g

-- Some events are consumed within the same containers.
pub record GoesFar {T : Type 0} (takes : Option Event → T → T → Type 0) (buffer : List ℕ) (language : Language) (stack : List ContainerKind)
    (f : Front) (x : T) (g : Front) (y : T) : Type 0 where
  pub several : PassesSeveral takes buffer language (reader_at stack f) x (reader_at stack g) y
  pub front : IsFront buffer language stack g

-- So they are wherever the innermost container is of this kind.
abbrev pub GoesFarIn : {T : Type 0} → (Option Event → T → T → Type 0) → List ℕ → Language → ContainerKind → Front → T → Front → T → Type 0
GoesFarIn takes buffer language kind f x g y =
    (others : List ContainerKind) → IsFront buffer language (kind ∷ others) f → GoesFar takes buffer language (kind ∷ others) f x g y
