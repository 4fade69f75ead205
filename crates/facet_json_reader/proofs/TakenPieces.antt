-- What the bytes of an event in sight tell whoever takes it.
use Rattle.std.proofs.Common.{◌≡◌, ℕ, ◌+◌, ◌-◌, ◌≤◌, ◌<◌, false, List, Option, Some, length, take, drop, slice_get, slice_range, refl, sym, ap, ◌∙◌, arith}
use Rattle.std.specs.Prelude.{IfSome, IsUtf8}
use Rattle.std.specs.Option.{option_map}
use Rattle.std.proofs.lemmas.List.{take-take, length-take-le, length-drop}
use Rattle.facet_format.specs.Event.{Event, EventKind, Scalar, borrowed, scalar, text}
use Rattle.facet_format.specs.Number.{Hint}
use Rattle.facet_format.specs.NumberValue.{Number, number}
use Rattle.facet_format.specs.Span.{span_at}
use Rattle.facet_json_token.specs.Cut.{opens_number, start_of}
use Rattle.facet_json_token.specs.Token as token
use Rattle.facet_json_token.proofs.DecodeSteps.{range-drop}
use Rattle.facet_json_token.proofs.PlainText.{decoded-plain}
use Rattle.facet_json_grammar.specs.Language.{Language}
use Rattle.facet_json_grammar.specs.Meaning.{tree_of_number, meaning_of}
use Rattle.facet_json_grammar.specs.Tree.{Tree}
use Rattle.facet_json_grammar.specs.Walk.{scalar_by, scalar_of}
use Rattle.facet_json_reader.specs.Inner.InSight.{TakesScalar}
use Rattle.facet_json_reader.specs.PlaceViews.{least_of}
use Rattle.facet_json_reader.specs.declared.takes.Piece.{Piece}
use Rattle.facet_json_reader.specs.Pieces.{quoted, IsQuotedText, IsNumberText, IsPiece}
use Rattle.facet_json_reader.specs.Values.{IsAllowedThere, IsClosedAt, IsPlainText, IsNumberThere}
use Rattle.facet_json_reader.proofs.AllowedTexts.{unescaped-allowed}
use Rattle.facet_json_reader.proofs.QuickEvents.{number-kind}
use Rattle.facet_json_reader.proofs.ValuesThere.{text-there, text_there-kind}

-- ---- texts

-- A string that is closed without an escape, and is UTF-8, is its own text.
pub closed-text : (least : ℕ) (buffer : List ℕ) (at finish : ℕ) → IsClosedAt least buffer at finish → IsUtf8 (slice_range buffer (at + 1) finish) →
    IsPlainText buffer at finish (slice_range buffer (at + 1) finish)
closed-text least buffer at finish closed utf8 =
    record { cut = closed.cut; means = decoded-plain (slice_range buffer (at + 1) finish) closed.plain utf8 }

module _ (buffer : List ℕ) (at finish : ℕ) (ordered : at < finish) (within : finish < length buffer) where
  -- the token with both quotes
  abbrev whole : List ℕ
  whole = slice_range buffer at (at + ((finish + 1) - at))

  whole-ends : whole ≡ slice_range buffer at (finish + 1)
  whole-ends = let end : at + ((finish + 1) - at) ≡ finish + 1 = omega (arith, ordered) in ap (slice_range buffer at) end

  whole-long : length whole ≡ (finish + 1) - at
  whole-long =
      let fits : (finish + 1) - at ≤ length (drop at buffer) = omega (arith, ordered, within, length-drop at buffer) in
      ap length whole-ends ∙ length-take-le ((finish + 1) - at) (drop at buffer) fits

  -- Between its quotes stands its text.
  pub whole-quoted : quoted whole ≡ slice_range buffer (at + 1) finish
  whole-quoted =
      let inner : (length whole - 1) - 1 ≡ finish - (at + 1) = omega (arith, ordered, whole-long) in
      let fewer : finish - (at + 1) ≤ (finish + 1) - (at + 1) = omega (arith, ordered) in
      ap (λ n. take n (drop 1 whole)) inner
      ∙ ap (λ (l : List ℕ). take (finish - (at + 1)) l) (ap (drop 1) whole-ends ∙ range-drop buffer 1 at (finish + 1) (omega (arith, ordered)))
      ∙ take-take (finish - (at + 1)) ((finish + 1) - (at + 1)) (drop (at + 1) buffer) fewer

pub closed-quoted : (least : ℕ) (buffer : List ℕ) (at finish : ℕ) → IsClosedAt least buffer at finish → IsUtf8 (slice_range buffer (at + 1) finish) →
    IsQuotedText (slice_range buffer at (at + ((finish + 1) - at)))
closed-quoted least buffer at finish closed utf8 =
    let inner = whole-quoted buffer at finish closed.ordered closed.within in
    record {
      long = omega (arith, closed.ordered, whole-long buffer at finish closed.ordered closed.within);
      utf8 = rw inner utf8;
      plain = rw inner closed.plain;
    }

-- A text without an escape may stand as a scalar.
pub closed-allowed : (language : Language) (buffer : List ℕ) (at finish : ℕ) → IsClosedAt (least_of language) buffer at finish →
    IsUtf8 (slice_range buffer (at + 1) finish) →
    (is : IsAllowedThere language buffer at ((finish + 1) - at)) × (is.value ≡ text (borrowed (slice_range buffer (at + 1) finish)))
closed-allowed language buffer at finish closed utf8 =
    let bytes = slice_range buffer (at + 1) finish in
    let plain = closed-text (least_of language) buffer at finish closed utf8 in
    let is = text_there-kind buffer at finish bytes plain in (
      record {
        value = text (borrowed bytes);
        there = text-there buffer at finish bytes plain;
        allowed = rw is (unescaped-allowed language buffer (at + 1) finish closed.unescaped _ false);
      },
      refl,
    )

-- ---- numbers

-- Of a number the kind of its token tells nothing more.
number-scalar : (hint : Hint) (start finish long : ℕ) (o : Option Number) (meant : Tree) (value : Scalar) →
    option_map tree_of_number o ≡ Some meant → value ≡ scalar_of (token.number start finish hint) (Some meant) →
    (n : Number) × (o ≡ Some n) × (value ≡ scalar_by (token.number 0 long hint) (tree_of_number n))
number-scalar hint start finish long Option.None meant value means read = cc
number-scalar hint start finish long (Some n) meant value means read =
    let same : tree_of_number n ≡ meant = cc in
    (n, refl, read ∙ ap (scalar_by (token.number start finish hint)) (sym same) ∙ by n)
  where
    by : (n : Number) → scalar_by (token.number start finish hint) (tree_of_number n) ≡ scalar_by (token.number 0 long hint) (tree_of_number n)
    by (Number.u64 m) = refl
    by (Number.u128 m) = refl
    by (Number.i64 m) = refl
    by (Number.i128 m) = refl
    by (Number.decimal digits) = refl

pub number-text : (language : Language) (buffer : List ℕ) (at len first : ℕ) (is : IsNumberThere language buffer at len) → slice_get buffer at ≡ Some first →
    start_of first ≡ opens_number → IsNumberText (slice_range buffer at (at + len)) is.scalar.value
number-text language buffer at len first is here begins =
    let there = is.scalar.there in
    let bytes = slice_range buffer at (at + len) in
    let kind = number-kind buffer at len first is.scalar.value there here begins in
    let means : meaning_of buffer (token.number at (at + len) kind.0) ≡ Some there.meant = ap (meaning_of buffer) (sym kind.1) ∙ there.means in
    let read = there.read ∙ ap (λ k. scalar_of k (Some there.meant)) kind.1 in
    let has = number-scalar kind.0 at (at + len) (length bytes) (number bytes kind.0) there.meant is.scalar.value means read in
    record { hint = kind.0; read = has.0; means = has.1; is = has.2; short = is.short }

-- ---- what is told

-- A scalar is taken by what its bytes tell.
pub told-taken : {T : Type 0} (takes : Option Event → T → T → Type 0) (buffer : List ℕ) (language : Language) (at len : ℕ) (x y : T) (piece : Piece)
    (told : Option ℕ) (is : IsAllowedThere language buffer at len) → IfSome told (λ n. n ≡ len) →
    IfSome told (λ _. (kind : EventKind) → IsPiece (slice_range buffer at (at + len)) piece kind → takes (Some (record { kind = kind; span = span_at at len })) x y) →
    IsPiece (slice_range buffer at (at + len)) piece (scalar is.value) → IfSome told (λ n. TakesScalar takes buffer language at n x y)
told-taken takes buffer language at len x y piece Option.None is long taken tells = tt
told-taken takes buffer language at len x y piece (Some n) is long taken tells = rw long (record { is = is; taken = taken (scalar is.value) tells })
