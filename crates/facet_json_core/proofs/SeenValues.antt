-- Keys and scalars that are consumed in sight, as the parser passes them.
use Rattle.std.proofs.Common.{◌≡◌, ◌≤◌, ◌<◌, ℕ, List, Some, length, refl, sym, subst}
use Rattle.std.specs.Prelude.{Option, None, Result, Ok, Err, IfOk, IfErr, OnOk}
use Rattle.std.specs.declared.borrow.CowStr.{CowStr}
use Rattle.std.specs.Option.{option_map}
use Rattle.facet_format.specs.declared.error.DeserializeError.{DeserializeError}
use Rattle.facet_format.specs.Event.{Event, borrowed, bytes_of, field_key, scalar}
use Rattle.facet_format.specs.HeldText.{text_of}
use Rattle.facet_format.specs.Span.{span_at, stop}
use Rattle.facet_format.specs.Views.{refusal_of, span_of}
use Rattle.facet_json_token.specs.Gap.{plain}
use Rattle.facet_json_grammar.specs.Language.{lenient}
use Rattle.facet_json_grammar.specs.Now.{Now, ahead, GoesOn}
use Rattle.facet_json_reader.specs.declared.in_sight.Front.{Front}
use Rattle.facet_json_reader.specs.Inner.InSight.{PassesAt, PassesKeyAt, PassesScalarAt}
use Rattle.facet_json_parser.specs.Inner.Sight.{standing, StandsThere}
use Rattle.facet_json_parser.proofs.Fronts.{front-passes}
use Rattle.facet_json_core.specs.Finding.{PassesNextKey}
use Rattle.facet_json_core.specs.Named.{PassesNamed, PassesNameOrEnd, NamesNext}
use Rattle.facet_json_core.specs.Refusing.{TellsRefusal}
use Rattle.facet_json_core.specs.Meaning.Objects.{PassesKey, LacksKey}
use Rattle.facet_json_core.specs.Meaning.OneValue.{PassesMemberOrEnd, PassesValue}
use Rattle.facet_json_core.specs.Meaning.Reading.{IsRead}
use Rattle.facet_json_core.specs.Meaning.Scalars.{IsSeen}
use Rattle.facet_json_core.specs.Meaning.Shapes.{Reading}
use Rattle.facet_json_core.specs.Meaning.Taking.{TakesNext, PassesItem}
use Rattle.facet_json_core.proofs.Meaning.Leaves.ScalarReadings.{scalar-read}
use Rattle.facet_json_core.proofs.TakenNext.{wanted-takes}

-- As far as a parser is, it is within its input.
pub front-within : (now : Now) (at : Front) → StandsThere now at → stop (span_of at.last) ≤ length now.buffer
front-within now at there = subst (λ (x : Now). stop x.cursor.spot.place.last ≤ length now.buffer) (sym there.there) there.within.reader

-- What `next_name` says, whatever it answers.
pub names-next : {A : Type 0} (old new : Now) (r : Result (Option (CowStr A)) DeserializeError) →
    IfOk r (λ name. PassesKey old (option_map (λ s. bytes_of (text_of s)) name) new) →
    IfOk r (λ name. PassesNextKey old (option_map (λ s. bytes_of (text_of s)) name) new) → IfOk r (λ name. PassesMemberOrEnd old name new) → GoesOn old new →
    OnOk r (ahead new < ahead old) → OnOk r (new.cursor.refusal ≡ None) → IfErr r (λ e. LacksKey old (refusal_of e)) →
    IfErr r (λ e. TellsRefusal old new (refusal_of e)) → NamesNext old r new
names-next old new (Ok name) passes next member onward shorter free lacks tells =
    record { passes = passes; next = next; member = member; onward = onward; shorter = shorter; free = free }
names-next old new (Err e) passes next member onward shorter free lacks tells = record { lacks = lacks; tells = tells; onward = onward }

-- As `next_name`, where a key in sight is passed.
pub named-next : {A : Type 0} (old new : Now) (name : List ℕ) (key : CowStr A) → bytes_of (text_of key) ≡ name → PassesNamed old name new →
    PassesNameOrEnd old (Some key) new
named-next old new name key is named = record {
  passes = rw is named.key;
  next = rw is named.next;
  member = named.inside;
  onward = named.onward;
  shorter = named.shorter;
  free = named.free;
}

module _ (now : Now) (from to : Front) (here : StandsThere now from) where
  record TakesFar (e : Event) : Type 0 where
    takes : TakesNext now e (standing now to)
    stands : StandsThere (standing now to) to

  takes-far : (e : Event) → PassesAt now.buffer (lenient plain) now.cursor.spot.place.stack from e to → TakesFar e
  takes-far e at =
      let far = front-passes now from to e here at in
      record { takes = wanted-takes (λ (_ : Unit {0}). e) now (standing now to) (Some tt) far.passes; stands = far.stands }

  -- A key is passed, and the parser is as far as that.
  pub record KeyFar (name : List ℕ) : Type 0 where
    pub named : PassesNamed now name (standing now to)
    pub stands : StandsThere (standing now to) to

  pub key-far : (name : List ℕ) → PassesKeyAt now.buffer (lenient plain) now.cursor.spot.place.stack from name to → KeyFar name
  key-far name at =
      let far = takes-far (record { kind = field_key (borrowed name); span = at.0 }) at.1 in
      record {
        named = record {
          key = (_, refl, far.takes.walks);
          next = (_, refl, far.takes.passed);
          inside = far.takes.by_kind;
          onward = far.takes.onward;
          shorter = far.takes.shorter;
          free = far.stands.free;
        };
        stands = far.stands;
      }

  -- A value is passed and read, and the parser is as far as that.
  pub record ReadFar {V : Type 0} (reading : Reading V) (v : V) : Type 0 where
    pub read : IsRead reading now v (standing now to)
    pub onward : GoesOn now (standing now to)
    pub shorter : ahead (standing now to) < ahead now
    pub one_value : PassesValue now (standing now to)
    pub item : PassesItem now (standing now to)
    pub stands : StandsThere (standing now to) to

  pub read-far : {V : Type 0} (reading : Reading V) (v : V) (len : ℕ) (seen : IsSeen reading now.buffer from.at len v) →
      PassesScalarAt now.buffer (lenient plain) now.cursor.spot.place.stack from len seen.there.value to → ReadFar reading v
  read-far reading v len seen at =
      let e : Event = record { kind = scalar seen.there.value; span = span_at from.at len } in
      let far = takes-far e at in
      record {
        read = scalar-read reading seen.there.value v now (standing now to) e far.takes.walks refl seen.reads;
        onward = far.takes.onward;
        shorter = far.takes.shorter;
        one_value = far.takes.by_kind;
        item = (e, refl, far.takes.walks);
        stands = far.stands;
      }
