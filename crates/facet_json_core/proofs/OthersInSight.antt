-- Members of other keys that are passed in sight.
use Rattle.std.specs.Prelude.{ℕ, List, ◌∷◌, false}
use Rattle.std.specs.Str.{bytes_eq}
use Rattle.std.proofs.Common.{◌≡◌, refl, sym, ap, subst}
use Rattle.facet_format.specs.Event.{ContainerKind, Scalar, object}
use Rattle.facet_json_token.specs.Gap.{plain}
use Rattle.facet_json_grammar.specs.Future.{after_value, within}
use Rattle.facet_json_grammar.specs.Language.{lenient}
use Rattle.facet_json_grammar.specs.Now.{Now}
use Rattle.facet_json_grammar.specs.Place.{after_member}
use Rattle.facet_json_reader.specs.declared.in_sight.Front.{Front}
use Rattle.facet_json_reader.specs.Inner.InSight.{IsFront, PassesKeyAt, PassesScalarAt}
use Rattle.facet_json_reader.specs.Values.{IsAllowedThere}
use Rattle.facet_json_parser.specs.Inner.Sight.{standing, StandsThere}
use Rattle.facet_json_core.specs.Finding.{IsSearching}
use Rattle.facet_json_core.specs.Named.{PassesNamed}
use Rattle.facet_json_core.specs.Meaning.Passing.{anything}
use Rattle.facet_json_core.specs.Meaning.Scalars.{IsSeen}
use Rattle.facet_json_core.proofs.KeysFound.{other-passed}
use Rattle.facet_json_core.proofs.Meaning.Walks.NextOnWalk.{goes-keeps}
use Rattle.facet_json_core.proofs.SeenValues.{key-far, read-far}

-- Nothing is passed.
pub stays-here : (name : List ℕ) (old : Now) →
    (now : Now) × ((start : Now) → IsSearching name start old → IsSearching name start now) × (now ≡ old)
stays-here name old = (old, λ start s. s, refl)

module _ (start : Now) where
  -- A key was passed.
  pub record NamedFar (at : Front) (name : List ℕ) (value : Front) : Type 0 where
    pub named : PassesNamed (standing start at) name (standing start value)
    pub stands : StandsThere (standing start value) value

  abbrev PassesKeyIn : List ℕ → Front → List ℕ → Front → Type 0
  PassesKeyIn input at name value =
      (stack : List ContainerKind) → IsFront input (lenient plain) stack at → PassesKeyAt input (lenient plain) stack at name value

  pub other-named : (input : List ℕ) (at value : Front) (name : List ℕ) → input ≡ start.buffer → StandsThere (standing start at) at →
      PassesKeyIn input at name value → NamedFar at name value
  other-named input at value name buffer stands passes =
      let now = standing start at in
      let there = subst (λ b. PassesKeyIn b at name value) buffer passes now.cursor.spot.place.stack stands.front in
      let key = key-far now at value stands name there in
      record { named = key.named; stands = key.stands }

  abbrev PassesScalarIn : List ℕ → Front → ℕ → Scalar → Front → Type 0
  PassesScalarIn input value len scalar next = (stack : List ContainerKind) → after_value stack ≡ within after_member →
      IsFront input (lenient plain) stack value → PassesScalarAt input (lenient plain) stack value len scalar next

  -- Its value was passed too.
  pub record OtherFar (name : List ℕ) (at next : Front) : Type 0 where
    pub far : (first : Now) → IsSearching name first (standing start at) → IsSearching name first (standing start next)
    pub stands : StandsThere (standing start next) next

  other-at : (others : List ContainerKind) (name : List ℕ) (at value next : Front) (key : List ℕ) (len : ℕ) →
      start.cursor.spot.place.stack ≡ object ∷ others → NamedFar at key value → (there : IsAllowedThere (lenient plain) start.buffer value.at len) →
      PassesScalarIn start.buffer value len there.value next → bytes_eq key name ≡ false → OtherFar name at next
  other-at others name at value next key len inside named there passes other =
      let now = standing start value in
      let passed = passes start.cursor.spot.place.stack (ap after_value inside) named.stands.front in
      let seen : IsSeen anything start.buffer value.at len tt = record { there = there; reads = λ buffer node one. refl } in
      let read = read-far now value next named.stands anything tt len seen passed in
      record {
        far = λ first searching.
            other-passed name first (standing start at) now (standing start next) key searching named.named.key named.named.next other named.named.inside
            named.named.onward read.read (goes-keeps now (standing start next) read.onward) read.one_value;
        stands = read.stands;
      }

  pub other-far : (input : List ℕ) (others : List ContainerKind) (name : List ℕ) (at value next : Front) (key : List ℕ) (len : ℕ) → input ≡ start.buffer →
      start.cursor.spot.place.stack ≡ object ∷ others → NamedFar at key value → (there : IsAllowedThere (lenient plain) input value.at len) →
      PassesScalarIn input value len there.value next → bytes_eq key name ≡ false → OtherFar name at next
  other-far input others name at value next key len buffer inside named =
      subst (λ b. (there : IsAllowedThere (lenient plain) b value.at len) → PassesScalarIn b value len there.value next → bytes_eq key name ≡ false → OtherFar name at next)
      (sym buffer) (other-at others name at value next key len inside named)
