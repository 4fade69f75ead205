-- What a place says of a token, by its sort.
use Rattle.std.proofs.Common.{◌≡◌, ℕ, Bool, Option, Some, None, refl, sym, ◌∙◌}
use Rattle.facet_json_token.specs.Token.{Kind, string}
use Rattle.facet_json_token.specs.Token as token
use Rattle.facet_format.specs.declared.event.ContainerKind.{ContainerKind as RustContainerKind}
use Rattle.facet_format.specs.declared.event.ContainerKind.TheVariants as containers
use Rattle.facet_json_grammar.specs.Place.{says, says_scalar, place_turn}
use Rattle.facet_json_reader.specs.declared.place.Place.{Place as RustPlace}
use Rattle.facet_json_reader.specs.declared.place.Place.TheVariants as places
use Rattle.facet_json_reader.specs.declared.place.Sort.TheVariants as sorts
use Rattle.facet_json_reader.specs.declared.place.Turn.{Turn as RustTurn}
use Rattle.facet_json_reader.specs.PlaceViews.{place_of, turn_of, turn_by, closing_event, closing_token}
use Rattle.facet_json_reader.specs.Inner.Sorts.{kind_by, sort_by}
use Rattle.facet_json_reader.specs.Inner.Quick.{MayBeValue}

-- A place says the same of each token of a sort.
pub sort-turn : (p : RustPlace) (k : Option Kind) → turn_by (place_of p) (kind_by (sort_by k)) ≡ turn_by (place_of p) k
sort-turn p None = refl
sort-turn p (Some token.object_start) = refl
sort-turn p (Some token.object_end) = refl
sort-turn p (Some token.array_start) = refl
sort-turn p (Some token.array_end) = refl
sort-turn p (Some token.comma) = refl
sort-turn p (Some token.null) = refl
sort-turn places.Root (Some token.colon) = refl
sort-turn _ (Some token.colon) = refl
sort-turn places.Root (Some token.true_literal) = refl
sort-turn _ (Some token.true_literal) = refl
sort-turn places.Root (Some token.false_literal) = refl
sort-turn _ (Some token.false_literal) = refl
sort-turn places.Root (Some (token.string start finish mark)) = refl
sort-turn _ (Some (token.string start finish mark)) = refl
sort-turn places.Root (Some (token.number start finish hint)) = refl
sort-turn _ (Some (token.number start finish hint)) = refl

-- What a place says of texts, it says of each string.
pub text-turn : (p : RustPlace) (way : RustTurn) (start finish : ℕ) (mark : Bool) → turn_of way ≡ turn_by (place_of p) (kind_by sorts.Text) →
    place_turn (place_of p) (string start finish mark) ≡ turn_of way
text-turn p way start finish mark e = sym (e ∙ sort-turn p (Some (string start finish mark)))

-- Where a literal is a scalar, a value may stand.
pub scalar-may_be : (p : RustPlace) → says_scalar ≡ turn_by (place_of p) (kind_by sorts.Scalar) → MayBeValue (place_of p)
scalar-may_be places.Root e = tt
scalar-may_be places.AfterColon e = tt
scalar-may_be places.BeforeItem e = tt
scalar-may_be places.NextItem e = tt
scalar-may_be _ e = cc

-- Where a text is a scalar, a value may stand.
pub text-may_be : (p : RustPlace) → says_scalar ≡ turn_by (place_of p) (kind_by sorts.Text) → MayBeValue (place_of p)
text-may_be places.Root e = tt
text-may_be places.AfterColon e = tt
text-may_be places.BeforeItem e = tt
text-may_be places.NextItem e = tt
text-may_be _ e = cc

-- A bracket closes a container of its own kind.
pub closes-own : (p : RustPlace) (kind closed : RustContainerKind) → says (closing_event closed) ≡ place_turn (place_of p) (closing_token kind) →
    place_turn (place_of p) (closing_token kind) ≡ says (closing_event kind)
closes-own places.BeforeKey containers.Object closed e = refl
closes-own places.AfterMember containers.Object closed e = refl
closes-own places.BeforeItem containers.Array closed e = refl
closes-own places.AfterItem containers.Array closed e = refl
closes-own _ containers.Object closed e = cc
closes-own _ containers.Array closed e = cc
