-- Members that are read in sight, and that they belong to the object.
use Rattle.std.proofs.Common.{◌≡◌, ◌≤◌, arith, ℕ, List, ◌∷◌, sym, ap, subst}
use Rattle.facet_format.specs.Event.{ContainerKind, Scalar, object}
use Rattle.facet_json_token.specs.Gap.{plain}
use Rattle.facet_json_grammar.specs.Future.{after_value, within}
use Rattle.facet_json_grammar.specs.Language.{lenient}
use Rattle.facet_json_grammar.specs.Now.{Now, ahead}
use Rattle.facet_json_grammar.specs.Place.{after_member}
use Rattle.facet_json_reader.specs.declared.in_sight.Front.{Front}
use Rattle.facet_json_reader.specs.Inner.InSight.{IsFront, PassesScalarAt}
use Rattle.facet_json_parser.specs.Inner.Sight.{standing, StandsThere}
use Rattle.facet_json_core.specs.Meaning.Scalars.{IsSeen}
use Rattle.facet_json_core.proofs.Meaning.OneValue.WithinValues.{inside-value}
use Rattle.facet_json_core.proofs.Meaning.Walks.NextOnWalk.{goes-keeps}
use Rattle.facet_json_core.proofs.OthersInSight.{NamedFar}
use Rattle.facet_json_core.proofs.SeenValues.{read-far}
use Rattle.facet_json.specs.Fields.{Reading, Table}
use Rattle.facet_json.specs.Inner.MembersInSight.{PutsMember, PutsMembers, none_put, one_put}
use Rattle.facet_json.proofs.FieldSteps.{IsUnderWay, way-goes_on}

module _ {V : Type 0} (t : Table V) (names : List (List ℕ)) (start : Now) where
  -- What is known of the fields after them is known of the object's.
  pub members-more : (old : Now) (seen : t.Seen) (new : Now) (more : t.Seen) → IsUnderWay t names start seen old →
      PutsMembers (t.step names) old seen new more → IsUnderWay t names start more new
  members-more old seen _ _ way none_put = way
  members-more old seen _ _ way (one_put now new between more members one) =
      let before = members-more old seen now between way members in
      let inside = inside-value object start one.mid new (one.key.inside.0 start before.inside) one.onward.input one.value in
      way-goes_on t names start now one.mid new between more one.name before one.key.key one.key.onward one.read (goes-keeps one.mid new one.onward) inside

  -- No more bytes are ahead of them.
  pub members-onward : (old : Now) (seen : t.Seen) (new : Now) (more : t.Seen) → PutsMembers (t.step names) old seen new more → ahead new ≤ ahead old
  members-onward old seen _ _ none_put = omega arith
  members-onward old seen _ _ (one_put now new between more members one) =
      omega (arith, members-onward old seen now between members, one.key.shorter, one.onward.onward)

module _ {S : Type 0} (step : List ℕ → S → Reading S) (start : Now) (s : S) where
  -- Some members were read, and the parser is as far as this.
  pub record MembersFar (at : Front) (t : S) : Type 0 where
    pub puts : PutsMembers step start s (standing start at) t
    pub stands : StandsThere (standing start at) at

  pub members-begin : (from : Front) → StandsThere start from → MembersFar from s
  members-begin from there = record {
    puts = subst (λ now. PutsMembers step start s now s) (sym there.there) none_put;
    stands = subst (λ now. StandsThere now from) (sym there.there) there;
  }

  abbrev PassesScalarIn : List ℕ → Front → ℕ → Scalar → Front → Type 0
  PassesScalarIn input value len scalar next = (stack : List ContainerKind) → after_value stack ≡ within after_member →
      IsFront input (lenient plain) stack value → PassesScalarAt input (lenient plain) stack value len scalar next

  member-at : (others : List ContainerKind) (at value next : Front) (t u : S) (name : List ℕ) (len : ℕ) →
      start.cursor.spot.place.stack ≡ object ∷ others → MembersFar at t → NamedFar start at name value →
      (seen : IsSeen (step name t) start.buffer value.at len u) → PassesScalarIn start.buffer value len seen.there.value next → MembersFar next u
  member-at others at value next t u name len inside far named seen passes =
      let now = standing start value in
      let passed = passes start.cursor.spot.place.stack (ap after_value inside) named.stands.front in
      let read = read-far now value next named.stands (step name t) u len seen passed in
      let one : PutsMember step (standing start at) t (standing start next) u = record {
        name = name;
        mid = now;
        key = named.named;
        read = read.read;
        value = read.one_value;
        onward = read.onward;
      } in
      record { puts = one_put (standing start at) (standing start next) t u far.puts one; stands = read.stands }

  -- Its value was read.
  pub member-far : (input : List ℕ) (others : List ContainerKind) (at value next : Front) (t u : S) (name : List ℕ) (len : ℕ) → input ≡ start.buffer →
      start.cursor.spot.place.stack ≡ object ∷ others → MembersFar at t → NamedFar start at name value →
      (seen : IsSeen (step name t) input value.at len u) → PassesScalarIn input value len seen.there.value next → MembersFar next u
  member-far input others at value next t u name len buffer inside far named =
      subst (λ b. (seen : IsSeen (step name t) b value.at len u) → PassesScalarIn b value len seen.there.value next → MembersFar next u) (sym buffer)
      (member-at others at value next t u name len inside far named)
