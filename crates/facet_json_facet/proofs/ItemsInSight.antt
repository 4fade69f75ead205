-- Items that were read in sight belong to the list.
use Rattle.std.proofs.Common.{◌≡◌, ◌<◌, ◌≤◌, arith, length, ℕ, List, [], ◌∷◌, ◌++◌, sym, ap, subst}
use Rattle.facet_format.specs.Event.{ContainerKind, Scalar, array}
use Rattle.facet_json_token.specs.Gap.{plain}
use Rattle.facet_json_grammar.specs.Future.{after_value, within}
use Rattle.facet_json_grammar.specs.Language.{lenient}
use Rattle.facet_json_grammar.specs.Now.{Now, ahead}
use Rattle.facet_json_grammar.specs.Place.{after_item}
use Rattle.facet_json_reader.specs.declared.in_sight.Front.{Front}
use Rattle.facet_json_reader.specs.Inner.InSight.{IsFront, PassesScalarAt}
use Rattle.facet_json_parser.specs.Inner.Sight.{standing, StandsThere}
use Rattle.facet_json_core.specs.Meaning.Scalars.{IsSeen}
use Rattle.facet_json_core.proofs.SeenValues.{read-far}
use Rattle.facet_json_core.specs.Meaning.Nodes.{KeepsOn}
use Rattle.facet_json_core.specs.Meaning.OneValue.{IsInside}
use Rattle.facet_json_core.specs.Meaning.Shapes.{Reading}
use Rattle.facet_json_core.proofs.Meaning.Keeping.{keeps-then}
use Rattle.facet_json_core.proofs.Meaning.OneValue.WithinValues.{inside-value}
use Rattle.facet_json_core.proofs.Meaning.Sequences.ListSteps.{ReadSoFar, list-goes_past, list-more}
use Rattle.facet_json_core.proofs.Meaning.Walks.NextOnWalk.{goes-keeps}
use Rattle.facet_json_facet.specs.Inner.ItemsInSight.{ReadsItem, ReadsItems, none_read, one_read}

module _ {V : Type 0} (reading : Reading V) (start : Now) where
  -- A list of which so much is read, and within which the parser stands.
  pub record IsListUnderWay (vs : List V) (now : Now) : Type 0 where
    pub so_far : ReadSoFar reading start vs now
    pub keeps : KeepsOn start now
    pub falls : ahead now < ahead start
    pub inside : IsInside array start now

  pub items-more : (old : Now) (vs : List V) (new : Now) (ws : List V) → IsListUnderWay vs old → ReadsItems reading old vs new ws →
      IsListUnderWay ws new
  items-more old vs _ _ way none_read = way
  items-more old vs _ _ way (one_read now new ws v items one) =
      let before = items-more old vs now ws way items in
      let keeps = goes-keeps now new one.onward in
      record {
        so_far = list-more reading start now new ws v (list-goes_past reading start now new ws before.so_far one.item) one.read;
        keeps = keeps-then start now new before.keeps keeps;
        falls = omega (arith, before.falls, one.onward.onward);
        inside = inside-value array start now new before.inside keeps.input one.value;
      }

  -- No more bytes are ahead of them.
  pub items-onward : (old : Now) (vs : List V) (new : Now) (ws : List V) → ReadsItems reading old vs new ws → ahead new ≤ ahead old
  items-onward old vs _ _ none_read = omega arith
  items-onward old vs _ _ (one_read now new ws v items one) = omega (arith, items-onward old vs now ws items, one.onward.onward)

module _ {V : Type 0} (reading : Reading V) (start : Now) (vs : List V) where
  -- Some items were read, and the parser is as far as this.
  pub record ItemsFar (at : Front) (ws : List V) : Type 0 where
    pub reads : ReadsItems reading start vs (standing start at) ws
    pub stands : StandsThere (standing start at) at

  pub items-begin : (from : Front) → StandsThere start from → ItemsFar from vs
  items-begin from there = record {
    reads = subst (λ now. ReadsItems reading start vs now vs) (sym there.there) none_read;
    stands = subst (λ now. StandsThere now from) (sym there.there) there;
  }

  abbrev PassesScalarIn : List ℕ → Front → ℕ → Scalar → Front → Type 0
  PassesScalarIn input at len scalar next = (stack : List ContainerKind) → after_value stack ≡ within after_item →
      IsFront input (lenient plain) stack at → PassesScalarAt input (lenient plain) stack at len scalar next

  item-at : (others : List ContainerKind) (at next : Front) (ws : List V) (v : V) (len : ℕ) → start.cursor.spot.place.stack ≡ array ∷ others →
      ItemsFar at ws → (seen : IsSeen reading start.buffer at.at len v) → PassesScalarIn start.buffer at len seen.there.value next →
      ItemsFar next (ws ++ v ∷ [])
  item-at others at next ws v len inside far seen passes =
      let now = standing start at in
      let passed = passes start.cursor.spot.place.stack (ap after_value inside) far.stands.front in
      let read = read-far now at next far.stands reading v len seen passed in
      let one : ReadsItem reading now v (standing start next) =
      record { item = read.item; read = read.read; value = read.one_value; onward = read.onward } in
      record { reads = one_read now (standing start next) ws v far.reads one; stands = read.stands }

  -- An item was read.
  pub item-far : (input : List ℕ) (others : List ContainerKind) (at next : Front) (ws : List V) (v : V) (len : ℕ) → input ≡ start.buffer →
      start.cursor.spot.place.stack ≡ array ∷ others → ItemsFar at ws → (seen : IsSeen reading input at.at len v) →
      PassesScalarIn input at len seen.there.value next → ItemsFar next (ws ++ v ∷ [])
  item-far input others at next ws v len buffer inside far =
      subst (λ b. (seen : IsSeen reading b at.at len v) → PassesScalarIn b at len seen.there.value next → ItemsFar next (ws ++ v ∷ [])) (sym buffer)
      (item-at others at next ws v len inside far)
