-- Each item in sight belongs to the list.
use Rattle.std.proofs.Common.{◌≡◌, cond, [], ◌∷◌, ◌++◌, map, refl, ap, ◌∙◌, sym, subst, arith}
use Rattle.std.proofs.lemmas.List.{map-append}
use Rattle.std.proofs.lemmas.List.Elements.{All-push, All-same}
use Rattle.facet_json_reader.proofs.Fronts.{scalar-fits}
use Rattle.facet_json_facet.specs.Inner.ItemsInSight.{none_read}
use Rattle.facet_json_core.proofs.SeenValues.{front-within}
use Rattle.facet_json_facet.proofs.ItemsInSight.{ItemsFar, items-begin, item-far}
use Rattle.facet_json_facet.proofs.lists.items_in_sight.Goals as goal

pub returns-in_default-clause-read : goal.returns-in_default-clause-read
returns-in_default-clause-read g c = λ others inside. none_read

pub loop-input-init : goal.loop-input-init
loop-input-init g c =
    let reading = cond c.args.borrows g.T.Facet.shape.reading_borrowed g.T.Facet.shape.reading in
    let there = c.in-Some.ensures.there in
    record {
      far = λ others inside. items-begin reading c.args.parser.now (map g.T.Facet.view c.args.items.now.items) c.in-Some.from there;
      within = front-within c.args.parser.now c.in-Some.from there;
      owned = λ lent owned. owned;
    }

pub behind_item-at-requires : goal.behind_item-at-requires
behind_item-at-requires g c =
    let there = c.in-Some-in_sight.ensures.seen.there in
    record { within = (scalar-fits c.in-Some.input.now c.loop-input.at.at c.in-Some-in_sight.len there.value there.there).1 }

pub loop-input-smaller : goal.loop-input-smaller
loop-input-smaller g c =
    let there = c.in-Some-in_sight.ensures.seen.there in
    let fits = scalar-fits c.in-Some.input.now c.loop-input.at.at c.in-Some-in_sight.len there.value there.there in
    omega (arith, fits.0, fits.1, c.behind_item-at.ensures.onward)

pub loop-input-preserved : goal.loop-input-preserved
loop-input-preserved g c =
    let reading = cond c.args.borrows g.T.Facet.shape.reading_borrowed g.T.Facet.shape.reading in
    let view = g.T.Facet.view in
    let i = c.loop-input.invariant in
    let start = c.args.parser.now in
    let before = map view c.args.items.now.items in
    let item = c.in-Some-in_sight.item in
    let seen = c.in-Some-in_sight.ensures.seen in
    let may = c.is_item.ensures c.loop-input-test.true in
    let are : map view c.push.new.self.items ≡ map view c.loop-input.items.items ++ view item ∷ [] =
    ap (map view) c.in-Ok.ensures.items ∙ map-append view c.loop-input.items.items (item ∷ []) in
    record {
      far = λ others inside.
          subst (ItemsFar reading start before c.behind_item-at.result) (sym are)
          (item-far reading start before c.in-Some.input.now others c.loop-input.at c.behind_item-at.result (map view c.loop-input.items.items) (view item)
          c.in-Some-in_sight.len c.in-Some.ensures.input inside (i.far others inside) seen
          (λ stack after reached. c.behind_item-at.ensures.over stack seen.there.value may after reached (seen.there, refl)));
      within = rw (← c.in-Some.ensures.input) c.behind_item-at.ensures.within;
      owned = λ lent owned.
          All-same g.T.Facet.owned _ _ c.in-Ok.ensures.items
          (All-push g.T.Facet.owned c.loop-input.items.items item (i.owned lent owned) (c.in-Some-in_sight.ensures.owned lent));
    }
