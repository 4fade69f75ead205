use Rattle.std.proofs.Common.{cond, [], string_bytes, rules}
use Rattle.std.specs.String.{string_cmp}
use Rattle.std.proofs.lemmas.List.Elements.{All-nil, All-same}
use Rattle.std.proofs.lemmas.Option.{MatchOption-at_none}
use Rattle.std.proofs.lemmas.Result.{err_from_is_err_and}
use Rattle.facet_format.specs.Views.{refusal_of}
use Rattle.facet_json_core.proofs.Meaning.Objects.MapEntries.{all-inserted, entries-begin, entry-read}
use Rattle.facet_json_core.proofs.Meaning.Objects.MapReadings.{map-not_begun, map-no_value, map-no_key, map-ends}
use Rattle.facet_json_core.specs.Refusing.{without_memory}
use Rattle.facet_json_core.proofs.Refusing.{comes-then, goes-there, tells-later}
use Rattle.facet_json_core.proofs.Meaning.Refusals.{keeps-there}
use Rattle.facet_json_facet.proofs.maps.map_in.Goals as goal

pub returns-in_err-begin_object-clause-unread : goal.returns-in_err-begin_object-clause-unread
returns-in_err-begin_object-clause-unread g c =
    let p = err_from_is_err_and c.from_residual.result c.from_residual.ensures.1 in
    rw (p.1, p.2) (map-not_begun (cond c.args.borrows g.T.Facet.shape.reading_borrowed g.T.Facet.shape.reading) _ (refusal_of c.in_err-begin_object.field-0.0) c.in_err-begin_object.ensures.unread)

pub loop-map-init : goal.loop-map-init
loop-map-init g c =
    let begun = c.in_ok-begin_object.ensures in
    record {
      way = entries-begin (cond c.args.borrows g.T.Facet.shape.reading_borrowed g.T.Facet.shape.reading) g.T.Facet.view _ _ c.new-map.result.entries begun.begun begun.onward begun.shorter begun.inside c.new-map.ensures.empty;
      owned = λ lent. All-same (λ e. g.T.Facet.owned e.1) _ [] c.new-map.ensures.empty (All-nil (λ e. g.T.Facet.owned e.1));
    }

pub returns-in_err-key-clause-unread : goal.returns-in_err-key-clause-unread
returns-in_err-key-clause-unread g c =
    let p = err_from_is_err_and c.from_residual-in_err-key.result c.from_residual-in_err-key.ensures.1 in
    rw (p.1, p.2) (map-no_key (cond c.args.borrows g.T.Facet.shape.reading_borrowed g.T.Facet.shape.reading) _ _ _ (refusal_of c.in_err-key.field-0.0) c.loop-map.invariant.way.left c.in_err-key.ensures.lacks)

pub returns-in_err-value-clause-unread : goal.returns-in_err-value-clause-unread
returns-in_err-value-clause-unread g c =
    let p = err_from_is_err_and c.from_residual-in_err-value.result c.from_residual-in_err-value.ensures.1 in
    let named = rw c.in-Some.is at c.in_ok-key.ensures.passed in
    rw (p.1, p.2) (map-no_value (cond c.args.borrows g.T.Facet.shape.reading_borrowed g.T.Facet.shape.reading) _ _ _ _ (string_bytes c.in-Some.key) (refusal_of c.in_err-value.field-0.0) c.loop-map.invariant.way.left named c.in_err-value.ensures.unread)

pub loop-map-preserved : goal.loop-map-preserved
loop-map-preserved g c =
    let key = c.in_ok-key.ensures in
    let value = c.in_ok-value.ensures in
    record {
      way = entry-read (cond c.args.borrows g.T.Facet.shape.reading_borrowed g.T.Facet.shape.reading) g.T.Facet.view c.args.parser.now c.loop-map.parser c.next_key.new.parser _ c.loop-map.map.entries c.put.new.map.entries c.in_ok-key.field-0 c.in-Some.key c.in_ok-value.value c.loop-map.invariant.way key.passed key.member c.in-Some.is key.onward value.read value.keeps value.one_value c.in_ok-put.ensures.put;
      owned = λ lent.
          All-same (λ e. g.T.Facet.owned e.1) _ _ c.in_ok-put.ensures.put
          (all-inserted string_cmp g.T.Facet.owned c.loop-map.map.entries c.in-Some.key c.in_ok-value.value (c.loop-map.invariant.owned lent) (value.owned lent));
    }

pub returns-clause-read : goal.returns-clause-read
returns-clause-read g c =
    let ended = rw c.in_default.is at c.in_ok-key.ensures.passed in
    map-ends (cond c.args.borrows g.T.Facet.shape.reading_borrowed g.T.Facet.shape.reading) _ _ _ _ c.loop-map.invariant.way.left ended

pub returns-clause-owned : goal.returns-clause-owned
returns-clause-owned g c lent = c.loop-map.invariant.owned lent

pub returns-in_err-begin_object-clause-owned : goal.returns-in_err-begin_object-clause-owned
returns-in_err-begin_object-clause-owned c = search rules

pub returns-clause-one_value : goal.returns-clause-one_value
returns-clause-one_value g c = MatchOption-at_none _ _ c.in_default.is c.in_ok-key.ensures.member _ c.loop-map.invariant.way.inside

pub returns-in_err-begin_object-clause-read : goal.returns-in_err-begin_object-clause-read
returns-in_err-begin_object-clause-read c = search rules

pub returns-in_err-begin_object-clause-keeps : goal.returns-in_err-begin_object-clause-keeps
returns-in_err-begin_object-clause-keeps c = search rules

pub returns-in_err-begin_object-clause-shorter : goal.returns-in_err-begin_object-clause-shorter
returns-in_err-begin_object-clause-shorter c = search rules

pub returns-in_err-key-clause-tells : goal.returns-in_err-key-clause-tells
returns-in_err-key-clause-tells g c =
    let p = err_from_is_err_and c.from_residual-in_err-key.result c.from_residual-in_err-key.ensures.1 in
    rw (p.1, p.2) (tells-later (keeps-there c.loop-map.invariant.way.keeps) c.in_err-key.ensures.tells)

pub returns-in_err-value-clause-tells : goal.returns-in_err-value-clause-tells
returns-in_err-value-clause-tells g c =
    let p = err_from_is_err_and c.from_residual-in_err-value.result c.from_residual-in_err-value.ensures.1 in
    let came = comes-then (keeps-there c.loop-map.invariant.way.keeps) (goes-there c.next_key.ensures.onward) in
    rw (p.1, p.2) (tells-later came c.in_err-value.ensures.tells)

pub returns-in_err-put-clause-tells : goal.returns-in_err-put-clause-tells
returns-in_err-put-clause-tells g c =
    let p = err_from_is_err_and c.from_residual-in_err-put.result c.from_residual-in_err-put.ensures.1 in
    rw (p.1, p.2) (without_memory c.in_ok-value.ensures.free c.in_err-put.ensures.refused)

pub returns-clause-free : goal.returns-clause-free
returns-clause-free g c = c.in_ok-key.ensures.free
