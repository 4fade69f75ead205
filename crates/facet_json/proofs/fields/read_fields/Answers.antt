use Rattle.std.proofs.Common.{arith, ◌<◌, ◌∙◌}
use Rattle.std.proofs.lemmas.Option.{MatchOption-at_some, MatchOption-at_none}
use Rattle.std.proofs.lemmas.Result.{IfOk-weaker, IfErr-weaker, err_from_is_err_and}
use Rattle.facet_format.specs.Event.{bytes_of}
use Rattle.facet_format.specs.HeldText.{text_of}
use Rattle.facet_format.specs.Views.{refusal_of}
use Rattle.facet_format.proofs.HeldTexts.{held-bytes}
use Rattle.facet_json_grammar.specs.Now.{ahead}
use Rattle.facet_json_core.proofs.Meaning.Keeping.{keeps-then}
use Rattle.facet_json_core.proofs.Meaning.OneValue.WithinValues.{inside-member}
use Rattle.facet_json_core.proofs.Meaning.Walks.NextOnWalk.{goes-keeps}
use Rattle.facet_json.specs.Fields.{keys, table}
use Rattle.facet_json.proofs.FieldSteps.{missing-about, way-begin, way-goes_on, fields-not_begun, fields-no_key, fields-no_value, fields-end, fields-missing}
use Rattle.facet_json_core.proofs.Refusing.{comes-then, end-tells, goes-there, tells-later}
use Rattle.facet_json_core.proofs.Meaning.Refusals.{keeps-there}
use Rattle.facet_json.proofs.MembersInSight.{members-more, members-onward}
use Rattle.facet_json.proofs.fields.read_fields.Goals as goal

pub returns-in_err-begin_object-clause-unread : goal.returns-in_err-begin_object-clause-unread
returns-in_err-begin_object-clause-unread g c =
    let p = err_from_is_err_and c.from_residual.result c.from_residual.ensures.1 in
    let t = table g.F.Fields.start (g.F.Fields.step c.args.borrows) g.F.Fields.ends in
    rw (p.1, p.2) (fields-not_begun t (keys c.args.names.now) _ (refusal_of c.in_err-begin_object.field-0.0) c.in_err-begin_object.ensures.unread)

pub loop-slots-init : goal.loop-slots-init
loop-slots-init g c =
    let begun = c.in_ok-begin_object.ensures in
    let t = table g.F.Fields.start (g.F.Fields.step c.args.borrows) g.F.Fields.ends in
    record {
      way = rw c.none-slots.ensures.none (way-begin t (keys c.args.names.now) _ _ begun.begun begun.onward begun.shorter begun.inside);
      owned = λ kept. c.none-slots.ensures.owned;
    }

pub returns-in_err-key-clause-unread : goal.returns-in_err-key-clause-unread
returns-in_err-key-clause-unread g c =
    let t = table g.F.Fields.start (g.F.Fields.step c.args.borrows) g.F.Fields.ends in
    let names = keys c.args.names.now in
    let i = c.loop-slots.invariant in
    let puts = c.in_err-key.ensures.put _ i.way.inside.stack in
    let way = members-more t names c.args.parser.now c.loop-slots.parser _ puts.0 _ i.way puts.1 in
    let p = err_from_is_err_and c.from_residual-in_err-key.result c.from_residual-in_err-key.ensures.1 in
    rw (p.1, p.2) (fields-no_key t names _ _ _ (refusal_of c.in_err-key.field-0.0) way.left puts.2.lacks)

pub returns-in_err-key-clause-tells : goal.returns-in_err-key-clause-tells
returns-in_err-key-clause-tells g c =
    let t = table g.F.Fields.start (g.F.Fields.step c.args.borrows) g.F.Fields.ends in
    let names = keys c.args.names.now in
    let i = c.loop-slots.invariant in
    let puts = c.in_err-key.ensures.put _ i.way.inside.stack in
    let way = members-more t names c.args.parser.now c.loop-slots.parser _ puts.0 _ i.way puts.1 in
    let p = err_from_is_err_and c.from_residual-in_err-key.result c.from_residual-in_err-key.ensures.1 in
    rw (p.1, p.2) (tells-later (keeps-there way.keeps) puts.2.tells)

pub returns-in_err-key-clause-keeps : goal.returns-in_err-key-clause-keeps
returns-in_err-key-clause-keeps g c =
    let t = table g.F.Fields.start (g.F.Fields.step c.args.borrows) g.F.Fields.ends in
    let names = keys c.args.names.now in
    let i = c.loop-slots.invariant in
    let puts = c.in_err-key.ensures.put _ i.way.inside.stack in
    let way = members-more t names c.args.parser.now c.loop-slots.parser _ puts.0 _ i.way puts.1 in
    keeps-then _ _ _ way.keeps (goes-keeps _ _ puts.2.onward)

pub returns-in_err-put_apart-clause-unread : goal.returns-in_err-put_apart-clause-unread
returns-in_err-put_apart-clause-unread g c =
    let t = table g.F.Fields.start (g.F.Fields.step c.args.borrows) g.F.Fields.ends in
    let names = keys c.args.names.now in
    let i = c.loop-slots.invariant in
    let puts = c.in_ok-key.ensures.put _ i.way.inside.stack in
    let way = members-more t names c.args.parser.now c.loop-slots.parser _ puts.0 _ i.way puts.1 in
    let p = err_from_is_err_and c.from_residual-in_err-put_apart.result c.from_residual-in_err-put_apart.ensures.1 in
    let named = rw c.in-Some.is at puts.2.passes in
    let unread = rw (c.as_str.ensures.value ∙ held-bytes c.in-Some.key) at c.in_err-put_apart.ensures.unread in
    rw (p.1, p.2) (fields-no_value t names _ _ _ _ (bytes_of (text_of c.in-Some.key)) (refusal_of c.in_err-put_apart.field-0.0) way.left named unread)

pub returns-in_err-put_apart-clause-keeps : goal.returns-in_err-put_apart-clause-keeps
returns-in_err-put_apart-clause-keeps g c =
    let t = table g.F.Fields.start (g.F.Fields.step c.args.borrows) g.F.Fields.ends in
    let names = keys c.args.names.now in
    let i = c.loop-slots.invariant in
    let puts = c.in_ok-key.ensures.put _ i.way.inside.stack in
    let way = members-more t names c.args.parser.now c.loop-slots.parser _ puts.0 _ i.way puts.1 in
    keeps-then _ _ _ (keeps-then _ _ _ way.keeps (goes-keeps _ _ puts.2.onward)) c.put_apart.ensures.keeps

pub returns-in_err-put_apart-clause-tells : goal.returns-in_err-put_apart-clause-tells
returns-in_err-put_apart-clause-tells g c =
    let t = table g.F.Fields.start (g.F.Fields.step c.args.borrows) g.F.Fields.ends in
    let names = keys c.args.names.now in
    let i = c.loop-slots.invariant in
    let puts = c.in_ok-key.ensures.put _ i.way.inside.stack in
    let way = members-more t names c.args.parser.now c.loop-slots.parser _ puts.0 _ i.way puts.1 in
    let p = err_from_is_err_and c.from_residual-in_err-put_apart.result c.from_residual-in_err-put_apart.ensures.1 in
    let came = comes-then (keeps-there way.keeps) (goes-there puts.2.onward) in
    rw (p.1, p.2) (tells-later came c.in_err-put_apart.ensures.tells)

pub loop-slots-preserved : goal.loop-slots-preserved
loop-slots-preserved g c =
    let t = table g.F.Fields.start (g.F.Fields.step c.args.borrows) g.F.Fields.ends in
    let names = keys c.args.names.now in
    let i = c.loop-slots.invariant in
    let puts = c.in_ok-key.ensures.put _ i.way.inside.stack in
    let way = members-more t names c.args.parser.now c.loop-slots.parser _ puts.0 _ i.way puts.1 in
    let named = rw c.in-Some.is at puts.2.passes in
    let read = rw (c.as_str.ensures.value ∙ held-bytes c.in-Some.key) at c.in_ok-put_apart.ensures.read in
    let at_value = MatchOption-at_some _ _ c.in-Some.key c.in-Some.is puts.2.member in
    let inside = inside-member c.args.parser.now puts.0 c.next_unread.new.parser c.put_apart.new.parser _ c.in-Some.key way.inside puts.2.member c.in-Some.is
    c.put_apart.ensures.keeps.input (c.in_ok-put_apart.ensures.one_value at_value.1) in
    record {
      way = way-goes_on t names c.args.parser.now puts.0 c.next_unread.new.parser c.put_apart.new.parser _ _ (bytes_of (text_of c.in-Some.key)) way named puts.2.onward read
          c.put_apart.ensures.keeps inside;
      owned = λ kept. c.in_ok-put_apart.ensures.owned kept (c.in_ok-key.ensures.owned kept (i.owned kept));
    }

pub loop-slots-preserved-in_ok-put_apart : goal.loop-slots-preserved-in_ok-put_apart
loop-slots-preserved-in_ok-put_apart g c =
    let t = table g.F.Fields.start (g.F.Fields.step c.args.borrows) g.F.Fields.ends in
    let names = keys c.args.names.now in
    let i = c.loop-slots.invariant in
    let puts = c.in_ok-key.ensures.put _ i.way.inside.stack in
    let way = members-more t names c.args.parser.now c.loop-slots.parser _ puts.0 _ i.way puts.1 in
    let named = rw c.in-Some.is at puts.2.passes in
    let read = rw (c.as_str.ensures.value ∙ held-bytes c.in-Some.key) at c.in_ok-put_apart.ensures.read in
    let at_value = MatchOption-at_some _ _ c.in-Some.key c.in-Some.is puts.2.member in
    let inside = inside-member c.args.parser.now puts.0 c.next_unread.new.parser c.put_apart.new.parser _ c.in-Some.key way.inside puts.2.member c.in-Some.is
    c.put_apart.ensures.keeps.input (c.in_ok-put_apart.ensures.one_value at_value.1) in
    record {
      way = way-goes_on t names c.args.parser.now puts.0 c.next_unread.new.parser c.put_apart.new.parser _ _ (bytes_of (text_of c.in-Some.key)) way named puts.2.onward read
          c.put_apart.ensures.keeps inside;
      owned = λ kept. c.in_ok-put_apart.ensures.owned kept (c.in_ok-key.ensures.owned kept (i.owned kept));
    }

pub loop-slots-smaller : goal.loop-slots-smaller
loop-slots-smaller g c =
    let t = table g.F.Fields.start (g.F.Fields.step c.args.borrows) g.F.Fields.ends in
    let names = keys c.args.names.now in
    let i = c.loop-slots.invariant in
    let puts = c.in_ok-key.ensures.put _ i.way.inside.stack in
    omega (arith, members-onward t names c.args.parser.now c.loop-slots.parser _ puts.0 _ puts.1, puts.2.shorter, c.put_apart.ensures.keeps.onward)

pub loop-slots-smaller-in_ok-put_apart : goal.loop-slots-smaller-in_ok-put_apart
loop-slots-smaller-in_ok-put_apart g c =
    let t = table g.F.Fields.start (g.F.Fields.step c.args.borrows) g.F.Fields.ends in
    let names = keys c.args.names.now in
    let i = c.loop-slots.invariant in
    let puts = c.in_ok-key.ensures.put _ i.way.inside.stack in
    omega (arith, members-onward t names c.args.parser.now c.loop-slots.parser _ puts.0 _ puts.1, puts.2.shorter, c.put_apart.ensures.keeps.onward)

pub returns-clause-read : goal.returns-clause-read
returns-clause-read g c =
    let t = table g.F.Fields.start (g.F.Fields.step c.args.borrows) g.F.Fields.ends in
    let names = keys c.args.names.now in
    let i = c.loop-slots.invariant in
    let puts = c.in_ok-key.ensures.put _ i.way.inside.stack in
    let way = members-more t names c.args.parser.now c.loop-slots.parser _ puts.0 _ i.way puts.1 in
    let ended = rw c.in_default.is at puts.2.passes in
    IfOk-weaker c.finish.result _ _ (λ f full. fields-end t names _ _ _ _ (g.F.Fields.view f) way.left ended full) c.finish.ensures.full

pub returns-clause-unread : goal.returns-clause-unread
returns-clause-unread g c =
    let t = table g.F.Fields.start (g.F.Fields.step c.args.borrows) g.F.Fields.ends in
    let names = keys c.args.names.now in
    let i = c.loop-slots.invariant in
    let puts = c.in_ok-key.ensures.put _ i.way.inside.stack in
    let way = members-more t names c.args.parser.now c.loop-slots.parser _ puts.0 _ i.way puts.1 in
    let ended = rw c.in_default.is at puts.2.passes in
    IfErr-weaker c.finish.result _ _ (λ e missing. fields-missing t names _ _ _ _ (refusal_of e) way.left ended missing) c.finish.ensures.missing

pub returns-clause-owned : goal.returns-clause-owned
returns-clause-owned g c =
    λ kept. c.finish.ensures.owned (c.in_ok-key.ensures.owned kept (c.loop-slots.invariant.owned kept))

pub returns-in_err-begin_object-clause-owned : goal.returns-in_err-begin_object-clause-owned
returns-in_err-begin_object-clause-owned g c kept =
    let p = err_from_is_err_and c.from_residual.result c.from_residual.ensures.1 in rw (p.1) tt

pub returns-clause-one_value : goal.returns-clause-one_value
returns-clause-one_value g c =
    let t = table g.F.Fields.start (g.F.Fields.step c.args.borrows) g.F.Fields.ends in
    let names = keys c.args.names.now in
    let i = c.loop-slots.invariant in
    let puts = c.in_ok-key.ensures.put _ i.way.inside.stack in
    let way = members-more t names c.args.parser.now c.loop-slots.parser _ puts.0 _ i.way puts.1 in
    let passed = MatchOption-at_none _ _ c.in_default.is puts.2.member _ way.inside in
    IfOk-weaker c.finish.result _ _ (λ f full. passed) c.finish.ensures.full

pub returns-clause-keeps : goal.returns-clause-keeps
returns-clause-keeps g c =
    let t = table g.F.Fields.start (g.F.Fields.step c.args.borrows) g.F.Fields.ends in
    let names = keys c.args.names.now in
    let i = c.loop-slots.invariant in
    let puts = c.in_ok-key.ensures.put _ i.way.inside.stack in
    let way = members-more t names c.args.parser.now c.loop-slots.parser _ puts.0 _ i.way puts.1 in
    keeps-then _ _ _ way.keeps (goes-keeps _ _ puts.2.onward)

pub returns-clause-tells : goal.returns-clause-tells
returns-clause-tells g c =
    let t = table g.F.Fields.start (g.F.Fields.step c.args.borrows) g.F.Fields.ends in
    let names = keys c.args.names.now in
    let i = c.loop-slots.invariant in
    let puts = c.in_ok-key.ensures.put _ i.way.inside.stack in
    let way = members-more t names c.args.parser.now c.loop-slots.parser _ puts.0 _ i.way puts.1 in
    IfErr-weaker c.finish.result _ _
    (λ e lacks. end-tells (keeps-there way.keeps) way.falls (goes-there puts.2.onward) puts.2.free (rw (← c.last_span.ensures.told) (missing-about lacks))) c.finish.ensures.told

pub returns-clause-shorter : goal.returns-clause-shorter
returns-clause-shorter g c =
    let t = table g.F.Fields.start (g.F.Fields.step c.args.borrows) g.F.Fields.ends in
    let names = keys c.args.names.now in
    let i = c.loop-slots.invariant in
    let puts = c.in_ok-key.ensures.put _ i.way.inside.stack in
    let way = members-more t names c.args.parser.now c.loop-slots.parser _ puts.0 _ i.way puts.1 in
    let less : ahead c.next_unread.new.parser < ahead c.args.parser.now = omega (arith, way.falls, puts.2.shorter) in
    IfOk-weaker c.finish.result _ _ (λ f full. less) c.finish.ensures.full

pub returns-clause-free : goal.returns-clause-free
returns-clause-free g c =
    let t = table g.F.Fields.start (g.F.Fields.step c.args.borrows) g.F.Fields.ends in
    let names = keys c.args.names.now in
    let i = c.loop-slots.invariant in
    let puts = c.in_ok-key.ensures.put _ i.way.inside.stack in
    let way = members-more t names c.args.parser.now c.loop-slots.parser _ puts.0 _ i.way puts.1 in
    IfOk-weaker c.finish.result _ _ (λ f full. puts.2.free) c.finish.ensures.full
