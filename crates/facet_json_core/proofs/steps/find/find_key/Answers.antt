use Rattle.std.proofs.Common.{sym, arith, ◌∙◌}
use Rattle.std.proofs.lemmas.Option.{MatchOption-at_some}
use Rattle.std.proofs.lemmas.Result.{err_from_is_err_and}
use Rattle.facet_format.specs.Event.{bytes_of}
use Rattle.facet_format.specs.HeldText.{text_of}
use Rattle.facet_format.specs.Views.{refusal_of}
use Rattle.facet_json_core.proofs.Refusing.{comes-then, goes-there, tells-later}
use Rattle.facet_json_core.proofs.Meaning.Refusals.{keeps-there}
use Rattle.facet_json_core.proofs.KeysFound.{search-begins, other-passed, key-found, none-found, no-key, no-value}
use Rattle.facet_json_core.proofs.steps.find.find_key.Goals as goal

pub loop-key-init : goal.loop-key-init
loop-key-init c = search-begins _ _

pub returns-in_err-key-clause-lacks : goal.returns-in_err-key-clause-lacks
returns-in_err-key-clause-lacks c =
    let p = err_from_is_err_and c.from_residual.result c.from_residual.ensures.1 in
    let next = c.in_err-key.ensures.passed in
    rw (p.1, p.2) (no-key c.args.name.now _ _ (refusal_of c.in_err-key.field-0.0) (next.1 _ c.loop-key.invariant) next.2.lacks)

pub returns-in_err-key-clause-tells : goal.returns-in_err-key-clause-tells
returns-in_err-key-clause-tells c =
    let p = err_from_is_err_and c.from_residual.result c.from_residual.ensures.1 in
    let next = c.in_err-key.ensures.passed in
    rw (p.1, p.2) (tells-later (keeps-there (next.1 _ c.loop-key.invariant).keeps) next.2.tells)

pub returns-then-is_named-clause-finds : goal.returns-then-is_named-clause-finds
returns-then-is_named-clause-finds c =
    let next = c.in_ok-key.ensures.passed in
    let named = rw c.in-Some.is at next.2.passes in
    key-found c.args.name.now _ _ _ (bytes_of (text_of c.in-Some.key)) (next.1 _ c.loop-key.invariant) named (sym c.is_named.ensures ∙ c.if-is_named.true)

pub returns-in_err-pass_value-clause-lacks : goal.returns-in_err-pass_value-clause-lacks
returns-in_err-pass_value-clause-lacks c =
    let p = err_from_is_err_and c.from_residual-in_err-pass_value.result c.from_residual-in_err-pass_value.ensures.1 in
    let next = c.in_ok-key.ensures.passed in
    let named = rw c.in-Some.is at next.2.passes in
    rw (p.1, p.2) (no-value c.args.name.now _ _ _ (bytes_of (text_of c.in-Some.key)) (refusal_of c.in_err-pass_value.field-0.0) (next.1 _ c.loop-key.invariant) named c.in_err-pass_value.ensures.unread)

pub returns-in_err-pass_value-clause-tells : goal.returns-in_err-pass_value-clause-tells
returns-in_err-pass_value-clause-tells c =
    let p = err_from_is_err_and c.from_residual-in_err-pass_value.result c.from_residual-in_err-pass_value.ensures.1 in
    let next = c.in_ok-key.ensures.passed in
    let came = comes-then (keeps-there (next.1 _ c.loop-key.invariant).keeps) (goes-there next.2.onward) in
    rw (p.1, p.2) (tells-later came c.in_err-pass_value.ensures.tells)

pub loop-key-smaller : goal.loop-key-smaller
loop-key-smaller c =
    let next = c.in_ok-key.ensures.passed in
    omega (arith, (next.1 _ (search-begins c.args.name.now c.loop-key.parser)).keeps.onward, next.2.shorter, c.pass_value.ensures.keeps.onward)

pub loop-key-preserved : goal.loop-key-preserved
loop-key-preserved c =
    let next = c.in_ok-key.ensures.passed in
    let named = rw c.in-Some.is at next.2.passes in
    let after = rw c.in-Some.is at next.2.next in
    let other = sym c.is_named.ensures ∙ c.if-is_named.false in
    let at_value = MatchOption-at_some _ _ c.in-Some.key c.in-Some.is next.2.member in
    let value = c.in_ok-pass_value.ensures in
    other-passed c.args.name.now _ _ _ _ (bytes_of (text_of c.in-Some.key)) (next.1 _ c.loop-key.invariant) named after other at_value next.2.onward value.read
    value.keeps (value.one_value at_value.1)

pub returns-clause-finds : goal.returns-clause-finds
returns-clause-finds c =
    let next = c.in_ok-key.ensures.passed in
    let ended = rw c.in_default.is at next.2.passes in
    none-found c.args.name.now _ _ _ (next.1 _ c.loop-key.invariant) ended
