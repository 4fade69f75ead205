-- A single digit may be 0, and the first of more is another.
use Rattle.std.proofs.Common.{inl, inr, ◌+◌, sym, ◌∙◌, eq-eqb, arith}
use Rattle.std.proofs.lemmas.Bool.{both_ways, ne_eqb, not-true}
use Rattle.std.proofs.lemmas.Option.{get_or_from_slice_get}
use Rattle.facet_json_reader.proofs.RfcNumbersThere.{unsigned-strict, signed-strict}
use Rattle.facet_json_reader.proofs.number.leads_by_no_zero.Goals as goal

pub returns-then-len-eq2 : goal.returns-then-len-eq2
returns-then-len-eq2 c =
    let same = c.if-first-eq45.true in
    λ is. signed-strict c.args.input.now c.args.at (c.args.at + c.args.len) (rw same at c.requires.here) (rw same at c.requires.digits) (inl (omega arith))

pub returns-else-len-eq2 : goal.returns-else-len-eq2
returns-else-len-eq2 c =
    let same = c.if-first-eq45.true in
    λ is. signed-strict c.args.input.now c.args.at (c.args.at + c.args.len) (rw same at c.requires.here) (rw same at c.requires.digits)
    (inr (λ e. both_ways _ (not-true _ is) (eq-eqb _ _ e)))

pub returns-then-len-eq1 : goal.returns-then-len-eq1
returns-then-len-eq1 c =
    let other = ne_eqb c.args.first 45 c.if-first-eq45.false in
    λ is. unsigned-strict c.args.input.now c.args.at (c.args.at + c.args.len) (rw other at c.requires.digits) (inl (omega arith))

pub returns-else-len-eq1 : goal.returns-else-len-eq1
returns-else-len-eq1 c =
    let other = ne_eqb c.args.first 45 c.if-first-eq45.false in
    let here = get_or_from_slice_get c.args.input.now c.args.at c.args.first 0 c.requires.here in
    λ is. unsigned-strict c.args.input.now c.args.at (c.args.at + c.args.len) (rw other at c.requires.digits)
    (inr (λ e. both_ways _ (not-true _ is) (eq-eqb c.args.first 48 (sym here ∙ e))))
