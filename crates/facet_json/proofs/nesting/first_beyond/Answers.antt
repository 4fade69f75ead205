-- Each token is counted, up to the first beyond.
use Rattle.std.proofs.Common.{sym, ◌∙◌, arith}
use Rattle.facet_json_token.specs.Views.{mode_of}
use Rattle.facet_json.specs.declared.nesting.Passed.TheVariants as passed
use Rattle.facet_json.proofs.NestedTokens.{beyond-token, beyond-fault, token-counts}
use Rattle.facet_json.proofs.nesting.first_beyond.Goals as goal

pub returns-in-Over-clause-first : goal.returns-in-Over-clause-first
returns-in-Over-clause-first c =
    let l = c.loop-token in
    sym (beyond-token c.args.input.now (mode_of c.args.mode) l.position l.nesting.around l.nesting.room l.invariant.inside c.in-Ok.token
    c.in-Ok.ensures.answer passed.Over c.in-Over.ensures.token c.in-Over.ensures.end)
    ∙ l.invariant.first

pub returns-in-Beyond-clause-first : goal.returns-in-Beyond-clause-first
returns-in-Beyond-clause-first c =
    let l = c.loop-token in
    sym (beyond-token c.args.input.now (mode_of c.args.mode) l.position l.nesting.around l.nesting.room l.invariant.inside c.in-Ok.token
    c.in-Ok.ensures.answer passed.Beyond c.in-Beyond.ensures.token c.in-Beyond.ensures.end)
    ∙ l.invariant.first

pub returns-in-Beyond-clause-within : goal.returns-in-Beyond-clause-within
returns-in-Beyond-clause-within c =
    let l = c.loop-token in
    (token-counts c.args.input.now (mode_of c.args.mode) l.position l.nesting.around l.nesting.room l.invariant.inside c.in-Ok.token
    c.in-Ok.ensures.answer passed.Beyond c.in-Beyond.ensures.end (λ e. cc)).1

pub loop-token-smaller : goal.loop-token-smaller
loop-token-smaller c =
    let l = c.loop-token in
    let there = token-counts c.args.input.now (mode_of c.args.mode) l.position l.nesting.around l.nesting.room l.invariant.inside c.in-Ok.token
    c.in-Ok.ensures.answer (passed.Inside c.in-Inside.next) c.in-Inside.ensures.end (λ e. cc) in
    omega (arith, there.0, there.1, c.end-position.ensures.fits (omega (arith, there.1)))

pub loop-token-preserved : goal.loop-token-preserved
loop-token-preserved c =
    let l = c.loop-token in
    let there = token-counts c.args.input.now (mode_of c.args.mode) l.position l.nesting.around l.nesting.room l.invariant.inside c.in-Ok.token
    c.in-Ok.ensures.answer (passed.Inside c.in-Inside.next) c.in-Inside.ensures.end (λ e. cc) in
    let at = c.end-position.ensures.fits (omega (arith, there.1)) in
    record {
      inside = omega (arith, there.1, at);
      fits = c.in-Inside.ensures.fits ∙ l.invariant.fits;
      first = rw at (sym (beyond-token c.args.input.now (mode_of c.args.mode) l.position l.nesting.around l.nesting.room l.invariant.inside
          c.in-Ok.token c.in-Ok.ensures.answer (passed.Inside c.in-Inside.next) c.in-Inside.ensures.token c.in-Inside.ensures.end)
          ∙ l.invariant.first);
    }

pub returns-clause-first : goal.returns-clause-first
returns-clause-first c =
    let l = c.loop-token in
    sym (beyond-fault c.args.input.now (mode_of c.args.mode) l.position l.nesting.around l.nesting.room l.invariant.inside c.in_default.field-0
    c.in_default.ensures.answer)
    ∙ l.invariant.first
