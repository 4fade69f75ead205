-- Tokens and bytes are passed as far as they were, or further.
use Rattle.std.proofs.Common.{◌≡◌, ap₂, sym, subst, arith}
use Rattle.facet_format.specs.Span.{stop, span_at}
use Rattle.facet_format.specs.Views.{span_of}
use Rattle.facet_json_token.specs.Gap.{Mode}
use Rattle.facet_json_parser.specs.Inner.Quiet.{RunLeadsOn}
use Rattle.facet_json_parser.specs.Inner.Passing.{IsPassed}
use Rattle.facet_json_parser.proofs.PassedBytes.{passed-past}
use Rattle.facet_json_parser.proofs.marks.behind_block.Goals as goal
use Rattle.facet_json_parser.proofs.marks.behind_block.Goals.{After-new}

from : (c : After-new) → stop (span_of c.args.passed) ≡ c.end.result
from c =
    let fit = c.end.ensures.fits (omega (arith, c.requires.passed, c.ranges.at)) in
    omega (arith, fit)

to : (c : After-new) → c.settled_before-settled.result ≡ stop (span_of c.new.result)
to c = omega (arith, c.new.ensures.offset, c.new.ensures.len)

both : (c : After-new) (mode : Mode) → IsPassed c.args.input.now mode (stop (span_of c.args.passed)) c.args.at c.args.within →
    RunLeadsOn c.args.input.now mode (stop (span_of c.args.passed)) (stop (span_of c.new.result))
    × IsPassed c.args.input.now mode (stop (span_of c.new.result)) c.args.at c.args.within
both c mode p =
    let two = c.settled_before-settled.ensures mode (subst (λ n. IsPassed c.args.input.now mode n c.args.at c.args.within) (from c) p) in (
      subst (λ n. RunLeadsOn c.args.input.now mode n (stop (span_of c.new.result))) (sym (from c)) (subst (λ n. RunLeadsOn c.args.input.now mode c.end.result n) (to c) two.0),
      subst (λ n. IsPassed c.args.input.now mode n c.args.at c.args.within) (to c) two.1,
    )

pub returns-clause-passage : goal.returns-clause-passage
returns-clause-passage c = λ mode p.
    let two = both (goal.at.returns-clause-passage c).After-new mode p in
    (omega (arith, c.requires.within), passed-past c.args.input.now mode (stop (span_of c.new.result)) c.args.at c.args.within two.1, two.1)

pub returns-clause-on : goal.returns-clause-on
returns-clause-on c = λ mode p.
    let offset : c.new.result.offset ≡ stop (span_of c.new.result) = omega (arith, c.new.ensures.len) in
    ((both (goal.at.returns-clause-on c).After-new mode p).0, ap₂ span_at offset c.new.ensures.len)
