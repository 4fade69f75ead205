-- The byte behind a backslash is passed with it.
use Rattle.std.proofs.Common.{arith}
use Rattle.facet_json_parser.proofs.PassedBytes.{pair-passed, text-past}
use Rattle.facet_json_parser.proofs.marks.behind_escape.Goals as goal

pub returns-then-input-mark-ge2-clause-passage : goal.returns-then-input-mark-ge2-clause-passage
returns-then-input-mark-ge2-clause-passage c = λ mode t here.
    let e = pair-passed c.args.input.now mode _ c.args.mark t here (omega arith) in
    (omega arith, omega (arith, text-past c.args.input.now mode _ c.args.mark t), e)
