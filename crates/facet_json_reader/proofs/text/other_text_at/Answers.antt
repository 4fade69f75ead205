-- Ordinary bytes may stand in a text unescaped, and are UTF-8 with UTF-8 after them.
use Rattle.std.proofs.Common.{◌+◌, drop, arith}
use Rattle.facet_json_reader.proofs.TextRuns.{ordinary-wider, ordinary-before}
use Rattle.facet_json_reader.proofs.text.other_text_at.Goals as goal

pub closing_quote-requires-clause-passed : goal.closing_quote-requires-clause-passed
closing_quote-requires-clause-passed c =
    omega (arith, ordinary-wider c.args.least (drop (c.args.at + 1) c.args.input.now), c.requires.ordinary)

pub plain_text_unchecked-requires-clause-utf8 : goal.plain_text_unchecked-requires-clause-utf8
plain_text_unchecked-requires-clause-utf8 c =
    let end = c.in_ok-end in
    ordinary-before c.args.least c.args.input.now (c.args.at + 1) c.args.from end.end c.requires.ordinary end.ensures.after
    c.in-Ok.ensures.cases.1

pub returns-in-Ok-clause-utf8 : goal.returns-in-Ok-clause-utf8
returns-in-Ok-clause-utf8 c =
    let end = c.in_ok-end in
    ordinary-before c.args.least c.args.input.now (c.args.at + 1) c.args.from end.end c.requires.ordinary end.ensures.after
    c.in-Ok.ensures.cases.1
