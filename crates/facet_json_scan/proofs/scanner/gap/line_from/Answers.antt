-- The line feed that is found ends the comment, and where none is found it goes on.
use Rattle.facet_json_scan.proofs.Pieces.PendingComment.{line-ends, line-goes_on}
use Rattle.facet_json_scan.proofs.scanner.gap.line_from.Goals as goal

pub returns-in-Some-clause-here : goal.returns-in-Some-clause-here
returns-in-Some-clause-here c = λ d.
    line-ends c.args.buffer.now c.args.start c.args.at c.in-Some.end c.requires.order c.requires.room d
    c.in-Some.ensures.end

pub returns-in-None-clause-here : goal.returns-in-None-clause-here
returns-in-None-clause-here c = λ d.
    line-goes_on c.args.buffer.now c.args.start c.args.at c.requires.order c.requires.room d c.in-None.ensures.end
