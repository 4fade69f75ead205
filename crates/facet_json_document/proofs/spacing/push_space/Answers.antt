use Rattle.std.proofs.lemmas.Result.{on_ok_weaker}
use Rattle.facet_json_document.proofs.Spaced.{spaced-none, spaced-blank, spaced-line, spaced-empty_line}
use Rattle.facet_json_document.proofs.spacing.push_space.Goals as goal

pub returns-in-None : goal.returns-in-None
returns-in-None c = rw c.in-None.is (spaced-none _)

pub returns-in-Blank : goal.returns-in-Blank
returns-in-Blank c = rw c.in-Blank.is (on_ok_weaker c.push.result (λ h. spaced-blank _ _ h) c.push.ensures)

pub returns-in-Line : goal.returns-in-Line
returns-in-Line c = rw c.in-Line.is (on_ok_weaker c.push_line.result (λ h. spaced-line _ _ h) c.push_line.ensures)

pub returns-in-EmptyLine : goal.returns-in-EmptyLine
returns-in-EmptyLine c =
    rw c.in-EmptyLine.is (on_ok_weaker c.push_line-in-EmptyLine.result (λ h. spaced-empty_line _ _ h) c.push_line-in-EmptyLine.ensures)
