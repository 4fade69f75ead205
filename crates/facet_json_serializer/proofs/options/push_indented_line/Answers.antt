use Rattle.std.proofs.Common.{◌++◌, ap, ◌∙◌, append_assoc, add-one}
use Rattle.facet_json_grammar.specs.Text.{indents}
use Rattle.facet_json_serializer.proofs.ByteTexts.{indents-one_more}
use Rattle.facet_json_serializer.proofs.options.push_indented_line.Goals as goal

pub loop-preserved : goal.loop-preserved
loop-preserved c =
    let before = c.push.new.self in
    let indent = c.as_bytes-indent.result.now in
    rw add-one
    (c.in_ok-push_bytes.ensures ∙ ap (λ s. s ++ indent) c.loop.invariant ∙ append_assoc before (indents c.loop.counter indent) indent
    ∙ ap (λ s. before ++ s) (indents-one_more c.loop.counter indent))
