use Rattle.std.proofs.Common.{ap, ◌∙◌, take, drop}
use Rattle.facet_format.proofs.Lines.{whole_line, line_starts}
use Rattle.facet_format.proofs.excerpt.line_text.Goals as goal

pub range-requires-clause-start_boundary : goal.range-requires-clause-start_boundary
range-requires-clause-start_boundary c = λ _. line_starts c.args.source.now _ _ c.args.offset c.line_start-start.result
    (c.split.ensures.before ∙ ap (λ s. take c.args.offset s) c.as_bytes.ensures.value)
    (c.split.ensures.after ∙ ap (λ s. drop c.args.offset s) c.as_bytes.ensures.value)
    c.utf8.source c.line_start-start.ensures.within c.line_start-start.ensures.feed

pub returns : goal.returns
returns c = c.range.ensures.value ∙ whole_line c.args.source.now _ _ c.args.offset c.line_start-start.result c.line_len.result
    (c.split.ensures.before ∙ ap (λ s. take c.args.offset s) c.as_bytes.ensures.value)
    (c.split.ensures.after ∙ ap (λ s. drop c.args.offset s) c.as_bytes.ensures.value)
    c.line_start-start.ensures.within c.line_start-start.ensures.start c.line_len.ensures.end
