use Rattle.std.proofs.Common.{rules}
-- Where a content without a backslash is no text.
use Rattle.facet_json_reader.proofs.MeaninglessTokens.{plain_unread}
use Rattle.facet_json_reader.proofs.materialized.string_text.Goals as goal

pub returns-in-None-clause-refused : goal.returns-in-None-clause-refused
returns-in-None-clause-refused c =
    let a = c.args in
    plain_unread a.buffer.now a.span a.start a.end a.has_escapes c.if-has_escapes.false c.requires (λ is. c.in-None.ensures.borrowed is.1)

pub returns-then-has_escapes-clause-text : goal.returns-then-has_escapes-clause-text
returns-then-has_escapes-clause-text c = search rules

pub returns-then-has_escapes-clause-refused : goal.returns-then-has_escapes-clause-refused
returns-then-has_escapes-clause-refused c = search rules

pub returns-in-Some-clause-text : goal.returns-in-Some-clause-text
returns-in-Some-clause-text c = search rules

pub returns-in-Some-clause-refused : goal.returns-in-Some-clause-refused
returns-in-Some-clause-refused c = search rules

pub returns-in-None-clause-text : goal.returns-in-None-clause-text
returns-in-None-clause-text c = search rules
