-- The byte after a backslash is passed, where there is one.
use Rattle.std.proofs.Common.{arith, rules}
use Rattle.std.proofs.lemmas.Option.{slice_get_within}
use Rattle.facet_format.specs.Bytes.{backslash}
use Rattle.facet_json_token.proofs.TextWindows.{content-after_escape, content-at_end}
use Rattle.facet_json_token.proofs.cutting.after_escape.Goals as goal

pub returns-then-after-buffer-clause-same : goal.returns-then-after-buffer-clause-same
returns-then-after-buffer-clause-same c = content-after_escape c.args.buffer.now c.args.at c.requires c.if-after-buffer.true

pub returns-else-after-buffer-clause-same : goal.returns-else-after-buffer-clause-same
returns-else-after-buffer-clause-same c =
    let room = slice_get_within c.args.buffer.now c.args.at backslash c.requires in
    content-at_end c.args.buffer.now c.args.at c.requires (omega (arith, room, c.if-after-buffer.false))

pub returns-else-after-buffer-clause-range : goal.returns-else-after-buffer-clause-range
returns-else-after-buffer-clause-range c = (slice_get_within c.args.buffer.now c.args.at backslash c.requires, omega arith)

pub returns-then-after-buffer-clause-range : goal.returns-then-after-buffer-clause-range
returns-then-after-buffer-clause-range c = search rules
