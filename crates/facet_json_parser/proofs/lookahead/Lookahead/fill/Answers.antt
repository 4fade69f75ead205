use Rattle.std.proofs.Common.{sym, ◌∙◌}
use Rattle.facet_json_parser.proofs.UnopenedContainers.{nothing_held}
use Rattle.facet_json_parser.proofs.lookahead.Lookahead.fill.Goals as goal

pub begin-requires-clause-free : goal.begin-requires-clause-free
begin-requires-clause-free c = nothing_held c.args.self.now.held (sym c.is_some.ensures ∙ c.if-is_some.false)
