-- A scalar that is skipped at once, or what is skipped by a call, is a move.
use Rattle.std.proofs.Common.{refl}
use Rattle.facet_json_grammar.proofs.Spans.BytesAhead.{skip-lowers}
use Rattle.facet_json_parser.proofs.ParserWithin.{moved, skip-shortens}
use Rattle.facet_json_parser.proofs.parser.JsonParserFormatParser.skip_value.Goals as goal

pub returns-then-skip_scalar : goal.returns-then-skip_scalar
returns-then-skip_scalar c =
    let known = c.skip_scalar.ensures.within in
    let move = c.skip_scalar.ensures.skipped c.if-skip_scalar.true in
    let is = moved _ _ known refl move in
    record { steps = is.steps; lowers = is.lowers; moves = move; within = is.within; onward = is.onward; shorter = skip-lowers _ known _ move }

pub returns : goal.returns
returns c =
    let known = c.skip_scalar.ensures.within in
    let move = rw (c.skip_scalar.ensures.same c.if-skip_scalar.false) at c.skip_out_of_line.ensures in
    let is = moved _ _ known refl move in
    record { steps = is.steps; lowers = is.lowers; moves = move; within = is.within; onward = is.onward; shorter = skip-shortens _ _ c.skip_out_of_line.result known move }
