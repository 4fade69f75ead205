-- The block's bytes stand there.
use Rattle.std.proofs.lemmas.Simd.{get_or-chunk}
use Rattle.facet_json_parser.proofs.marks.pass_block.Goals as goal

pub pass_marks-requires-clause-bytes : goal.pass_marks-requires-clause-bytes
pass_marks-requires-clause-bytes c i h = get_or-chunk c.args.passage.at 64 c.args.input.now i 0 h
