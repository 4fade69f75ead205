use Rattle.std.proofs.Common.{arith, mod-lt, pow_pos}
use lib.Bits.{xor_lt}
use Rattle.facet_json_parser.proofs.Bits.Test.{spread}
use Rattle.facet_json_parser.proofs.BlockBits.{texts_are, marks_are, still_texts, still_unmarked}
use Rattle.facet_json_parser.proofs.block.block.Goals as goal

pub returns-then-quotes-slashes-eq0-clause-marks : goal.returns-then-quotes-slashes-eq0-clause-marks
returns-then-quotes-slashes-eq0-clause-marks c =
    still_unmarked c.args.within c.args.v c.equal_to-quotes.result c.equal_to-slashes.result c.equal_to-quotes.ensures c.equal_to-slashes.ensures c.if-within.true (omega arith)

pub returns-then-quotes-slashes-eq0-clause-texts : goal.returns-then-quotes-slashes-eq0-clause-texts
returns-then-quotes-slashes-eq0-clause-texts c =
    still_texts c.args.within c.args.v c.equal_to-quotes.result c.equal_to-slashes.result c.equal_to-quotes.ensures c.equal_to-slashes.ensures c.if-within.true (omega arith)

pub returns-clause-texts : goal.returns-clause-texts
returns-clause-texts c =
    texts_are c.args.within c.args.v c.equal_to-quotes.result c.equal_to-slashes.result c.equal_to-quotes.ensures c.equal_to-slashes.ensures c.parities.result c.parities.ensures

pub returns-clause-marks : goal.returns-clause-marks
returns-clause-marks c =
    marks_are c.args.within c.args.v c.equal_to-quotes.result c.equal_to-slashes.result c.equal_to-quotes.ensures c.equal_to-slashes.ensures c.calm.result _ (omega arith) (xor_lt 64 c.parities.result (spread c.args.within) (omega arith) (mod-lt _ (pow_pos 64))) c.calm.ensures (returns-clause-texts c)
