-- The first byte begins null.
use Rattle.facet_format.specs.Bytes.{lower_n}
use Rattle.facet_json_reader.specs.Inner.Quick.{null_stands}
use Rattle.facet_json_reader.proofs.single.null_at.Goals as goal

pub returns-then-is_there : goal.returns-then-is_there
returns-then-is_there c = c.word_at.ensures.word _ lower_n _ null_stands (c.is_there.ensures c.if-is_there.true)
