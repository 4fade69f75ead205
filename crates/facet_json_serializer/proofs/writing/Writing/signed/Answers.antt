use Rattle.std.proofs.Common.{rules}
use Rattle.std.specs.Fmt.{signed_decimal}
use Rattle.facet_json_grammar.specs.Text.{text}
use Rattle.facet_json_serializer.specs.Views.{writing_of}
use Rattle.facet_json_serializer.proofs.ValuesBegun.{written_after}
use Rattle.facet_json_serializer.proofs.writing.Writing.signed.Goals as goal

pub returns : goal.returns
unfolding text
returns c = written_after _ (writing_of c.begin_before_comma.new.self) _ (signed_decimal c.args.n) _ c.in_ok-after_comma.ensures (search rules)
