use Rattle.std.proofs.Common.{◌≡◌, rules}
use Rattle.facet_format.specs.Event.{bytes_of}
use Rattle.facet_format.specs.HeldText.{text_of}
use Rattle.facet_json_grammar.specs.Quoted.{quoted}
use Rattle.facet_json_grammar.specs.Text.{text}
use Rattle.facet_json_serializer.specs.Views.{writing_of}
use Rattle.facet_json_serializer.proofs.ValuesBegun.{written_alone}
use Rattle.facet_json_serializer.proofs.writing.Writing.text.Goals as goal

pub returns : goal.returns
unfolding text
returns c =
    let t = text_of c.args.text.now in
    let held : c.as_str.result.now ≡ bytes_of t = search rules in
    written_alone _ (writing_of c.begin_before_comma.new.self) _ (quoted (bytes_of t)) _ c.in_ok-after_comma.ensures (rw (← held) c.in_ok-push_framed.ensures)
