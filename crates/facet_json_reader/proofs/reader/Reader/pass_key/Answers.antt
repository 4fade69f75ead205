-- The key's text and its colon give its event.
use Rattle.std.proofs.Common.{false, ◌+◌, refl}
use Rattle.facet_format.specs.Bytes.{colon as colon_byte}
use Rattle.facet_format.specs.Event.{borrowed}
use Rattle.facet_json_token.proofs.Offsets.{slice_get-from_read}
use Rattle.facet_json_reader.specs.PlaceViews.{language_of}
use Rattle.facet_json_reader.proofs.AllowedTexts.{unescaped-allowed}
use Rattle.facet_json_reader.proofs.QuickEvents.{key-passes}
use Rattle.facet_json_reader.proofs.reader.Reader.pass_key.Goals as goal

pub returns-in-Some-eq58-clause-passes : goal.returns-in-Some-eq58-clause-passes
returns-in-Some-eq58-clause-passes c =
    λ place name key text reached.
    let buffer = c.args.input.now in
    let language = language_of c.args.language in
    let at = c.args.at in
    let w = c.in-Some-eq58 in
    let here = slice_get-from_read buffer c.empty_gap_end-colon.result w.field-0.now colon_byte w.ensures.lookup.3 w.field-0-test in
    let allowed = unescaped-allowed language buffer (at + 1) c.args.end c.requires.unescaped in
    rw (c.new.ensures.offset, c.new.ensures.len)
    (key-passes buffer language c.args.self.now place at c.args.end c.empty_gap_end-colon.result name _ c.move_past_name.new.self key refl (allowed _ false) reached
    text c.requires.within.0 c.requires.within.1 (rw c.mode.ensures at c.empty_gap_end-colon.ensures.end) here (c.move_past_name.ensures (borrowed name) _))
