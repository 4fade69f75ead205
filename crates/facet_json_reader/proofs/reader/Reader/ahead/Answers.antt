-- A comma leads from after an item or a member on to the next one.
use Rattle.std.proofs.Common.{◌≡◌, sym, ap, arith}
use Rattle.facet_format.specs.Bytes.{comma as comma_byte}
use Rattle.facet_json_token.proofs.Offsets.{slice_get-from_read}
use Rattle.facet_json_reader.specs.PlaceViews.{language_of, place_of}
use Rattle.facet_json_reader.specs.Views.{stage_of}
use Rattle.facet_json_reader.proofs.QuickEvents.{stands-reaches, comma-reaches}
use Rattle.facet_json_reader.proofs.reader.Reader.ahead.Goals as goal

pub returns-clause-reaches : goal.returns-clause-reaches
returns-clause-reaches c =
    let buffer = c.args.input.now in
    let language = language_of c.args.language in
    let r = c.args.self.now in
    let at = c.gap_end-at.result in
    let w = c.in_ok-first in
    let place = place_of c.in-Within.place in
    let mode = c.mode-mode.ensures in
    let reached = stands-reaches buffer language r place c.end.result at (ap stage_of c.in-Within.is) c.requires.within (c.end.ensures.fits (omega arith))
    (rw mode at c.gap_end-at.ensures.end) in
    let comma_there : w.field-0.now ≡ comma_byte = omega arith in
    let here = slice_get-from_read buffer at w.field-0.now comma_byte w.ensures.lookup.3 comma_there in
    let led_there = c.led.ensures in
    rw led_there
    (comma-reaches buffer language r place at (place_of c.in-Passes.next) c.empty_gap_end-to.result reached (sym c.in-Passes.ensures.turn) here
    (rw mode at c.empty_gap_end-to.ensures.end))
