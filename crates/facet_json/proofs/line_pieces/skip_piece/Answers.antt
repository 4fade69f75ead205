-- What the buffer shows is a part of the line, up to its line feed or the end of what is shown.
use Rattle.std.proofs.Common.{◌+◌, subst, rules, arith}
use Rattle.std.specs.Io.BufRead.{FillKeeps}
use Rattle.std.proofs.BufReadLemmas.{Consumes_shown}
use Rattle.std.specs.Io.KnownBytes.{Consumes}
use Rattle.facet_json.proofs.LinePiecesRead.{feed-shown, feed-leaves, piece-keeps}
use Rattle.facet_json.proofs.line_pieces.skip_piece.Goals as goal

pub returns-then-has_feed-clause-done : goal.returns-then-has_feed-clause-done
returns-then-has_feed-clause-done g c _ =
    let rested = c.fill_buf.follows.lender-at-none in
    let filled = subst (FillKeeps _ (g.R.Read.remaining rested) (g.R.BufRead.consumable_len rested)) c.in-Ok.is c.fill_buf.follows.holds-at-none in
    let moved = Consumes_shown _ _ _ _ c.in-Ok.shown.now (c.line_len-len.result + 1) (omega arith) c.in-Ok.ensures.front c.in-Ok.ensures.end filled.0 filled.1 c.consume.ensures.bytes in
    feed-leaves _ _ _ c.line_len-len.ensures.text (subst (Consumes _ _) (feed-shown c.in-Ok.shown.now c.line_len-len.result (search rules) (c.line_len-len.ensures.feed (search rules))) moved.0)

pub returns-clause-inside : goal.returns-clause-inside
returns-clause-inside g c _ =
    let rested = c.fill_buf.follows.lender-at-none in
    let filled = subst (FillKeeps _ (g.R.Read.remaining rested) (g.R.BufRead.consumable_len rested)) c.in-Ok.is c.fill_buf.follows.holds-at-none in
    let moved = Consumes_shown _ _ _ _ c.in-Ok.shown.now c.line_len-len.result c.line_len-len.ensures.within c.in-Ok.ensures.front c.in-Ok.ensures.end filled.0 filled.1 c.consume-2.ensures.bytes in
    piece-keeps _ _ _ c.line_len-len.ensures.text moved.0
