-- What the buffer shows is a part of the line, up to its line feed or the end of what is shown.
use Rattle.std.proofs.Common.{◌+◌, take, subst, refl, rules, arith}
use Rattle.std.specs.Io.BufRead.{FillKeeps}
use Rattle.std.specs.Io.KnownBytes.{Consumes}
use Rattle.std.proofs.BufReadLemmas.{Consumes_shown}
use Rattle.facet_json.proofs.LinePiecesRead.{feed-shown, grows-nothing, grows-shown, shown-past}
use Rattle.facet_json.proofs.line_pieces.read_piece.Goals as goal

pub returns-then-len-limit-clause-stop : goal.returns-then-len-limit-clause-stop
returns-then-len-limit-clause-stop g c =
    let rested = c.fill_buf.follows.lender-at-none in
    let filled = subst (FillKeeps _ (g.R.Read.remaining rested) (g.R.BufRead.consumable_len rested)) c.in-Ok.is c.fill_buf.follows.holds-at-none in (
      grows-nothing _ _ _ _ refl filled.0,
      shown-past c.args.limit _ _ _ _ _ c.line_len-len.ensures.within (search rules) (search rules) c.line_len-len.ensures.text c.in-Ok.ensures.front filled.0,
    )

pub returns-then-is_empty-clause-stop : goal.returns-then-is_empty-clause-stop
returns-then-is_empty-clause-stop g c =
    let rested = c.fill_buf.follows.lender-at-none in
    let filled = subst (FillKeeps _ (g.R.Read.remaining rested) (g.R.BufRead.consumable_len rested)) c.in-Ok.is c.fill_buf.follows.holds-at-none in
    let moved = Consumes_shown _ _ _ _ c.in-Ok.shown.now c.line_len-len.result c.line_len-len.ensures.within c.in-Ok.ensures.front c.in-Ok.ensures.end filled.0 filled.1 c.consume-2.ensures.bytes in
    (grows-shown _ _ _ _ c.in-Ok.shown.now c.line_len-len.result c.in_ok-extend_from_slice.ensures.items c.line_len-len.ensures.text moved.0, moved.1 (search rules))

pub returns-then-has_feed-clause-stop : goal.returns-then-has_feed-clause-stop
returns-then-has_feed-clause-stop g c =
    let rested = c.fill_buf.follows.lender-at-none in
    let filled = subst (FillKeeps _ (g.R.Read.remaining rested) (g.R.BufRead.consumable_len rested)) c.in-Ok.is c.fill_buf.follows.holds-at-none in
    let moved = Consumes_shown _ _ _ _ c.in-Ok.shown.now (c.line_len-len.result + 1) (omega arith) c.in-Ok.ensures.front c.in-Ok.ensures.end filled.0 filled.1 c.consume.ensures.bytes in (
      take c.line_len-len.result c.in-Ok.shown.now,
      c.in_ok-extend_from_slice.ensures.items,
      c.line_len-len.ensures.text,
      subst (Consumes _ _) (feed-shown c.in-Ok.shown.now c.line_len-len.result (search rules) (c.line_len-len.ensures.feed (search rules))) moved.0,
    )

pub returns-clause-inside : goal.returns-clause-inside
returns-clause-inside g c =
    let rested = c.fill_buf.follows.lender-at-none in
    let filled = subst (FillKeeps _ (g.R.Read.remaining rested) (g.R.BufRead.consumable_len rested)) c.in-Ok.is c.fill_buf.follows.holds-at-none in
    let moved = Consumes_shown _ _ _ _ c.in-Ok.shown.now c.line_len-len.result c.line_len-len.ensures.within c.in-Ok.ensures.front c.in-Ok.ensures.end filled.0 filled.1 c.consume-2.ensures.bytes in
    grows-shown _ _ _ _ c.in-Ok.shown.now c.line_len-len.result c.in_ok-extend_from_slice.ensures.items c.line_len-len.ensures.text moved.0
