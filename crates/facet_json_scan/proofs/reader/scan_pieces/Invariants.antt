use Rattle.std.proofs.Common.{◌≡◌, ◌-◌, ◌^◌, ◌<◌, length, vec_len}
use Rattle.std.specs.Io.KnownBytes.{Consumes}
use Rattle.facet_json_scan.specs.Inner.Stands.{Stands}
use Rattle.facet_json_scan.proofs.reader.scan_pieces.Given as goal

abbrev pub invariant-loop-refusal : goal.invariant-loop-refusal
invariant-loop-refusal g l = record {
  room : 0 < length l.piece;
  stands : Stands l.buf.items l.tokens.items l.scanner;
  mode : l.scanner.mode ≡ l.initial.scanner.mode;
  read : Consumes (g.R.ByteSource.left l.initial.source) (g.R.ByteSource.left l.source) l.buf.items;
  ended : g.R.ByteSource.ended l.source ≡ g.R.ByteSource.ended l.initial.source;
  failed : g.R.ByteSource.failed l.source ≡ g.R.ByteSource.failed l.initial.source;
}

abbrev pub decreases-loop-refusal : goal.decreases-loop-refusal
decreases-loop-refusal g l = 2 ^ 64 - vec_len l.buf
