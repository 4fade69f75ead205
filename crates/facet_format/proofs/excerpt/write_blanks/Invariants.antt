-- What is written of the bytes that are passed.
use Rattle.std.proofs.Common.{take, flat_map}
use Rattle.std.specs.Fmt.{HasWritten, IsPlainFormatter}
use Rattle.facet_format.specs.Report.{blank}
use Rattle.facet_format.proofs.excerpt.write_blanks.Given as goal

abbrev pub invariant-loop-byte : goal.invariant-loop-byte
invariant-loop-byte g l =
    IsPlainFormatter l.initial.f → HasWritten g.W.Write.write_str_gives l.initial.f (flat_map blank (take l.byte-index l.text)) l.f
