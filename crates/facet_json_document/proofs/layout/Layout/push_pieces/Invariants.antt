-- Up to the offset the text is laid out.
use Rattle.std.proofs.Common.{◌-◌, length}
use Rattle.facet_json_token.specs.Views.{mode_of}
use Rattle.facet_json_document.specs.Inner.Layout.{IsLaidOut}
use Rattle.facet_json_document.proofs.layout.Layout.push_pieces.Given as goal

abbrev pub invariant-loop-byte : goal.invariant-loop-byte
invariant-loop-byte l = IsLaidOut (mode_of l.self.mode) l.self.text.now l.progress.at l.progress.last l.out

abbrev pub decreases-loop-byte : goal.decreases-loop-byte
decreases-loop-byte l = length l.self.text.now - l.progress.at
