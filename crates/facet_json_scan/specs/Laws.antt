-- The laws of tokens, of the scanner and of strings' contents.
use Rattle.std.specs.Prelude.{◌≡◌, ◌≤◌, ◌↔◌, ℕ, List, [], ◌++◌, length, drop, Some}
use Rattle.facet_format.specs.Span.{Span}
use Rattle.facet_json_token.specs.Cut.{nothing_left, cut}
use Rattle.facet_json_token.specs.Gap.{Mode, whole, IsGap}
use Rattle.facet_json_scan.specs.Scanner.{Scanner, GoesOnFrom, needs_more, Gives}
pub use Rattle.facet_json_token.specs.Laws.{GapIsLongest, ShapeIsCut, ShapeIsUnique, FaultIsCut, FaultIsUnique, TokensAreCuts, CutStays}
pub use Rattle.facet_json_token.specs.OpenTest.{OpenIsTested}
pub use Rattle.facet_json_scan.specs.ScannerLaws.{ScanRefusalRepeats, RefusalAtEnd, PendingAgain}
pub use Rattle.facet_json_token.specs.DecodeLaws.{DecodedIsDecodes, HasTextOrFault, TextOrFault}
pub use Rattle.facet_json_token.specs.FirstFault.{FirstFaultIsFound}

-- Nothing is left at a position exactly where what is left is one gap.
abbrev pub EndIsGap : Type 0
EndIsGap = (buffer : List ℕ) (position : ℕ) (mode : Mode) →
    IsGap mode whole (drop position buffer) [] ↔ (cut buffer position mode ≡ nothing_left)

-- The scanner may be asked for the next token of the longer buffer, and goes on there from the first byte of what was open; what is cut
-- there is what is cut from where it went on before.
pub record GoesOnIn (longer : List ℕ) (p consumed : ℕ) (mode : Mode) (s : Scanner) : Type 0 where
  pub mode_stays : s.mode ≡ mode
  pub position : s.position ≤ length longer
  pub from_there : GoesOnFrom s longer consumed
  pub same_cut : cut longer consumed mode ≡ cut longer p mode

-- After an answer that more bytes are needed the scanner goes on in every longer buffer that begins with these bytes.
abbrev pub NeedMoreGoesOn : Type 0
NeedMoreGoesOn = (buffer more : List ℕ) (p consumed : ℕ) (mode : Mode) (span : Span) (new : Scanner) →
    Gives buffer p mode (Some (needs_more consumed span)) new → GoesOnIn (buffer ++ more) p consumed mode new
