-- Laws of the scanner over a buffer that grows. Each is the contract of a function of the module `laws` of `facet_json_scan`.
use Rattle.std.specs.Prelude.{◌≡◌, ℕ, ◌-◌, List, length, take, drop, Option, Some}
use Rattle.facet_format.specs.Span.{span_at}
use Rattle.facet_json_token.specs.Gap.{Mode}
use Rattle.facet_json_token.specs.Token.{Fault}
use Rattle.facet_json_token.specs.Cut.{fault, cut}
use Rattle.facet_json_token.specs.Open.{IsOpen}
use Rattle.facet_json_scan.specs.Scanner.{Scanner, State, pending_at, idle, Describes, GoesOnFrom, ScanAnswer, needs_more, refuses, Gives, first_unread, stands_at_end}

-- After a refusal the same call refuses alike, and leaves the scanner as it is.
abbrev pub ScanRefusalRepeats : Type 0
ScanRefusalRepeats = (buffer : List ℕ) (p : ℕ) (mode : Mode) (f : Fault) (new : Scanner) →
    Gives buffer p mode (Some (refuses f)) new →
    (q : ℕ) (answer : Option ScanAnswer) (after : Scanner) → GoesOnFrom new buffer q → Gives buffer q new.mode answer after →
    (answer ≡ Some (refuses f)) × (after ≡ new)

-- Where the buffer was said to be the whole input, and the answer was a refusal, the next call on that buffer needs more bytes,
-- of what was refused, if the buffer is open there, and else it refuses alike.
abbrev pub RefusalAtEnd : Type 0
RefusalAtEnd = (buffer : List ℕ) (s : Scanner) (f : Fault) (answer : Option ScanAnswer) (after : Scanner) →
    s.position ≡ length buffer → cut (take s.position buffer) (first_unread s) s.mode ≡ fault f →
    let at = stands_at_end s (take s.position buffer) (fault f) in
    Gives buffer at s.mode answer after →
    (IsOpen buffer at s.mode → (answer ≡ Some (needs_more at (span_at at (length buffer - at))))
    × (after.position ≡ length buffer) × (first_unread after ≡ at))
    × ((IsOpen buffer at s.mode → ⊥) → (answer ≡ Some (refuses f)) × (after ≡ idle at s.mode))

-- It needs more bytes again where what was pending fits the buffer, and from the same byte on.
abbrev pub PendingAgain : Type 0
PendingAgain = (buffer : List ℕ) (s : Scanner) (start : ℕ) (state : State) (f : Fault) →
    s.position ≡ length buffer → s.pending ≡ pending_at start state →
    Describes s.mode state (drop start (take s.position buffer)) →
    cut (take s.position buffer) (first_unread s) s.mode ≡ fault f →
    let at = stands_at_end s (take s.position buffer) (fault f) in
    (at ≡ start) × IsOpen buffer at s.mode
