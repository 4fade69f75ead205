-- What is pending in the code's scanner, and what its parts find.
use Rattle.std.specs.Prelude.{ℕ, Option, Some, None, Result, Ok, Err, IfErr, ◌≡◌, ◌≤◌, List, length, ◌+◌, ◌<◌, drop, slice_get}
use Rattle.facet_json_token.specs.declared.token.SpannedToken.{SpannedToken}
use Rattle.facet_json_token.specs.declared.token.ScanError.{ScanError}
use Rattle.facet_format.specs.Span.{stop}
use Rattle.facet_json_token.specs.Gap.{Mode, growing}
use Rattle.facet_json_token.specs.GapLen.{piece_len}
use Rattle.facet_json_token.specs.Cut.{cut_here, cut, past_gap}
use Rattle.facet_format.specs.Bytes.{slash}
use Rattle.facet_json_scan.specs.declared.scanner.pending.NumberPart.{NumberPart as RustPart}
use Rattle.facet_json_scan.specs.declared.scanner.pending.NumberPart.TheVariants as part
use Rattle.facet_json_scan.specs.declared.scanner.pending.State.{State as RustState}
use Rattle.facet_json_scan.specs.declared.scanner.pending.State.TheVariants as state
use Rattle.facet_json_scan.specs.declared.scanner.pending.Pending.{Pending as RustPending}
use Rattle.facet_json_scan.specs.declared.scanner.token.Found.{Found}
use Rattle.facet_json_scan.specs.declared.scanner.token.Found.TheVariants as found
use Rattle.facet_json_scan.specs.declared.scanner.gap.Piece.{Piece}
use Rattle.facet_json_scan.specs.declared.scanner.gap.Piece.TheVariants as piece
use Rattle.facet_json_token.specs.Open.{IsBeginning, IsOpen}
use Rattle.facet_json_scan.specs.Scanner.{NumberPart, in_digits, in_fraction, at_mark, in_exponent, State, in_text, in_word, in_number, after_slash, in_line, in_block, Pending, nothing_pending, pending_at, answer_for, Describes, past_growing_gap}
use Rattle.facet_json_scan.specs.ScannerViews.{answered, span_answered, IndicesWithin}

abbrev pub number_part_of : RustPart → NumberPart
number_part_of part.Digits = in_digits
number_part_of part.Fraction = in_fraction
number_part_of part.Mark = at_mark
number_part_of part.Exponent = in_exponent

abbrev pub state_of : RustState → State
state_of (state.Text escaped has_escapes) = in_text escaped has_escapes
state_of state.Word = in_word
state_of (state.Number p) = in_number (number_part_of p)
state_of state.Slash = after_slash
state_of state.Line = in_line
state_of (state.Block after_star) = in_block after_star

abbrev pub pending_of : Option RustPending → Pending
pending_of None = nothing_pending
pending_of (Some p) = pending_at p.start (state_of p.state)

-- where a scanner stands after this answer about what starts at `start`
abbrev pub position_after : ℕ → Result SpannedToken ScanError → ℕ
position_after start (Ok t) = t.span.offset + t.span.len
position_after start (Err e) = start

-- At `at` stands this piece of a gap.
abbrev pub PieceHere : Mode → List ℕ → ℕ → Piece → Type 0
PieceHere mode buffer at (piece.Closed end) = end ≡ at + piece_len mode growing (drop at buffer)
PieceHere mode buffer at (piece.Open s) = Describes mode (state_of s) (drop at buffer)
PieceHere mode buffer at piece.Absent = (piece_len mode growing (drop at buffer) ≡ 0)
    × (slice_get buffer at ≡ Some slash → IsBeginning mode (drop at buffer) → ⊥)

-- A piece has bytes, and ends within the first `last`.
abbrev pub PieceWithin : ℕ → ℕ → Piece → Type 0
PieceWithin at last (piece.Closed end) = (at < end) × (end ≤ last)
PieceWithin at last (piece.Open s) = at < last
PieceWithin at last piece.Absent = Unit {0}

-- At `start`, where no gap is before it, this is found.
abbrev pub FoundHere : Mode → List ℕ → ℕ → Found → Type 0
FoundHere mode buffer start (found.Answer at result) = (at ≡ start)
    × (answered result ≡ Some (answer_for (length buffer) (cut_here mode start (drop start buffer))))
    × (IsBeginning mode (drop start buffer) → ⊥)
FoundHere mode buffer start (found.Open at s) = (at ≡ start) × Describes mode (state_of s) (drop start buffer)

-- From p on, a gap before it, this is found.
abbrev pub FoundFrom : Mode → List ℕ → ℕ → Found → Type 0
FoundFrom mode buffer p (found.Answer at result) = (at ≡ past_gap buffer p mode)
    × (answered result ≡ Some (answer_for (length buffer) (cut buffer p mode)))
    × (IsOpen buffer p mode → ⊥)
FoundFrom mode buffer p (found.Open at s) = (at ≡ past_growing_gap buffer p mode)
    × Describes mode (state_of s) (drop (past_growing_gap buffer p mode) buffer)

-- A refusal is what is cut at `at`, where no gap is before it and the buffer isn't open.
abbrev pub FoundRefused : Mode → List ℕ → ℕ → Result SpannedToken ScanError → Type 0
FoundRefused mode buffer at result = IfErr result (λ _. FoundFrom mode buffer at (found.Answer at result))

-- So is one that is found.
abbrev pub RefusedThere : Mode → List ℕ → Found → Type 0
RefusedThere mode buffer (found.Answer at result) = FoundRefused mode buffer at result
RefusedThere mode buffer (found.Open at s) = Unit {0}

-- What is found stands within the first `last` bytes.
abbrev pub FoundWithin : ℕ → Found → Type 0
FoundWithin last (found.Answer at result) = (at ≤ last) × (stop (span_answered result) ≤ last) × IndicesWithin last result
FoundWithin last (found.Open at s) = at < last

-- At `at`, where no gap is before it, this token is found, and further bytes don't change it.
abbrev pub IsWholeToken : Mode → List ℕ → ℕ → SpannedToken → Type 0
IsWholeToken mode buffer at t = FoundFrom mode buffer at (found.Answer at (Ok t)) × FoundWithin (length buffer) (found.Answer at (Ok t))
