-- What a call gives where the buffer is open.
use Rattle.std.proofs.Common.{◌≡◌, ℕ, ◌-◌, List, length, drop, Option, Some, ap, ◌∙◌}
use Rattle.facet_json_token.specs.Gap.{Mode}
use Rattle.facet_format.specs.Span.{span_at}
use Rattle.facet_json_scan.specs.Scanner.{State, Scanner, Describes, ScanAnswer, needs_more, waiting, past_growing_gap, Gives}
use Rattle.facet_json_scan.proofs.Pieces.Beginnings.{described_begins}

-- More is needed from the first byte of what is open.
pub gives-open : (buffer : List ℕ) (p start : ℕ) (mode : Mode) (state : State) (answer : Option ScanAnswer) (new : Scanner) →
    (start ≡ past_growing_gap buffer p mode) × Describes mode state (drop (past_growing_gap buffer p mode) buffer) →
    answer ≡ Some (needs_more start (span_at start (length buffer - start))) →
    new ≡ waiting (length buffer) mode start state → Gives buffer p mode answer new
gives-open buffer p start mode state answer new h e is =
    Gives.still_open state (described_begins mode state _ h.1) h.1
    (e ∙ ap (λ n. Some (needs_more n (span_at n (length buffer - n)))) h.0)
    (is ∙ ap (λ n. waiting (length buffer) mode n state) h.0)
