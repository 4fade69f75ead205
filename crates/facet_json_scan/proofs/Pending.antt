-- What is pending at the end of the input.
use Rattle.std.proofs.Common.{◌≡◌, ◌≢◌, ℕ, ◌<◌, ◌≤◌, List, ◌∷◌, length, drop, inl, inr, ap, sym, subst, arith, length-drop}
use Rattle.std.proofs.lemmas.Bool.{cases_lt}
use Rattle.std.proofs.lemmas.List.{drop_all}
use Rattle.facet_format.specs.Bytes.{slash}
use Rattle.facet_json_token.specs.Gap.{Mode, jsonc, whole}
use Rattle.facet_json_token.specs.GapLen.{piece_len, gap_len, with_line_mark}
use Rattle.facet_json_token.specs.Cut.{nothing_left, cut_here, past_gap, cut}
use Rattle.facet_json_token.specs.Open.{IsBeginning, IsOpen}
use Rattle.facet_json_token.proofs.Gaps.{gap_len-piece, gap_len-none}
use Rattle.facet_json_token.proofs.TokensSteps.{cut-end}
use Rattle.facet_json_scan.specs.Scanner.{State, in_line, Describes, past_growing_gap}
use Rattle.facet_json_scan.proofs.Pieces.Beginnings.{described_begins}
use Rattle.facet_json_scan.proofs.FoundPastGap.{growing_gap-none}
use Rattle.facet_json_scan.proofs.NoPiece.{no_piece_but_line, open_no_piece, opens_line-none}

-- Where something is cut, the position lies within the buffer.
pub something_within : (buffer : List ℕ) (p : ℕ) (mode : Mode) → cut buffer p mode ≢ nothing_left → p < length buffer
something_within buffer p mode some =
    elim (cases_lt p (length buffer)) [ inl h ↦ h | inr h ↦ absurd (some (cut-end buffer p mode h)) ]

-- The gap before it is not all that is left.
gap_not_all : (buffer : List ℕ) (p : ℕ) (mode : Mode) → cut buffer p mode ≢ nothing_left →
    gap_len mode whole (drop p buffer) ≢ length (drop p buffer)
unfolding cut cut_here
gap_not_all buffer p mode some all =
    let at = past_gap buffer p mode in
    let room = something_within buffer p mode some in
    let ends : length buffer ≤ at = omega (arith, all, length-drop p buffer) in
    some (ap (cut_here mode at) (drop_all at buffer ends))

-- An open line comment is all gap of a whole input, so what is pending before something else is none.
no_line : (mode : Mode) (state : State) (bytes : List ℕ) → Describes mode state bytes →
    gap_len mode whole bytes ≢ length bytes → state ≡ in_line → ⊥
no_line _ _ _ (Describes.line body h) more e =
    let bytes = slash ∷ slash ∷ body in
    let all : piece_len jsonc whole bytes ≡ length bytes = ap (with_line_mark whole body) (opens_line-none body h) in
    let rest : gap_len jsonc whole (drop (length bytes) bytes) ≡ 0 =
    gap_len-none jsonc whole _ (ap (piece_len jsonc whole) (drop_all (length bytes) bytes (omega arith))) in
    more (omega (arith, rest, gap_len-piece jsonc whole (length bytes) bytes all (omega arith)))
no_line mode state bytes d more e = cc

-- What is pending before something stands where no gap is before it, and the buffer is open there.
pub pending_here : (buffer : List ℕ) (start : ℕ) (mode : Mode) (state : State) → Describes mode state (drop start buffer) →
    cut buffer start mode ≢ nothing_left → (past_gap buffer start mode ≡ start) × IsOpen buffer start mode
pending_here buffer start mode state d some =
    let bytes = drop start buffer in
    let other = no_line mode state bytes d (gap_not_all buffer start mode some) in
    let none : gap_len mode whole bytes ≡ 0 =
    gap_len-none mode whole bytes (no_piece_but_line mode whole state bytes d other) in
    let grows : past_growing_gap buffer start mode ≡ start =
    growing_gap-none mode buffer start (open_no_piece mode state bytes d) in
    (omega arith, subst (λ n. IsBeginning mode (drop n buffer)) (sym grows) (described_begins mode state bytes d))
