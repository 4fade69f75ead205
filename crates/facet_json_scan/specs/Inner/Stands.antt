-- What is known between two reads, after a refusal, and at the end.
use Rattle.std.specs.Prelude.{◌≡◌, ℕ, ◌≤◌, Bool, true, false, List, ◌++◌, length, Option, Some, None}
use Rattle.std.specs.List.{All}
use Rattle.facet_json_token.specs.declared.token.SpannedToken.{SpannedToken}
use Rattle.facet_json_token.specs.declared.token.ScanError.{ScanError}
use Rattle.facet_json_token.specs.Gap.{Mode}
use Rattle.facet_json_token.specs.Tokens.{Tokens, AreCuts}
use Rattle.facet_json_scan.specs.Scanner.{Scanner, ScanAnswer, cuts, GoesOnFrom}
use Rattle.facet_json_scan.specs.Listed.{tokens_of_list, rest_after, AreAllOf, StandsWithin, ScanRefusalWithin}

-- whether a token is answered
abbrev pub is_cut : Option ScanAnswer → Bool
is_cut (Some (cuts t)) = true
is_cut _ = false

-- The scanner stands behind these tokens of the buffer: whatever bytes follow, the tokens of all bytes are these, and then those from
-- where the scanner goes on.
pub record Stands (buffer : List ℕ) (tokens : List SpannedToken) (s : Scanner) : Type 0 where
  pub start : ℕ
  pub goes_on : GoesOnFrom s buffer start
  pub within : start ≤ length buffer
  pub position_within : s.position ≤ length buffer
  pub fit : All (StandsWithin (length buffer)) tokens
  pub so_far : (more : List ℕ) (others : Tokens) → AreCuts (buffer ++ more) s.mode start others →
      AreAllOf (buffer ++ more) s.mode (tokens_of_list tokens (Some others))

-- Whatever bytes follow the buffer, the tokens of all bytes are these, and then this refusal.
pub record IsScanRefused (buffer : List ℕ) (mode : Mode) (tokens : List SpannedToken) (e : ScanError) : Type 0 where
  pub fit : All (StandsWithin (length buffer)) tokens
  pub refusal_fits : ScanRefusalWithin (length buffer) (Some e)
  pub all : (more : List ℕ) → AreAllOf (buffer ++ more) mode (tokens_of_list tokens (rest_after (Some e)))

-- The buffer is scanned to its end, or to a refusal.
abbrev pub IsScanned : List ℕ → Mode → List SpannedToken → Scanner → Option ScanError → Type 0
IsScanned buffer mode tokens s None = Stands buffer tokens s × (s.position ≡ length buffer) × (s.mode ≡ mode)
IsScanned buffer mode tokens s (Some e) = IsScanRefused buffer mode tokens e

-- The tokens of the buffer alone are these, and then the end or this refusal.
pub record IsFinished (buffer : List ℕ) (mode : Mode) (tokens : List SpannedToken) (refusal : Option ScanError) : Type 0 where
  pub fit : All (StandsWithin (length buffer)) tokens
  pub refusal_fits : ScanRefusalWithin (length buffer) refusal
  pub all : AreAllOf buffer mode (tokens_of_list tokens (rest_after refusal))
