-- What may be shown on a terminal.
use Rattle.std.specs.Prelude.{◌≢◌, ◌≤◌, ℕ, List}
use Rattle.std.specs.List.{All}

-- No byte of the text is a control character of ASCII.
abbrev pub IsHarmless : List ℕ → Type 0
IsHarmless text = All (λ b. (0x20 ≤ b) × (b ≢ 0x7F)) text
