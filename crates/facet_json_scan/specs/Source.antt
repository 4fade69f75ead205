-- What a read of a source tells of its end.
use Rattle.std.specs.Prelude.{ℕ, Bool, false, ◌==◌, ◌&&◌, nat_lt, List, length, Result, Ok, Err}

-- whether a read gave no byte, though there was room
abbrev pub gives_nothing : {E : Type 0} → Result ℕ E → List ℕ → Bool
gives_nothing (Ok n) piece = (n == 0) && nat_lt 0 (length piece)
gives_nothing (Err e) piece = false
