-- Which names are those of methods.
use Rattle.std.specs.Prelude.{◌≢◌, ℕ, List, codes}

-- No method has this name.
abbrev pub IsUnknown : List ℕ → Type 0
IsUnknown name = (name ≢ codes "sum") × (name ≢ codes "length") × (name ≢ codes "echo")
