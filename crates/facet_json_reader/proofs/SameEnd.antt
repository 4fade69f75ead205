-- Two places of one run.
use Rattle.std.proofs.Common.{◌≡◌, ℕ, ◌+◌, ◌≤◌, Bool, List, length, drop}
use Rattle.std.specs.List.{prefix_len}

-- From both on, the run of bytes that pass ends at the same place.
pub record SameEnd (passes : ℕ → Bool) (buffer : List ℕ) (from at : ℕ) : Type 0 where
  pub ahead : from ≤ at
  pub within : at ≤ length buffer
  pub same : from + prefix_len passes (drop from buffer) ≡ at + prefix_len passes (drop at buffer)
