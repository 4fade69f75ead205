-- Two cursors that stand alike, each at places of its own; and what stands alike at two places.
use Rattle.std.specs.Prelude.{◌≡◌, ℕ, Bool, List, [], ◌∷◌, Ok}
use Rattle.facet_format.specs.Complaint.{Refusal}
use Rattle.facet_format.specs.Cursor.{Spot, Cursor}
use Rattle.facet_format.specs.Part.{Part, value, key, closing, nothing}

-- Both are at places that are alike, and an event was peeked at in both or in neither.
pub record SpotsAlike {P Q : Type 0} (like : P → Q → Type 0) (s : Spot P) (t : Spot Q) : Type 0 where
  pub place : like s.place t.place
  pub peeked : s.peeked ≡ t.peeked

-- The same points are kept, each at a spot that is alike.
pub data KeptAlike {P Q : Type 0} (like : P → Q → Type 0) : List (ℕ × Spot P) → List (ℕ × Spot Q) → Type 0 where
  none_kept : KeptAlike like [] []
  one_kept : (point : ℕ) (s : Spot P) (t : Spot Q) (ss : List (ℕ × Spot P)) (ts : List (ℕ × Spot Q)) → SpotsAlike like s t →
      KeptAlike like ss ts → KeptAlike like ((point, s) ∷ ss) ((point, t) ∷ ts)

pub record CursorsAlike {P Q : Type 0} (like : P → Q → Type 0) (c : Cursor P) (d : Cursor Q) : Type 0 where
  pub spot : SpotsAlike like c.spot d.spot
  pub refusal : c.refusal ≡ d.refusal
  pub kept : KeptAlike like c.kept d.kept
  pub counter : c.counter ≡ d.counter

-- The same stands at two places, and leads to places that are alike.
pub data PartsAlike {P Q : Type 0} (like : P → Q → Type 0) : Part P → Part Q → Type 0 where
  same_value : (brackets : Bool) (start finish : ℕ) (p : P) (q : Q) → like p q →
      PartsAlike like (value brackets start finish p) (value brackets start finish q)
  same_key : (start : ℕ) (p : P) (q : Q) → like p q → PartsAlike like (key start (Ok p)) (key start (Ok q))
  same_closing : (start : ℕ) (p : P) (q : Q) → like p q → PartsAlike like (closing start p) (closing start q)
  both_nothing : (r : Refusal) → PartsAlike like (nothing r) (nothing r)
