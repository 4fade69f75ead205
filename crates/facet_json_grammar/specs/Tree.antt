-- The values that are read and written, as JSON has them (RFC 8259, section 3) and as Rust tells them apart.
use Rattle.std.specs.Prelude.{ℕ, Bool, List, ℤ}

mutual
  pub data Tree : Type 0 where
    null : Tree
    unit : Tree
    bool : Bool → Tree
    char : ℕ → Tree
    i64 : ℤ → Tree
    u64 : ℕ → Tree
    i128 : ℤ → Tree
    u128 : ℕ → Tree
    -- a number's text
    decimal : List ℕ → Tree
    -- in UTF-8
    text : List ℕ → Tree
    bytes : List ℕ → Tree
    -- JSON text
    raw : List ℕ → Tree
    list : Trees → Tree
    pairs : Pairs → Tree

  pub data Trees : Type 0 where
    no_trees : Trees
    tree : Tree → Trees → Trees

  pub data Pairs : Type 0 where
    no_pairs : Pairs
    pair : List ℕ → Tree → Pairs → Pairs
