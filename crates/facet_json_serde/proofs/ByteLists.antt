-- Bytes, as the test of a list.
use Rattle.std.proofs.Common.{◌≡◌, ℕ, suc, ◌<◌, true, nat_lt, List, [], ◌∷◌, refl}
use Rattle.std.specs.Prelude.{slice_index}
use Rattle.std.specs.List.{list_all}
use Rattle.std.proofs.lemmas.Bool.{and_from, lt-ltb}

-- bytes, each of which is one
pub bytes-below : (bytes : List ℕ) → ((i : ℕ) → slice_index bytes i < 256) → list_all (λ b. nat_lt b 0x100) bytes ≡ true
bytes-below [] below = refl
bytes-below (b ∷ bytes) below =
    let others = bytes-below bytes (λ i. below (suc i)) in and_from (nat_lt b 0x100) _ (lt-ltb b 0x100 (below 0)) others
