-- Text after a byte that is ASCII.
use Rattle.std.proofs.Common.{ℕ, ◌<◌, List, [], ◌∷◌, arith}
use Rattle.std.specs.Prelude.{IsUtf8}
use Rattle.std.proofs.lemmas.Bool.Decides.{nat_tests}
use Rattle.std.proofs.lemmas.Str.{encode_ascii, IsUtf8-append, IsUtf8-encode}

-- An ASCII byte before text is text.
pub ascii-before : (b : ℕ) (bytes : List ℕ) → b < 128 → IsUtf8 bytes → IsUtf8 (b ∷ bytes)
ascii-before b bytes small is =
    let one = encode_ascii b small in
    let first = rw one at (IsUtf8-encode b (grind (arith, nat_tests))) in
    IsUtf8-append (b ∷ []) bytes first is
