-- How the parts of a pointer are read.
use Rattle.std.specs.Prelude.{ℕ, ◌==◌, ◌&&◌, List, [], ◌∷◌, if◌then◌else◌}
use Rattle.facet_format.specs.Bytes.{slash}
use Rattle.facet_json_tree.specs.Pointer.{tilde}

-- what a token stands for
abbrev pub unescaped : List ℕ → List ℕ
unescaped [] = []
unescaped (b ∷ []) = b ∷ []
unescaped (b ∷ c ∷ bytes) =
    if (b == tilde) && (c == 0x30) then tilde ∷ unescaped bytes else if (b == tilde) && (c == 0x31) then slash ∷ unescaped bytes else b ∷ unescaped (c ∷ bytes)

-- what stands before the first slash, or all
abbrev pub before_slash : List ℕ → List ℕ
before_slash [] = []
before_slash (b ∷ bytes) = if b == slash then [] else b ∷ before_slash bytes
