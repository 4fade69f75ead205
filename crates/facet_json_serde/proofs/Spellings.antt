-- Names that a case leaves as they stand, and those of which it makes the letters small.
use Rattle.std.proofs.Common.{◌≡◌, ◌==◌, ℕ, Bool, true, Option, Some, None, List, [], ◌∷◌, map, refl, ap}
use Rattle.std.specs.Char.{to_ascii_lowercase as lower}
use Rattle.serde.specs.Spelling.{mark_of, byte_of, spelled_from, spelled}
use Rattle.serde.specs.declared.name.Case.{Case}
use Rattle.serde.specs.declared.name.Case.TheVariants.{AsIs, Lower, Snake}
use Rattle.serde.specs.declared.name.NameKind.{NameKind}
use Rattle.serde.specs.declared.name.NameKind.TheVariants.{Field, Variant}

lowered_from : (first begins : Bool) (name : List ℕ) → spelled_from Lower Variant first begins name ≡ map lower name
lowered_from first begins [] = refl
lowered_from first begins (b ∷ name) = ap (λ bytes. lower b ∷ bytes) (lowered_from _ (b == 95) name)

pub lowered : (name : List ℕ) → spelled Lower Variant name ≡ map lower name
unfolding spelled
lowered name = lowered_from true true name

-- A case that puts no mark before a byte, and leaves each as it is, leaves the name so.
unchanged : (case : Case) (kind : NameKind) → ((first : Bool) (b : ℕ) → mark_of case kind first b ≡ None) →
    ((first begins : Bool) (b : ℕ) → byte_of case kind first begins b ≡ Some b) →
    (first begins : Bool) (name : List ℕ) → spelled_from case kind first begins name ≡ name
unchanged case kind unmarked same first begins [] = refl
unchanged case kind unmarked same first begins (b ∷ name) =
    rw (unmarked first b, same first begins b) (ap (λ bytes. b ∷ bytes) (unchanged case kind unmarked same _ (b == 95) name))

pub as_it_is : (kind : NameKind) (name : List ℕ) → spelled AsIs kind name ≡ name
unfolding spelled
as_it_is Field name = unchanged AsIs Field (λ _ _. refl) (λ _ _ _. refl) true true name
as_it_is Variant name = unchanged AsIs Variant (λ _ _. refl) (λ _ _ _. refl) true true name

pub small_field : (name : List ℕ) → spelled Lower Field name ≡ name
unfolding spelled
small_field name = unchanged Lower Field (λ _ _. refl) (λ _ _ _. refl) true true name

pub snake_field : (name : List ℕ) → spelled Snake Field name ≡ name
unfolding spelled
snake_field name = unchanged Snake Field (λ _ _. refl) (λ _ _ _. refl) true true name
