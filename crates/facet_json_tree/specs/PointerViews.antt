-- What a refusal of a pointer tells. It names a type of the code.
use Rattle.std.specs.Prelude.{◌≡◌, ℕ, true, false, List, Option, Some, ◌++◌, codes}
use Rattle.std.specs.Fmt.{decimal}
use Rattle.facet_json_tree.specs.Pointer.{begins_pointer, lone_tilde, IsNoPointer}
use Rattle.facet_json_tree.specs.declared.pointer_error.PointerError.{PointerError}
use Rattle.facet_json_tree.specs.declared.pointer_error.PointerError.TheVariants.{NoSlash, LoneTilde}

-- where it says that the text is wrong
abbrev pub IsWrongAt : List ℕ → PointerError → Type 0
IsWrongAt text NoSlash = begins_pointer text ≡ false
IsWrongAt text (LoneTilde i) = (begins_pointer text ≡ true) × (lone_tilde text ≡ Some i)

-- The text is no pointer, and the refusal says where.
pub record RefusesPointer (text : List ℕ) (error : PointerError) : Type 0 where
  pub none : IsNoPointer text
  pub at : IsWrongAt text error

-- the byte of the text where it is wrong
abbrev pub offset_of : PointerError → ℕ
offset_of NoSlash = 0
offset_of (LoneTilde i) = i

-- how it is displayed
abbrev pub pointer_message : PointerError → Option (List ℕ)
pointer_message NoSlash = Some (codes "a JSON pointer is empty or begins with `/`")
pointer_message (LoneTilde i) =
    Some (codes "`~` at byte " ++ decimal i ++ codes " of a JSON pointer is followed by neither `0` nor `1`")
