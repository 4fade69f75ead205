-- How a search by a pointer is refused. It names a type of the code.
use Rattle.facet_format.specs.Complaint.{Refusal}
use Rattle.facet_format.specs.Views.{refusal_of}
use Rattle.facet_json_tree.specs.declared.pointer_error.PointerError.{PointerError}
use Rattle.facet_json.specs.declared.find_error.FindError.{FindError}
use Rattle.facet_json.specs.declared.find_error.FindError.TheVariants.{Pointer, Read}

-- Where the text is refused, this is told of it.
abbrev pub IfPointer : FindError → (PointerError → Type 0) → Type 0
IfPointer (Pointer error) Told = Told error
IfPointer (Read error) Told = Unit {0}

-- Where reading is refused, this is told of it.
abbrev pub IfRead : FindError → (Refusal → Type 0) → Type 0
IfRead (Pointer error) Told = Unit {0}
IfRead (Read error) Told = Told (refusal_of error)
