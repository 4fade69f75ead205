-- The containers that are open, as the code holds them: the innermost by itself, and those around it, the outermost first.
use Rattle.std.specs.Prelude.{◌≡◌, List, [], ◌∷◌, map, reverse, Option, Some, None, Bool, false}
use Rattle.facet_json_serializer.specs.declared.writing.Container.{Container}
use Rattle.facet_json_serializer.specs.declared.writing.Container.TheVariants as container
use Rattle.facet_json_serializer.specs.Serializer.{Opened, in_struct, in_list}

abbrev pub opened_of : Container → Opened
opened_of (container.Struct first) = in_struct first
opened_of (container.List first) = in_list first

-- those around the innermost one, from the inside out
abbrev pub outwards : List Container → List Opened
outwards others = reverse (map opened_of others)

abbrev pub all_open : Option Container → List Container → List Opened
all_open None others = []
all_open (Some c) others = opened_of c ∷ outwards others

-- nothing stands around nothing
abbrev pub IsPlaced : Option Container → List Container → Type 0
IsPlaced None others = others ≡ []
IsPlaced (Some c) others = Unit {0}

-- whether the innermost one is still empty, if it is a struct
abbrev pub struct_mark : List Opened → Option Bool
struct_mark [] = None
struct_mark (in_struct first ∷ others) = Some first
struct_mark (in_list first ∷ others) = None

-- whether the innermost one is still empty, if it is a list
abbrev pub list_mark : List Opened → Option Bool
list_mark [] = None
list_mark (in_struct first ∷ others) = None
list_mark (in_list first ∷ others) = Some first

abbrev pub around_innermost : List Opened → List Opened
around_innermost [] = []
around_innermost (c ∷ others) = others

-- the innermost one holds something
abbrev pub with_first_passed : List Opened → List Opened
with_first_passed [] = []
with_first_passed (in_struct first ∷ others) = in_struct false ∷ others
with_first_passed (in_list first ∷ others) = in_list false ∷ others
