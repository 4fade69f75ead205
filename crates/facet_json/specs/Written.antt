-- How the members of an object are written.
use Rattle.std.specs.Prelude.{◌≡◌, Bool, true, false, List, [], ◌∷◌, Option, Some, None}
use Rattle.facet_format.specs.SerializerCall.{TakesAll}
use Rattle.facet_json_grammar.specs.Tree.{Pairs}
use Rattle.facet_json_serializer.specs.Serializer.{Opened, in_struct, in_list, Writing, Takes}
use Rattle.facet_json_serializer.specs.TreeCalls.{member_calls}

-- The members' calls were taken, one after the other: each key, and its value.
abbrev pub HasWrittenMembers : Option Writing → Pairs → Option Writing → Type 0
HasWrittenMembers old members new = TakesAll Takes old (member_calls members) new

-- whether the innermost open container is an object
abbrev pub is_in_struct : List Opened → Bool
is_in_struct [] = false
is_in_struct (in_struct first ∷ around) = true
is_in_struct (in_list first ∷ around) = false

-- A member may come next, or memory ran out.
abbrev pub IsWithinStruct : Option Writing → Type 0
IsWithinStruct None = Unit {0}
IsWithinStruct (Some w) = is_in_struct w.stack ≡ true
