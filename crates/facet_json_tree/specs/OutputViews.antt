-- What a refusal tells. The one file of the definitions that names types of the code.
use Rattle.std.specs.Prelude.{ℕ, List, Option, Some, None, codes}
use Rattle.facet_json_tree.specs.declared.error.WriteError.{WriteError}
use Rattle.facet_json_tree.specs.declared.error.WriteError.TheVariants.{Memory, Io}

-- the number of its kind
abbrev pub write_error_code : WriteError → ℕ
write_error_code Memory = 1
write_error_code (Io error) = 2

-- how it is displayed, where that does not hang on what the writer's error says
abbrev pub message : WriteError → Option (List ℕ)
message Memory = Some (codes "out of memory")
message (Io error) = None

-- It is the writer's own error, and not out of memory.
abbrev pub IsIo : WriteError → Type 0
IsIo Memory = ⊥
IsIo (Io error) = Unit {0}
