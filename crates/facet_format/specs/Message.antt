-- What is said of a reader's refusal. None is told of a debug form past ASCII.
use Rattle.std.specs.Prelude.{ℕ, List, ◌++◌, Option, Some, Bool, codes, nat_eq, if◌then◌else◌}
use Rattle.std.specs.List.{starts_with}
use Rattle.std.specs.Fmt.{◌++?◌, debug_char}
use Rattle.facet_format.specs.Complaint.{Complaint}
use Rattle.facet_format.specs.Complaint as complaint

-- what is asked at the end of an input is what comes next there, such as `value`, or where the input breaks off, such as `in string`
abbrev pub tells_where : List ℕ → Bool
tells_where expected = starts_with nat_eq expected (codes "in ")

abbrev pub end_text : List ℕ → List ℕ
end_text expected = codes "unexpected end of input" ++
    ((if tells_where expected then codes " " else codes ", expected ") ++ expected)

abbrev pub read_text : Complaint → Option (List ℕ)
read_text (complaint.unexpected_char character expected) =
    Some (codes "unexpected character ") ++? debug_char character ++? Some (codes ", expected " ++ expected)
read_text (complaint.unexpected_eof expected) = Some (end_text expected)
read_text (complaint.unexpected_token got expected) = Some (codes "unexpected token: got " ++ got ++ (codes ", expected " ++ expected))
read_text complaint.invalid_utf8 = Some (codes "invalid UTF-8 sequence")
read_text (complaint.invalid_value message) = Some (codes "invalid value: " ++ message)
read_text (complaint.type_mismatch expected got) = Some (codes "type mismatch: expected " ++ expected ++ (codes ", got " ++ got))
read_text (complaint.number_out_of_range target_type) = Some (codes "number out of range for " ++ target_type)
read_text (complaint.missing_field field) = Some (codes "missing required field `" ++ field ++ codes "`")
read_text complaint.out_of_memory = Some (codes "out of memory")
read_text complaint.save_limit = Some (codes "too many save points")
