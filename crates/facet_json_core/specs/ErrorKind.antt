-- The library's error: which kinds there are, and of each its code, its text and its label.
use Rattle.std.specs.Prelude.{ℕ, List, ◌++◌, Option, Some, None, codes}
use Rattle.std.specs.Char.{encode_utf8}
use Rattle.std.specs.Fmt.{◌++?◌, debug_variant, debug_char, debug_str, debug_list}
use Rattle.facet_format.specs.Complaint.{Complaint}
use Rattle.facet_format.specs.Complaint as complaint
use Rattle.facet_format.specs.Message.{read_text, end_text}
use Rattle.facet_json_serializer.specs.Serializer.{WriteRefusal}
use Rattle.facet_json_serializer.specs.Serializer as writing

-- what is wrong where no token stands
pub data Scan : Type 0 where
  unexpected_char : (character : ℕ) → Scan
  unexpected_eof : (place : List ℕ) → Scan
  invalid_utf8 : Scan

-- the kinds of errors, with the texts that they hold; the last three are refusals of this library's reader and writer, and of memory
pub data ErrorKind : Type 0 where
  scan : (error : Scan) → ErrorKind
  scan_with_context : (error : Scan) (expected_type : List ℕ) → ErrorKind
  unexpected_token : (got expected : List ℕ) → ErrorKind
  unexpected_end : (expected : List ℕ) → ErrorKind
  type_mismatch : (expected got : List ℕ) → ErrorKind
  unknown_field : (field : List ℕ) (expected : List (List ℕ)) (suggestion : Option (List ℕ)) → ErrorKind
  missing_field : (field : List ℕ) → ErrorKind
  invalid_value : (message : List ℕ) → ErrorKind
  number_out_of_range : (value target_type : List ℕ) → ErrorKind
  duplicate_key : (key : List ℕ) → ErrorKind
  not_utf8 : ErrorKind
  solver : (message : List ℕ) → ErrorKind
  io : (message : List ℕ) → ErrorKind
  read : (complaint : Complaint) → ErrorKind
  write : (refusal : WriteRefusal) → ErrorKind
  out_of_memory : ErrorKind

-- ---- codes, by which a program tells kinds apart

abbrev pub read_code : Complaint → List ℕ
read_code (complaint.unexpected_char character expected) = codes "json::scan"
read_code (complaint.unexpected_eof expected) = codes "json::unexpected_eof"
read_code (complaint.unexpected_token got expected) = codes "json::unexpected_token"
read_code complaint.invalid_utf8 = codes "json::invalid_utf8"
read_code (complaint.invalid_value message) = codes "json::invalid_value"
read_code (complaint.type_mismatch expected got) = codes "json::type_mismatch"
read_code (complaint.number_out_of_range target_type) = codes "json::number_out_of_range"
read_code (complaint.missing_field field) = codes "json::missing_field"
read_code complaint.out_of_memory = codes "json::out_of_memory"
read_code complaint.save_limit = codes "json::save_limit"

abbrev pub kind_code : ErrorKind → List ℕ
kind_code (scan error) = codes "json::scan"
kind_code (scan_with_context error expected_type) = codes "json::scan"
kind_code (unexpected_token got expected) = codes "json::unexpected_token"
kind_code (unexpected_end expected) = codes "json::unexpected_eof"
kind_code (type_mismatch expected got) = codes "json::type_mismatch"
kind_code (unknown_field field expected suggestion) = codes "json::unknown_field"
kind_code (missing_field field) = codes "json::missing_field"
kind_code (invalid_value message) = codes "json::invalid_value"
kind_code (number_out_of_range value target_type) = codes "json::number_out_of_range"
kind_code (duplicate_key key) = codes "json::duplicate_key"
kind_code not_utf8 = codes "json::invalid_utf8"
kind_code (solver message) = codes "json::solver"
kind_code (io message) = codes "json::io"
kind_code (write (writing.misfits misfit)) = codes "json::write"
kind_code (write writing.out_of_memory) = codes "json::out_of_memory"
kind_code out_of_memory = codes "json::out_of_memory"
kind_code (read c) = read_code c

-- ---- texts: the message. None is told of a debug form past ASCII, and of a writer's refusal, which shows its own

-- as the code would spell it: `UnexpectedChar('x')`, `UnexpectedEof("in string")`, `InvalidUtf8`
abbrev pub scan_text : Scan → Option (List ℕ)
scan_text (unexpected_char character) = debug_variant (codes "UnexpectedChar") (debug_char character)
scan_text (unexpected_eof place) = debug_variant (codes "UnexpectedEof") (debug_str place)
scan_text invalid_utf8 = Some (codes "InvalidUtf8")

-- such as ``unknown field `nmae`, expected one of: ["name", "age"]``
abbrev pub unknown_text : List ℕ → List (List ℕ) → Option (List ℕ)
unknown_text field expected = Some (codes "unknown field `" ++ field ++ codes "`, expected one of: ") ++? debug_list debug_str expected

abbrev pub suggestion_text : List ℕ → List ℕ
suggestion_text name = codes " (did you mean `" ++ name ++ codes "`?)"

abbrev pub error_text : ErrorKind → Option (List ℕ)
error_text (scan error) = scan_text error
error_text (scan_with_context error expected_type) =
    scan_text error ++? Some (codes " (while parsing " ++ expected_type ++ codes ")")
error_text (unexpected_token got expected) = Some (codes "unexpected token: got " ++ got ++ (codes ", expected " ++ expected))
error_text (unexpected_end expected) = Some (codes "unexpected end of input, expected " ++ expected)
error_text (type_mismatch expected got) = Some (codes "type mismatch: expected " ++ expected ++ (codes ", got " ++ got))
error_text (unknown_field field expected None) = unknown_text field expected
error_text (unknown_field field expected (Some name)) = unknown_text field expected ++? Some (suggestion_text name)
error_text (missing_field field) = Some (codes "missing required field `" ++ field ++ codes "`")
error_text (invalid_value message) = Some (codes "invalid value: " ++ message)
error_text (number_out_of_range value target_type) = Some (codes "number `" ++ value ++ (codes "` out of range for " ++ target_type))
error_text (duplicate_key key) = Some (codes "duplicate key `" ++ key ++ codes "`")
error_text not_utf8 = Some (codes "invalid UTF-8 sequence")
error_text (solver message) = Some (codes "solver error: " ++ message)
error_text (io message) = Some (codes "I/O error: " ++ message)
error_text (read c) = read_text c
error_text (write refusal) = None
error_text out_of_memory = Some (codes "out of memory")

-- ---- labels: what is said beside the bytes that the error is about

-- such as ` - did you mean 'name'?`
abbrev pub suggestion_label : Option (List ℕ) → List ℕ
suggestion_label None = codes ""
suggestion_label (Some name) = codes " - did you mean '" ++ name ++ codes "'?"

abbrev pub read_label : Complaint → List ℕ
read_label (complaint.unexpected_char character expected) = codes "expected " ++ expected
read_label (complaint.unexpected_eof expected) = end_text expected
read_label (complaint.unexpected_token got expected) = codes "expected " ++ expected ++ (codes ", got '" ++ got ++ codes "'")
read_label complaint.invalid_utf8 = codes "invalid UTF-8"
read_label (complaint.invalid_value message) = codes "invalid value"
read_label (complaint.type_mismatch expected got) = codes "expected " ++ expected ++ (codes ", got " ++ got)
read_label (complaint.number_out_of_range target_type) = codes "out of range for " ++ target_type
read_label (complaint.missing_field field) = codes "missing field '" ++ field ++ codes "'"
read_label complaint.out_of_memory = codes "out of memory"
read_label complaint.save_limit = codes "too many save points"

abbrev pub label : ErrorKind → List ℕ
label (scan (unexpected_char character)) = codes "unexpected '" ++ encode_utf8 character ++ codes "'"
label (scan (unexpected_eof place)) = codes "unexpected end of input " ++ place
label (scan invalid_utf8) = codes "invalid UTF-8 here"
label (scan_with_context (unexpected_char character) expected_type) =
    codes "unexpected '" ++ encode_utf8 character ++ (codes "', expected " ++ expected_type)
label (scan_with_context (unexpected_eof place) expected_type) = codes "unexpected end of input, expected " ++ expected_type
label (scan_with_context invalid_utf8 expected_type) = codes "invalid UTF-8 here"
label (unexpected_token got expected) = codes "expected " ++ expected ++ (codes ", got '" ++ got ++ codes "'")
label (unexpected_end expected) = codes "expected " ++ expected
label (type_mismatch expected got) = codes "expected " ++ expected ++ (codes ", got " ++ got)
label (unknown_field field expected suggestion) = codes "unknown field '" ++ field ++ (codes "'" ++ suggestion_label suggestion)
label (missing_field field) = codes "missing field '" ++ field ++ codes "'"
label (invalid_value message) = codes "invalid value"
label (number_out_of_range value target_type) = codes "out of range for " ++ target_type
label (duplicate_key key) = codes "duplicate key '" ++ key ++ codes "'"
label not_utf8 = codes "invalid UTF-8"
label (solver message) = codes "solver error"
label (io message) = codes "I/O error"
label (read c) = read_label c
label (write (writing.misfits misfit)) = codes "not written"
label (write writing.out_of_memory) = codes "out of memory"
label out_of_memory = codes "out of memory"
