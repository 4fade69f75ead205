-- What the types of the code stand for in the definitions.
use Rattle.std.specs.Prelude.{List, ℕ, map, Option, Some, None, string_bytes}
use Rattle.std.specs.Option.{option_map}
use Rattle.facet_format.specs.declared.event.Span.{Span}
use Rattle.facet_format.specs.Views.{complaint_of}
use Rattle.facet_json_token.specs.declared.token.ScanErrorKind.{ScanErrorKind}
use Rattle.facet_json_token.specs.declared.token.ScanErrorKind.TheVariants as scan
use Rattle.facet_json_token.specs.declared.decode.DecodeError.{DecodeError}
use Rattle.facet_json_token.specs.declared.decode.DecodeError.TheVariants as decode
use Rattle.facet_json_serializer.specs.Views.{write_refusal_of}
use Rattle.facet_json_core.specs.declared.kind.JsonErrorKind.{JsonErrorKind}
use Rattle.facet_json_core.specs.declared.kind.JsonErrorKind.TheVariants as rust
use Rattle.facet_json_core.specs.declared.error.JsonError.{JsonError}
use Rattle.facet_json_core.specs.ErrorKind.{Scan, ErrorKind}
use Rattle.facet_json_core.specs.ErrorKind as kind

abbrev pub scan_of : ScanErrorKind → Scan
scan_of (scan.UnexpectedChar c) = kind.unexpected_char c
scan_of (scan.UnexpectedEof place) = kind.unexpected_eof place.now
scan_of scan.InvalidUtf8 = kind.invalid_utf8

abbrev pub error_kind_of : JsonErrorKind → ErrorKind
error_kind_of (rust.Scan error) = kind.scan (scan_of error)
error_kind_of (rust.ScanWithContext error expected_type) = kind.scan_with_context (scan_of error) expected_type.now
error_kind_of (rust.UnexpectedToken got expected) = kind.unexpected_token (string_bytes got) expected.now
error_kind_of (rust.UnexpectedEof expected) = kind.unexpected_end expected.now
error_kind_of (rust.TypeMismatch expected got) = kind.type_mismatch expected.now got.now
error_kind_of (rust.UnknownField field expected suggestion) =
    kind.unknown_field (string_bytes field) (map (λ t. t.now) expected.items) (option_map (λ t. t.now) suggestion)
error_kind_of (rust.MissingField field object_start object_end) = kind.missing_field field.now
error_kind_of (rust.InvalidValue message) = kind.invalid_value (string_bytes message)
error_kind_of (rust.NumberOutOfRange value target_type) = kind.number_out_of_range (string_bytes value) target_type.now
error_kind_of (rust.DuplicateKey key) = kind.duplicate_key (string_bytes key)
error_kind_of rust.InvalidUtf8 = kind.not_utf8
error_kind_of (rust.Solver message) = kind.solver (string_bytes message)
error_kind_of (rust.Io message) = kind.io (string_bytes message)
error_kind_of (rust.Read refused) = kind.read (complaint_of refused)
error_kind_of (rust.Write refused) = kind.write (write_refusal_of refused)
error_kind_of rust.OutOfMemory = kind.out_of_memory

-- the error of this kind that is about these bytes, with no source
abbrev pub error_at : JsonErrorKind → Option Span → JsonError
error_at k span = record { kind = k; span = span; source_code = None }

-- the source that an error keeps
abbrev pub error_source_of : JsonError → Option (List ℕ)
error_source_of e = option_map string_bytes e.source_code

-- what a refused decode becomes
abbrev pub decode_error : DecodeError → JsonError
decode_error (decode.Scan e) = error_at (rust.Scan e.kind) (Some e.span)
decode_error decode.OutOfMemory = error_at rust.OutOfMemory None
