-- What a decoder of strings returns (RFC 8259, section 7).
use Rattle.std.specs.Prelude.{ℕ, ◌≡◌, ◌-◌, List, false, slice_range, IsUtf8}
use Rattle.facet_json_token.specs.declared.decode.DecodeError.{DecodeError}
use Rattle.facet_json_token.specs.declared.decode.DecodeError.TheVariants as decode
use Rattle.facet_format.specs.Complaint.{Refusal}
use Rattle.facet_format.specs.Complaint as complaint
use Rattle.facet_json_token.specs.declared.fault.Fault.{Fault}
use Rattle.facet_json_token.specs.declared.token.ScanError.{ScanError}
use Rattle.facet_json_token.specs.declared.token.ScanErrorKind.TheVariants.{InvalidUtf8}
use Rattle.facet_json_token.specs.declared.decode.DecodeError.TheVariants.{Scan, OutOfMemory}
use Rattle.facet_json_token.specs.Fault.{DecodeFault, FirstFault, fault_refusal}
pub use Rattle.facet_json_token.specs.Cut.{has_backslash}
use Rattle.facet_json_token.specs.Views.{scan_refusal, SaysFault}

-- how a refused decode is passed on
abbrev pub decode_refusal : DecodeError → Refusal
decode_refusal (decode.Scan e) = scan_refusal e
decode_refusal decode.OutOfMemory = complaint.no_memory

-- The content is text that stands for itself.
abbrev pub IsItsText : List ℕ → Type 0
IsItsText content = (has_backslash content ≡ false) × IsUtf8 content

-- This is the refusal of a content that starts there in the buffer, for its first fault.
pub record IsFirstRefusal (content : List ℕ) (start : ℕ) (refusal : Refusal) : Type 0 where
  pub fault : DecodeFault
  pub is_first : FirstFault content fault
  pub told : refusal ≡ fault_refusal start fault

-- Such a content is refused with its first fault.
abbrev pub TellsFirstFault : List ℕ → ℕ → ScanError → Type 0
TellsFirstFault content start e = IsFirstRefusal content start (scan_refusal e)

-- The same, or memory ran out.
abbrev pub RefusesContent : List ℕ → ℕ → ℕ → DecodeError → Type 0
RefusesContent buffer start finish (Scan e) = TellsFirstFault (slice_range buffer start finish) start e
RefusesContent buffer start finish OutOfMemory = Unit {0}

-- the refusal of a whole content as no UTF-8
abbrev pub whole_refused : ℕ → ℕ → DecodeError
whole_refused start finish =
    Scan (record { kind = InvalidUtf8; span = record { offset = start; len = finish - start } })

-- A decode is refused with this fault.
abbrev pub SaysScan : Fault → DecodeError → Type 0
SaysScan f (Scan e) = SaysFault f e
SaysScan f OutOfMemory = ⊥
