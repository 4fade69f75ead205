-- The documents that stand one after another in an input, with gaps between them (RFC 8259, section 2), as values of a type.
use Rattle.std.specs.Prelude.{◌≡◌, ◌+◌, ◌<◌, ℕ, Bool, true, List, Option, Some, None, Result, Ok, Err, length, drop}
use Rattle.std.specs.Option.{option_map}
use Rattle.facet_format.specs.Complaint.{Refusal}
use Rattle.facet_format.specs.Span.{span_at}
use Rattle.facet_format.specs.Views.{refusal_of}
use Rattle.facet_format.specs.declared.error.DeserializeError.{DeserializeError}
use Rattle.facet_json_token.specs.Gap.{plain}
use Rattle.facet_json_token.specs.Cut.{past_gap}
use Rattle.facet_json_grammar.specs.Language.{lenient}
use Rattle.facet_json_grammar.specs.Node.{Node}
use Rattle.facet_json_grammar.specs.UnreadLaws.{RefusalWithin}
use Rattle.facet_json_facet.specs.Inputs.{BeginsWithDocument, BeginsWithRunTo, IsReadFrom, IsUnreadFrom, IsToldOf}

-- An input, and the offset up to which it was read.
pub record Documents : Type 0 where
  pub input : List ℕ
  pub at : ℕ

-- What is left of it.
abbrev pub rest : Documents → List ℕ
rest d = drop d.at d.input

-- All was read.
abbrev pub read_up : Documents → Documents
read_up d = record { input = d.input; at = length d.input }

-- The offset after a document that ends there in what is left.
abbrev pub after : Documents → ℕ → Documents
after d end = record { input = d.input; at = d.at + end }

-- A refusal of what stands at an offset of an input, told of the input.
abbrev pub moved : ℕ → Refusal → Refusal
moved from r = record { complaint = r.complaint; span = option_map (λ s. span_at (from + s.offset) s.len) r.span }

-- What the next call answers, and what it leaves: nothing where a gap alone is left; else the value of the document that comes, as
-- `from_slice_prefix` reads it, and what is behind it is left; or that one's refusal, and nothing is left. A type that reads `whole`
-- documents has a value only where a document comes.
pub data NextGives {T V : Type 0} (reading : List ℕ → Node → Option V) (view : T → V) (owned : T → Type 0) (whole : Bool) (old new : Documents) : Option (Result T DeserializeError) → Type 0 where
  nothing : past_gap (rest old) 0 plain ≡ length (rest old) → new ≡ read_up old → NextGives reading view owned whole old new None
  value : (v : T) (end : ℕ) → BeginsWithRunTo (rest old) plain end → IsReadFrom reading (rest old) plain (view v) → owned v →
      (whole ≡ true → BeginsWithDocument (rest old) plain) → new ≡ after old end → NextGives reading view owned whole old new (Some (Ok v))
  refused : (e : DeserializeError) (r : Refusal) → past_gap (rest old) 0 plain < length (rest old) → refusal_of e ≡ moved old.at r →
      IsUnreadFrom reading (rest old) plain r → RefusalWithin (rest old) r → IsToldOf (rest old) (lenient plain) r →
      new ≡ read_up old → NextGives reading view owned whole old new (Some (Err e))
