-- How tokens are refused at a place where no document goes on with them (RFC 8259, sections 2 to 7).
use Rattle.std.specs.Prelude.{◌≡◌, ℕ, Bool, true, false, List, length, None, IsSome, slice_range, codes}
use Rattle.facet_format.specs.Span.{span_at}
use Rattle.facet_json_token.specs.Token.{Kind, Token, Fault}
use Rattle.facet_json_token.specs.Token as token
use Rattle.facet_json_token.specs.Tokens.{Tokens, ended, refused, next}
use Rattle.facet_json_token.specs.Fault.{DecodeFault as TextFault, FirstFault, fault_refusal}
use Rattle.facet_json_grammar.specs.Meaning.{meaning}
use Rattle.facet_json_grammar.specs.Place.{Place, goes_on, expected_at, complaint_at_end, complaint_of_fault, kind_name}
use Rattle.facet_format.specs.Complaint.{Complaint, unexpected_char, unexpected_token, invalid_utf8, Refusal, refusal_at}

abbrev pub is_number_kind : Kind → Bool
is_number_kind (token.number start finish hint) = true
is_number_kind _ = false

-- a string or a number, whose text is judged before its place
abbrev pub needs_meaning : Kind → Bool
needs_meaning (token.string start finish has_escapes) = true
needs_meaning (token.number start finish hint) = true
needs_meaning _ = false

-- ---- how strings and numbers are refused

-- what is wrong with a number that has no value: a question mark
abbrev pub number_complaint : Complaint
number_complaint = unexpected_char 0x3f (codes "valid JSON token")

-- How a token of the buffer without a meaning is refused: a number as a question mark over all of it, a string without a backslash
-- as bytes that are not UTF-8 over all of it, and a string with one for the first fault of its content.
pub data Complains (buffer : List ℕ) (t : Token) (refusal : Refusal) : Type 0 where
  of_number : is_number_kind t.kind ≡ true → refusal ≡ refusal_at number_complaint t.span → Complains buffer t refusal
  of_plain_string : (start finish : ℕ) → t.kind ≡ token.string start finish false →
      refusal ≡ refusal_at invalid_utf8 t.span → Complains buffer t refusal
  of_escaped_string : (start finish : ℕ) (f : TextFault) → t.kind ≡ token.string start finish true →
      FirstFault (slice_range buffer start finish) f → refusal ≡ fault_refusal start f → Complains buffer t refusal

-- ---- places where no document goes on

-- At the place the tokens don't go on with a document, and are refused so. A string or number without a meaning has a refusal of
-- its own, whatever the place.
pub data IsStuck (buffer : List ℕ) : Place → Tokens → Refusal → Type 0 where
  at_end : (place : Place) →
      IsStuck buffer place ended (refusal_at (complaint_at_end place) (span_at (length buffer) 0))
  at_fault : (place : Place) (f : Fault) →
      IsStuck buffer place (refused f) (refusal_at (complaint_of_fault f.kind) f.span)
  meaningless : (place : Place) (t : Token) (rest : Tokens) (refusal : Refusal) → needs_meaning t.kind ≡ true →
      meaning buffer t ≡ None → Complains buffer t refusal → IsStuck buffer place (next t rest) refusal
  misplaced : (place : Place) (t : Token) (rest : Tokens) → (needs_meaning t.kind ≡ true → IsSome (meaning buffer t)) →
      goes_on place t.kind ≡ false →
      IsStuck buffer place (next t rest) (refusal_at (unexpected_token (kind_name buffer t.kind) (expected_at place t.kind)) t.span)
