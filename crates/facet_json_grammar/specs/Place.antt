-- Where a reader stands in a document that is not whole yet, what goes on there, and what else is refused with (RFC 8259, sections 2 to 5).
use Rattle.std.specs.Prelude.{ℕ, Bool, true, false, cond, List, Option, Some, None, codes, slice_range}
use Rattle.facet_format.specs.NumberValue.{Number}
use Rattle.facet_format.specs.NumberValue as numbers
use Rattle.facet_format.specs.Event.{object, array, EventKind}
use Rattle.facet_format.specs.Event as event
use Rattle.facet_format.specs.Complaint.{Complaint, unexpected_char, unexpected_eof, unexpected_token}
use Rattle.facet_json_token.specs.Token.{Kind, FaultKind}
use Rattle.facet_json_token.specs.Token as token
use Rattle.facet_json_grammar.specs.Language.{Rules, lenient_rules, strict_rules}
use Rattle.facet_json_grammar.specs.Node.{is_scalar, is_string}

-- where no value has begun yet, or what stands before, within the innermost open container
pub data Place : Type 0 where
  root : Place
  -- after `{`, or after a comma in an object
  before_key : Place
  after_key : Place
  after_colon : Place
  after_member : Place
  -- after `[`, or after a comma in an array
  before_item : Place
  after_item : Place
  -- after a comma in an object, and in an array, where none may stand before a closing bracket
  next_key : Place
  next_item : Place
  -- behind the root, where nothing may stand
  after_root : Place

-- what a token is to a document at a place
pub data Turn : Type 0 where
  -- no document goes on with it
  stops : Turn
  -- it gives no event, and this place follows
  passes : Place → Turn
  -- it gives an event
  says : EventKind → Turn
  -- it is a scalar
  says_scalar : Turn
  -- it is a key, whose event is given with its colon
  names : Turn

-- where a value may stand
abbrev pub value_turn : Kind → Turn
value_turn token.object_start = says (event.struct_start object)
value_turn token.array_start = says (event.sequence_start array)
value_turn kind = cond (is_scalar kind) says_scalar stops

abbrev pub place_turn : Place → Kind → Turn
place_turn root kind = value_turn kind
place_turn before_key token.object_end = says event.struct_end
place_turn before_key kind = cond (is_string kind) names stops
place_turn after_key token.colon = passes after_colon
place_turn after_colon kind = value_turn kind
place_turn after_member token.comma = passes before_key
place_turn after_member token.object_end = says event.struct_end
place_turn before_item token.array_end = says event.sequence_end
place_turn before_item kind = value_turn kind
place_turn after_item token.comma = passes before_item
place_turn after_item token.array_end = says event.sequence_end
place_turn next_key kind = cond (is_string kind) names stops
place_turn next_item kind = value_turn kind
place_turn _ _ = stops

abbrev pub leads_on : Turn → Bool
leads_on stops = false
leads_on _ = true

-- whether a document may go on at the place with such a token
abbrev pub goes_on : Place → Kind → Bool
goes_on place kind = leads_on (place_turn place kind)

-- the place that a separator leads to, where the place is this one in a lenient document
abbrev pub led : Rules → Place → Place
led lenient_rules place = place
led strict_rules before_key = next_key
led strict_rules before_item = next_item
led strict_rules place = place

-- ---- refusals

-- how a number is called in a refusal
abbrev pub number_name : Option Number → List ℕ
number_name None = codes "Number"
number_name (Some (numbers.u64 n)) = codes "U64"
number_name (Some (numbers.u128 n)) = codes "U128"
number_name (Some (numbers.i64 n)) = codes "I64"
number_name (Some (numbers.i128 n)) = codes "I128"
number_name (Some (numbers.decimal text)) = codes "Decimal"

-- how a token of the buffer is called in a refusal
abbrev pub kind_name : List ℕ → Kind → List ℕ
kind_name buffer token.object_start = codes "ObjectStart"
kind_name buffer token.object_end = codes "ObjectEnd"
kind_name buffer token.array_start = codes "ArrayStart"
kind_name buffer token.array_end = codes "ArrayEnd"
kind_name buffer token.colon = codes "Colon"
kind_name buffer token.comma = codes "Comma"
kind_name buffer token.null = codes "Null"
kind_name buffer token.true_literal = codes "True"
kind_name buffer token.false_literal = codes "False"
kind_name buffer (token.string start finish has_escapes) = codes "String"
kind_name buffer (token.number start finish hint) = number_name (numbers.number (slice_range buffer start finish) hint)

-- what is expected before an item where this token stands
abbrev pub expected_item : Kind → List ℕ
expected_item token.comma = codes "value or ']'"
expected_item token.colon = codes "value or ']'"
expected_item _ = codes "value"

-- what is expected at the place where this token stands, with which the document can't go on
abbrev pub expected_at : Place → Kind → List ℕ
expected_at root kind = codes "value"
expected_at before_key kind = codes "field name or '}'"
expected_at after_key kind = codes "':'"
expected_at after_colon kind = codes "value"
expected_at after_member kind = codes "',' or '}'"
expected_at before_item kind = expected_item kind
expected_at after_item kind = codes "',' or ']'"
expected_at next_key kind = codes "field name"
expected_at next_item kind = codes "value"
expected_at after_root kind = codes "end of input"

-- the complaint at the end of the input
abbrev pub complaint_at_end : Place → Complaint
complaint_at_end root = unexpected_eof (codes "value")
complaint_at_end before_key = unexpected_eof (codes "field name or '}'")
complaint_at_end after_key = unexpected_token (codes "Eof") (codes "':'")
complaint_at_end after_colon = unexpected_eof (codes "value")
complaint_at_end after_member = unexpected_eof (codes "',' or '}'")
complaint_at_end before_item = unexpected_eof (codes "value or ']'")
complaint_at_end after_item = unexpected_eof (codes "',' or ']'")
complaint_at_end next_key = unexpected_eof (codes "field name")
complaint_at_end next_item = unexpected_eof (codes "value")
complaint_at_end after_root = unexpected_eof (codes "end of input")

-- the complaint of a fault
abbrev pub complaint_of_fault : FaultKind → Complaint
complaint_of_fault (token.unexpected_char c) = unexpected_char c (codes "valid JSON token")
complaint_of_fault (token.unexpected_eof text) = unexpected_eof text
