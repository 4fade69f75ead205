-- What stands at a place of an input, its text unread: no string is decoded, and no number's value is read (RFC 8259, section 2).
use Rattle.std.specs.Prelude.{◌≡◌, ℕ, Bool, true, false, not, List, [], length, Result, Ok, Err, codes}
use Rattle.facet_format.specs.Complaint.{unexpected_eof, unexpected_token, Refusal, refusal_at}
use Rattle.facet_format.specs.Event.{ContainerKind, struct_start, struct_end, sequence_start, sequence_end}
use Rattle.facet_format.specs.Part.{Part, value, broken, key, closing, nothing}
use Rattle.facet_format.specs.Span.{Span, span_at, stop}
use Rattle.facet_json_token.specs.Token.{Kind, Token, Fault, number}
use Rattle.facet_json_token.specs.Tokens.{Tokens, ended, refused, next}
use Rattle.facet_json_token.specs.TokenList.{tokens_from}
use Rattle.facet_json_grammar.specs.Language.{Language, gaps, Rules, rules}
use Rattle.facet_json_grammar.specs.Node.{is_scalar}
use Rattle.facet_json_grammar.specs.Place.{Place, after_key, after_colon, Turn, passes, says, says_scalar, names, place_turn, goes_on, led, kind_name, expected_at, complaint_at_end, complaint_of_fault}
use Rattle.facet_json_grammar.specs.Run.{Run, BreaksOff}
use Rattle.facet_json_grammar.specs.Future.{Stage, within, over, after_value, around}
use Rattle.facet_json_grammar.specs.Reader.{Reader}

-- ---- refusals

-- how a token is called whose text isn't read
abbrev pub unread_name : Kind → List ℕ
unread_name (number start finish hint) = codes "Number"
unread_name kind = kind_name [] kind

-- At the place the tokens don't go on with a document, whatever their texts mean, and are refused so.
pub data IsStuckUnread (buffer : List ℕ) : Place → Tokens → Refusal → Type 0 where
  at_end : (place : Place) →
      IsStuckUnread buffer place ended (refusal_at (complaint_at_end place) (span_at (length buffer) 0))
  at_fault : (place : Place) (f : Fault) →
      IsStuckUnread buffer place (refused f) (refusal_at (complaint_of_fault f.kind) f.span)
  misplaced : (place : Place) (t : Token) (rest : Tokens) → goes_on place t.kind ≡ false →
      IsStuckUnread buffer place (next t rest) (refusal_at (unexpected_token (unread_name t.kind) (expected_at place t.kind)) t.span)

-- ---- parts

-- whether a token begins a value
abbrev pub begins_value : Turn → Bool
begins_value (says (struct_start kind)) = true
begins_value (says (sequence_start kind)) = true
begins_value says_scalar = true
begins_value _ = false

-- whether it closes a container
abbrev pub closes_container : Turn → Bool
closes_container (says struct_end) = true
closes_container (says sequence_end) = true
closes_container _ = false

-- after a value whose last token takes these bytes, in these containers
abbrev pub past_value : Span → List ContainerKind → Reader
past_value s stack = record { last = s; stack = stack; stage = after_value stack }

-- after a key whose colon takes these bytes, in these containers
abbrev pub past_key : Span → List ContainerKind → Reader
past_key s stack = record { last = s; stack = stack; stage = within after_colon }

-- After a key's string its colon stands, and this place is after it; or it is missing, and the tokens are refused so.
pub data HasColon (buffer : List ℕ) (stack : List ContainerKind) : Tokens → Result Reader Refusal → Type 0 where
  colon_stands : (mark : Token) (rest : Tokens) → goes_on after_key mark.kind ≡ true →
      HasColon buffer stack (next mark rest) (Ok (past_key mark.span stack))
  colon_missing : (ts : Tokens) (r : Refusal) → IsStuckUnread buffer after_key ts r → HasColon buffer stack ts (Err r)

-- At a place within these containers the tokens begin with this part, after separators.
pub data PartFrom (buffer : List ℕ) (by : Rules) (stack : List ContainerKind) : Place → Tokens → Part Reader → Type 0 where
  separator : (place other : Place) (t : Token) (rest : Tokens) (part : Part Reader) → place_turn place t.kind ≡ passes other →
      PartFrom buffer by stack (led by other) rest part → PartFrom buffer by stack place (next t rest) part
  -- a run, which ends with the last token
  a_value : (place : Place) (t last : Token) (rest others : Tokens) → begins_value (place_turn place t.kind) ≡ true →
      Run (next t rest) last others →
      PartFrom buffer by stack place (next t rest)
      (value (not (is_scalar t.kind)) t.span.offset (stop last.span) (past_value last.span stack))
  a_broken_value : (place : Place) (t : Token) (rest : Tokens) (r : Refusal) → begins_value (place_turn place t.kind) ≡ true →
      BreaksOff buffer (next t rest) r → PartFrom buffer by stack place (next t rest) (broken r)
  a_key : (place : Place) (t : Token) (rest : Tokens) (result : Result Reader Refusal) → place_turn place t.kind ≡ names →
      HasColon buffer stack rest result → PartFrom buffer by stack place (next t rest) (key t.span.offset result)
  a_closing : (place : Place) (t : Token) (rest : Tokens) → closes_container (place_turn place t.kind) ≡ true →
      PartFrom buffer by stack place (next t rest) (closing t.span.offset (past_value t.span (around stack)))
  none_of_them : (place : Place) (ts : Tokens) (r : Refusal) → IsStuckUnread buffer place ts r →
      PartFrom buffer by stack place ts (nothing r)

-- after the root, no value
abbrev pub PartIn : List ℕ → Language → Reader → Stage → Part Reader → Type 0
PartIn buffer language s over part = part ≡ nothing (refusal_at (unexpected_eof (codes "value")) (span_at (stop s.last) 0))
PartIn buffer language s (within place) part = PartFrom buffer (rules language) s.stack place (tokens_from buffer (gaps language) (stop s.last)) part

-- What stands at a place of the input.
abbrev pub PartAt : List ℕ → Language → Reader → Part Reader → Type 0
PartAt buffer language s part = PartIn buffer language s s.stage part
