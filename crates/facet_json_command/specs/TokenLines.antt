-- The lines that `tokens` prints.
use Rattle.std.specs.Prelude.{◌≡◌, ℕ, List, [], ◌++◌, Some, codes}
use Rattle.facet_format.specs.declared.event.Span.{Span as RustSpan}
use Rattle.facet_format.specs.Number.{Hint, unsigned, signed, float}
use Rattle.facet_format.specs.Span.{Span, span_at}
use Rattle.facet_format.specs.Views.{span_of}
use Rattle.facet_json_token.specs.Token as token
use Rattle.facet_json_token.specs.Token.{Kind, Token, FaultKind}
use Rattle.facet_json_token.specs.Tokens.{Tokens, ended, refused, next}
use Rattle.facet_json_command.specs.declared.run.Outcome.{Outcome}
use Rattle.facet_json_command.specs.declared.run.Outcome.TheVariants.{Done, Refused}
use Rattle.facet_json_command.specs.Lines.{place_line, value_line}

-- what stands in a number
abbrev pub hint_name : Hint → List ℕ
hint_name unsigned = codes "Unsigned"
hint_name signed = codes "Signed"
hint_name float = codes "Float"

-- the line of a token of this kind, as `Colon 3+1`, and of a number with what stands in it, as `Number 0+2 Unsigned`
abbrev pub token_kind_line : Kind → Span → List ℕ
token_kind_line token.object_start span = place_line (codes "ObjectStart") span
token_kind_line token.object_end span = place_line (codes "ObjectEnd") span
token_kind_line token.array_start span = place_line (codes "ArrayStart") span
token_kind_line token.array_end span = place_line (codes "ArrayEnd") span
token_kind_line token.colon span = place_line (codes "Colon") span
token_kind_line token.comma span = place_line (codes "Comma") span
token_kind_line token.null span = place_line (codes "Null") span
token_kind_line token.true_literal span = place_line (codes "True") span
token_kind_line token.false_literal span = place_line (codes "False") span
token_kind_line (token.string start finish has_escapes) span = place_line (codes "String") span
token_kind_line (token.number start finish hint) span = value_line (codes "Number") span (hint_name hint)

abbrev pub token_line : Token → List ℕ
token_line t = token_kind_line t.kind t.span

-- a line for each token, and one for the end of an input of this length, as `Eof 2+0`
abbrev pub token_lines : (len : ℕ) → Tokens → List ℕ
token_lines len ended = place_line (codes "Eof") (span_at len 0)
token_lines len (refused f) = []
token_lines len (next t others) = token_line t ++ token_lines len others

-- the number of a fault: 1 for a character that stands there, 2 for the end
abbrev pub fault_code : FaultKind → ℕ
fault_code (token.unexpected_char c) = 1
fault_code (token.unexpected_eof text) = 2

-- Behind these tokens a run ends so: all is done, or the fault is told by its number and its bytes.
abbrev pub EndAs : Tokens → Outcome → Type 0
EndAs ended outcome = outcome ≡ Done
EndAs (refused f) outcome = (span : RustSpan) × (outcome ≡ Refused (fault_code f.kind) (Some span)) × (span_of span ≡ f.span)
EndAs (next t others) outcome = EndAs others outcome
