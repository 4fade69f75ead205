-- The balanced run of a value: its tokens, whatever stands between its brackets; and how one breaks off (RFC 8259, section 2).
use Rattle.std.specs.Prelude.{◌≡◌, ℕ, Bool, true, false, List, length, codes}
use Rattle.facet_format.specs.Complaint.{unexpected_eof, unexpected_token, Refusal, refusal_at}
use Rattle.facet_format.specs.Event.{ContainerKind, object, array}
use Rattle.facet_format.specs.Span.{span_at}
use Rattle.facet_json_token.specs.Token.{Kind, Token, Fault, object_start, object_end, array_start, array_end, colon, comma}
use Rattle.facet_json_token.specs.Tokens.{Tokens, ended, refused, next}
use Rattle.facet_json_grammar.specs.Node.{is_scalar}
use Rattle.facet_json_grammar.specs.Place.{complaint_of_fault}

-- `{` or `[`
abbrev pub opening : ContainerKind → Kind
opening object = object_start
opening array = array_start

-- `}` or `]`
abbrev pub closing : ContainerKind → Kind
closing object = object_end
closing array = array_end

abbrev pub is_separator : Kind → Bool
is_separator comma = true
is_separator colon = true
is_separator _ = false

mutual
  -- The tokens begin with a run, whose last token is this one, and the rest follows it: a scalar's token; or a bracket, then runs,
  -- commas and colons in any order, and the bracket that closes it.
  pub data Run : Tokens → Token → Tokens → Type 0 where
    one_token : (t : Token) (rest : Tokens) → is_scalar t.kind ≡ true → Run (next t rest) t rest
    brackets : (kind : ContainerKind) (first last : Token) (inner rest : Tokens) → first.kind ≡ opening kind →
        RunsInside inner (next last rest) → last.kind ≡ closing kind → Run (next first inner) last rest

  -- The tokens begin with runs, commas and colons in any order, and the rest follows them.
  pub data RunsInside : Tokens → Tokens → Type 0 where
    nothing : (rest : Tokens) → RunsInside rest rest
    separator : (t : Token) (ts rest : Tokens) → is_separator t.kind ≡ true → RunsInside ts rest → RunsInside (next t ts) rest
    a_run : (ts others rest : Tokens) (last : Token) → Run ts last others → RunsInside others rest → RunsInside ts rest

-- ---- how a run breaks off

abbrev pub other : ContainerKind → ContainerKind
other object = array
other array = object

-- how a closing bracket is called in a refusal
abbrev pub closing_text : ContainerKind → List ℕ
closing_text object = codes "'}'"
closing_text array = codes "']'"

-- The tokens begin with an opening bracket, and break off before the one that closes it. They are refused so.
pub data BreaksOff (buffer : List ℕ) : Tokens → Refusal → Type 0 where
  -- The input ends inside.
  ends_inside : (kind : ContainerKind) (first : Token) (inner : Tokens) → first.kind ≡ opening kind → RunsInside inner ended →
      BreaksOff buffer (next first inner) (refusal_at (unexpected_eof (codes "value")) (span_at (length buffer) 0))
  -- A fault stands inside.
  fault_inside : (kind : ContainerKind) (first : Token) (inner : Tokens) (f : Fault) → first.kind ≡ opening kind →
      RunsInside inner (refused f) → BreaksOff buffer (next first inner) (refusal_at (complaint_of_fault f.kind) f.span)
  -- A bracket of the other kind is to close it.
  crossed : (kind : ContainerKind) (first last : Token) (inner rest : Tokens) → first.kind ≡ opening kind →
      RunsInside inner (next last rest) → last.kind ≡ closing (other kind) →
      BreaksOff buffer (next first inner) (refusal_at (unexpected_token (closing_text (other kind)) (closing_text kind)) last.span)
  -- A bracket inside breaks off.
  nested : (kind : ContainerKind) (first : Token) (inner others : Tokens) (refusal : Refusal) → first.kind ≡ opening kind →
      RunsInside inner others → BreaksOff buffer others refusal → BreaksOff buffer (next first inner) refusal
