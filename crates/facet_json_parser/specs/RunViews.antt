-- What passing a run answers.
use Rattle.std.specs.Prelude.{◌≡◌, ℕ, List, Result, Ok, Err, codes}
use Rattle.facet_format.specs.declared.event.Span.{Span as RustSpan}
use Rattle.facet_json_reader.specs.declared.refusal.Refused.{Refused}
use Rattle.facet_format.specs.Complaint.{Refusal, refusal_at, unexpected_eof}
use Rattle.facet_format.specs.Cursor.{no_memory_at}
use Rattle.facet_format.specs.Event.{ContainerKind}
use Rattle.facet_format.specs.Span.{Span, stop}
use Rattle.facet_format.specs.Views.{span_of}
use Rattle.facet_json_token.specs.Gap.{Mode}
use Rattle.facet_json_token.specs.Token.{Token}
use Rattle.facet_json_token.specs.Tokens.{Tokens, next}
use Rattle.facet_json_token.specs.TokenList.{tokens_from}
use Rattle.facet_json_grammar.specs.Run.{opening, Run, BreaksOff}
use Rattle.facet_json_reader.specs.PlaceViews.{refused_of}

-- A run's last token takes these bytes, and the tokens go on after them.
pub record EndsRun (buffer : List ℕ) (mode : Mode) (ts : Tokens) (s : Span) : Type 0 where
  pub last : Token
  pub is_last : s ≡ last.span
  pub run : Run ts last (tokens_from buffer mode (stop s))

-- The run that these tokens begin with isn't passed, while this was the last token: it breaks off and is refused so; or there is
-- no memory for the brackets that are open.
pub data IsRunRefused (buffer : List ℕ) (last : Span) : Tokens → Refusal → Type 0 where
  breaks_off : (ts : Tokens) (refusal : Refusal) → BreaksOff buffer ts refusal → IsRunRefused buffer last ts refusal
  without_memory : (kind : ContainerKind) (first : Token) (inner : Tokens) → first.kind ≡ opening kind →
      IsRunRefused buffer last (next first inner) (no_memory_at last)

-- From this token on, which is cut off the buffer, the run is passed, or refused.
abbrev pub AnswersRun : List ℕ → Mode → Token → Span → Result RustSpan Refused → Type 0
AnswersRun buffer mode first last (Ok s) = EndsRun buffer mode (next first (tokens_from buffer mode (stop first.span))) (span_of s)
AnswersRun buffer mode first last (Err r) =
    IsRunRefused buffer last (next first (tokens_from buffer mode (stop first.span))) (refused_of r)

-- how the end is refused inside of a run
abbrev pub value_expected : Span → Refusal
value_expected s = refusal_at (unexpected_eof (codes "value")) s
