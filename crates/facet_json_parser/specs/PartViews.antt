-- What the parts of the code stand for in the definitions, and what a skip and a capture of one answer.
use Rattle.std.specs.Prelude.{◌≡◌, ℕ, true, List, Some, Result, Ok, Err}
use Rattle.facet_format.specs.Complaint.{Refusal}
use Rattle.facet_format.specs.Cursor.{no_memory_at}
use Rattle.facet_format.specs.Event.{ContainerKind}
use Rattle.facet_format.specs.Part.{Part, has_brackets, skip_of, capture_of}
use Rattle.facet_format.specs.Span.{Span, stop}
use Rattle.facet_format.specs.Views.{span_of}
use Rattle.facet_json_token.specs.Token.{Kind, Token}
use Rattle.facet_json_token.specs.Tokens.{next}
use Rattle.facet_json_token.specs.TokenList.{tokens_from}
use Rattle.facet_json_token.specs.Views.{kind_of}
use Rattle.facet_json_grammar.specs.Future.{around}
use Rattle.facet_json_grammar.specs.Reader.{Reader}
use Rattle.facet_json_grammar.specs.Language.{Language, gaps, rules}
use Rattle.facet_json_grammar.specs.Place.{Place, names, place_turn}
use Rattle.facet_json_grammar.specs.Unread.{begins_value, closes_container, past_value, past_key, PartFrom, PartAt}
use Rattle.facet_json_parser.specs.declared.part.Part.{Part as RustPart}
use Rattle.facet_json_parser.specs.declared.part.Part.TheVariants as parts

-- the bytes of a part's first token
abbrev pub first_span_of : RustPart → Span
first_span_of (parts.Value t) = span_of t.span
first_span_of (parts.Key s) = span_of s
first_span_of (parts.Closing s) = span_of s

-- At the place the part begins with a token of this kind.
abbrev pub Begins : Place → RustPart → Kind → Type 0
Begins place (parts.Value first) kind = (kind_of first.token ≡ Some kind) × (begins_value (place_turn place kind) ≡ true)
Begins place (parts.Key s) kind = place_turn place kind ≡ names
Begins place (parts.Closing s) kind = closes_container (place_turn place kind) ≡ true

-- its first token
abbrev pub token_of_part : RustPart → Kind → Token
token_of_part part kind = record { kind = kind; span = first_span_of part }

-- The part stands first at the reader: what begins with its token, at a place after separators, stands there.
pub record IsFirst (buffer : List ℕ) (language : Language) (s : Reader) (part : RustPart) : Type 0 where
  pub place : Place
  pub kind : Kind
  pub begins : Begins place part kind
  pub leads : (p : Part Reader) →
      PartFrom buffer (rules language) s.stack place (next (token_of_part part kind) (tokens_from buffer (gaps language) (stop (first_span_of part)))) p →
      PartAt buffer language s p

-- after a part whose last token takes these bytes, in these containers
abbrev pub after_part : RustPart → Span → List ContainerKind → Reader
after_part (parts.Value first) last stack = past_value last stack
after_part (parts.Key s) last stack = past_key last stack
after_part (parts.Closing s) last stack = past_value last (around stack)

-- What stands there is passed up to a token, or refused, while the last token before it was this one.
pub data Skips (buffer : List ℕ) (language : Language) (s : Reader) (last : Span) (part : RustPart) : Result Span Refusal → Type 0 where
  skips : (p : Part Reader) (final : Span) → PartAt buffer language s p → skip_of p ≡ Ok (after_part part final s.stack) →
      Skips buffer language s last part (Ok final)
  skips_without_memory : (p : Part Reader) → PartAt buffer language s p → has_brackets p ≡ true →
      Skips buffer language s last part (Err (no_memory_at last))
  skips_nothing : (p : Part Reader) (r : Refusal) → PartAt buffer language s p → skip_of p ≡ Err r →
      Skips buffer language s last part (Err r)

-- What stands there is a value with these bytes, which is passed up to a token; or it is refused.
pub data Captures (buffer : List ℕ) (language : Language) (s : Reader) (last : Span) (part : RustPart) :
    Result (List ℕ × Span) Refusal → Type 0 where
  captures : (p : Part Reader) (text : List ℕ) (final : Span) → PartAt buffer language s p →
      capture_of buffer p ≡ Ok (text, after_part part final s.stack) → Captures buffer language s last part (Ok (text, final))
  captures_without_memory : (p : Part Reader) → PartAt buffer language s p → has_brackets p ≡ true →
      Captures buffer language s last part (Err (no_memory_at last))
  captures_nothing : (p : Part Reader) (r : Refusal) → PartAt buffer language s p → capture_of buffer p ≡ Err r →
      Captures buffer language s last part (Err r)
