-- The run that begins with an opening bracket, computed: which brackets are open after each token.
use Rattle.std.specs.Prelude.{ℕ, List, [], ◌∷◌, length, codes}
use Rattle.facet_format.specs.Complaint.{unexpected_eof, unexpected_token, Refusal, refusal_at}
use Rattle.facet_format.specs.Event.{ContainerKind, object, array}
use Rattle.facet_format.specs.Span.{Span, span_at}
use Rattle.facet_json_token.specs.Token.{Kind, Token, object_start, object_end, array_start, array_end}
use Rattle.facet_json_token.specs.Tokens.{Tokens, ended, refused, next}
use Rattle.facet_json_grammar.specs.Place.{complaint_of_fault}
use Rattle.facet_json_grammar.specs.Run.{other, closing_text}

-- what a token does where brackets are open
pub data Passing : Type 0 where
  -- these are open after it, the innermost first
  leaves : List ContainerKind → Passing
  -- it closes another than the innermost, and is refused so
  crosses : Refusal → Passing

-- how a closing bracket is refused that isn't of this kind
abbrev pub not_closing : ContainerKind → Span → Refusal
not_closing kind s = refusal_at (unexpected_token (closing_text (other kind)) (closing_text kind)) s

-- a bracket closes one of the second kind, where the first kind is the innermost
abbrev pub closing_one : ContainerKind → ContainerKind → List ContainerKind → Span → Passing
closing_one object object around s = leaves around
closing_one array array around s = leaves around
closing_one object array around s = crosses (not_closing object s)
closing_one array object around s = crosses (not_closing array s)

-- a token of this kind within the innermost bracket, which stands in the others
abbrev pub passing : ContainerKind → List ContainerKind → Span → Kind → Passing
passing innermost around s object_start = leaves (object ∷ innermost ∷ around)
passing innermost around s array_start = leaves (array ∷ innermost ∷ around)
passing innermost around s object_end = closing_one innermost object around s
passing innermost around s array_end = closing_one innermost array around s
passing innermost around s _ = leaves (innermost ∷ around)

-- how the run ends
pub data Outcome : Type 0 where
  -- with this token, and these follow it
  closes : Token → Tokens → Outcome
  -- it breaks off, and is refused so
  stops : Refusal → Outcome

-- what follows a token after which these brackets are open
unfoldable pub passed : List ℕ → List ContainerKind → Token → Tokens → Outcome
passed buffer [] last rest = closes last rest
passed buffer (kind ∷ around) last ended = stops (refusal_at (unexpected_eof (codes "value")) (span_at (length buffer) 0))
passed buffer (kind ∷ around) last (refused f) = stops (refusal_at (complaint_of_fault f.kind) f.span)
passed buffer (kind ∷ around) last (next t rest) = elim (passing kind around t.span t.kind) [ leaves brackets ↦ passed buffer brackets t rest | crosses refusal ↦ stops refusal ]
