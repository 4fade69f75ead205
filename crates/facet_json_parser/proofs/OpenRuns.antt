-- Passing an open run goes on while a bracket is open.
use Rattle.std.proofs.Common.{◌≡◌, ℕ, suc, true, false, List, [], ◌∷◌, Option, Some, None, Result, Ok, Err, MatchResult, refl}
use Rattle.std.specs.Option.{is_some}
use Rattle.facet_format.specs.declared.event.ContainerKind.{ContainerKind as RustContainerKind}
use Rattle.facet_format.specs.declared.event.Span.{Span as RustSpan}
use Rattle.facet_json_reader.specs.declared.refusal.Refused.{Refused}
use Rattle.facet_format.specs.Event.{ContainerKind}
use Rattle.facet_format.specs.Span.{Span}
use Rattle.facet_format.specs.Views.{span_of}
use Rattle.facet_json_token.specs.Gap.{Mode}
use Rattle.facet_json_reader.specs.PlaceViews.{innermost_of, refused_of}
use Rattle.facet_json_parser.specs.Inner.Leads.{RunComesTo, whole, run_opening, run_tokens, AreOpen}
use Rattle.facet_json_parser.specs.RunViews.{AnswersRun, IsRunRefused}
use Rattle.facet_json_parser.proofs.RunSteps.{leads-ends}

-- nothing, where no bracket is open
abbrev pub left_of : List ContainerKind → ℕ → ℕ
left_of [] n = 0
left_of (kind ∷ around) n = suc n

-- An innermost bracket is open.
pub opened : (o : Option RustContainerKind) (stack : List ContainerKind) → innermost_of o stack → is_some o ≡ true → AreOpen stack
opened None stack h e = cc
opened (Some kind) stack h e = rw h.1 tt

-- Where there is none, none is open.
pub closed : (o : Option RustContainerKind) (stack : List ContainerKind) → innermost_of o stack → is_some o ≡ false → stack ≡ []
closed None stack h e = h
closed (Some kind) stack h e = cc

-- Where the brackets are closed, the run has ended.
pub answers : (buffer : List ℕ) (mode : Mode) (kind : ContainerKind) (first last : Span) (r : Result RustSpan Refused) →
    MatchResult r (λ s. RunComesTo buffer mode [] (span_of s) (whole buffer mode kind first)) (λ e. IsRunRefused buffer last (run_tokens buffer mode kind first) (refused_of e)) →
    AnswersRun buffer mode (run_opening buffer mode kind first) last r
answers buffer mode kind first last (Ok s) l = leads-ends buffer mode [] kind first (span_of s) refl l
answers buffer mode kind first last (Err e) p = p
