-- A value that is taken of an event.
use Rattle.std.specs.Prelude.{◌≡◌, ◌⊎◌, ℕ, List, Option, Some, None, Result, IfOk, IfErr, IfSome}
use Rattle.facet_format.specs.declared.error.DeserializeError.{DeserializeError}
use Rattle.facet_format.specs.Complaint.{Refusal, no_memory}
use Rattle.facet_format.specs.Event.{Event, scalar}
use Rattle.facet_format.specs.Views.{refusal_of, span_of}
use Rattle.facet_json_token.specs.Gap.{plain}
use Rattle.facet_json_grammar.specs.Language.{lenient}
use Rattle.facet_json_grammar.specs.Tree.{Tree}
use Rattle.facet_json_reader.specs.Values.{IsAllowedThere}
use Rattle.facet_json_core.specs.Meaning.Readings.{taken}

-- The answer is what is taken of the event, or it is refused: memory lacks, or nothing is taken of it.
pub record IsTakenOf {T V : Type 0} (view : T → V) (takes : Tree → Option V) (refuses : Event → Refusal → Type 0) (given : Event)
    (answer : Result T DeserializeError) : Type 0 where
  pub is : IfOk answer (λ v. taken takes given.kind ≡ Some (view v))
  pub refused : IfErr answer (λ e. (refusal_of e ≡ no_memory) ⊎ (taken takes given.kind ≡ None))
  pub span : IfErr answer (λ e. IfSome e.span (λ s. span_of s ≡ given.span))
  pub told : IfErr answer (λ e. refuses given (refusal_of e))

-- At this offset stands a scalar of so many bytes, of which this is taken.
pub record IsTakenThere {V : Type 0} (takes : Tree → Option V) (buffer : List ℕ) (at len : ℕ) (v : V) : Type 0 where
  pub there : IsAllowedThere (lenient plain) buffer at len
  pub is : taken takes (scalar there.value) ≡ Some v
