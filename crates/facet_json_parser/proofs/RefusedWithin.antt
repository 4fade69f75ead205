-- Where a run is refused, it is refused within the buffer.
use Rattle.std.proofs.Common.{ℕ, ◌≤◌, List, length, Result, Ok, Err}
use Rattle.std.specs.Prelude.{IfSome, IfErr}
use Rattle.facet_format.specs.declared.event.Span.{Span as RustSpan}
use Rattle.facet_json_reader.specs.declared.refusal.Refused.{Refused}
use Rattle.facet_format.specs.Complaint.{Refusal}
use Rattle.facet_format.specs.Span.{Span, stop}
use Rattle.facet_format.specs.Views.{span_of}
use Rattle.facet_json_token.specs.Gap.{Mode}
use Rattle.facet_json_token.specs.Token.{Token}
use Rattle.facet_json_token.specs.Tokens.{Tokens}
use Rattle.facet_json_grammar.proofs.Runs.BreaksWithin.{break-within}
use Rattle.facet_json_grammar.proofs.TokensInOrder.{AreWithin, token_within, in_order-within, tokens-in_order}
use Rattle.facet_json_reader.specs.PlaceViews.{refused_of}
use Rattle.facet_json_parser.specs.RunViews.{AnswersRun, IsRunRefused, breaks_off, without_memory}

refused-within : (buffer : List ℕ) (last : Span) (ts : Tokens) (refusal : Refusal) → IsRunRefused buffer last ts refusal → AreWithin buffer ts →
    stop last ≤ length buffer → IfSome refusal.span (λ s. stop s ≤ length buffer)
refused-within buffer last _ _ (breaks_off ts refusal b) w h = break-within buffer ts refusal b w
refused-within buffer last _ _ (without_memory kind first inner e) w h = h

pub answer-within : (buffer : List ℕ) (mode : Mode) (first : Token) (last : Span) (r : Result RustSpan Refused) →
    AnswersRun buffer mode first last r → stop first.span ≤ length buffer → stop last ≤ length buffer →
    IfErr r (λ e. stop (span_of e.span) ≤ length buffer)
answer-within buffer mode first last (Ok s) a f h = tt
answer-within buffer mode first last (Err e) a f h =
    let others = in_order-within buffer (stop first.span) _ (tokens-in_order buffer mode (stop first.span) f) in
    refused-within buffer last _ (refused_of e) a (token_within first _ f others) h
