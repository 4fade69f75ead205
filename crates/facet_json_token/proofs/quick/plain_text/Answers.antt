-- A plain content that is UTF-8 stands for itself.
use Rattle.std.proofs.Common.{◌≡◌, List, ℕ, Some, Result, Ok, Err, Bor, sym, ap, ◌∙◌}
use Rattle.std.specs.Prelude.{slice_range, IsUtf8, IfSome, MatchResult}
use Rattle.std.specs.Result.{result_ok}
use Rattle.facet_json_token.specs.Decoded.{decoded}
use Rattle.facet_json_token.proofs.PlainText.{IsPlain, decoded-plain}
use Rattle.facet_json_token.proofs.quick.plain_text.Goals as goal

own-text : {E : Type 0} (content : List ℕ) (r : Result (Bor (List ℕ)) E) (F : E → Type 0) → IsPlain content →
    MatchResult r (λ s. (s.now ≡ content) × IsUtf8 content) F → IfSome (result_ok r) (λ s. decoded content ≡ Some s.now)
own-text content (Ok s) F plain is = decoded-plain content plain is.1 ∙ ap Some (sym is.0)
own-text content (Err e) F plain is = tt

pub returns-in-Some-clause-text : goal.returns-in-Some-clause-text
returns-in-Some-clause-text c =
    let a = c.args in
    let is = c.in-Some.ensures in
    decoded-plain (slice_range a.buf.now a.start a.end) c.requires.plain is.1 ∙ ap Some (sym is.0)

pub returns-in-None-clause-text : goal.returns-in-None-clause-text
returns-in-None-clause-text c =
    let a = c.args in
    rw c.ok.ensures.value (own-text (slice_range a.buf.now a.start a.end) c.from_utf8.result _ c.requires.plain c.from_utf8.ensures.cases)
