-- What is pending becomes the last token, nothing, or a refusal.
use Rattle.std.proofs.Common.{◌≤◌, None, sym, ap, ◌∙◌, subst}
use Rattle.facet_format.specs.Span.{stop}
use Rattle.facet_format.specs.Views.{span_of}
use Rattle.facet_json_scan.specs.ScannerViews.{NamesWithin}
use Rattle.facet_json_scan.specs.Inner.Stands.{IsFinished}
use Rattle.facet_json_scan.proofs.LastToken.{token-last, rest-last, refusal-last}
use Rattle.facet_json_scan.proofs.reader.finish.Goals as goal
use Rattle.facet_json_scan.proofs.reader.finish.Goals.{then-is_token+in_ok-keep-in-Ok, else-is_token}

pub returns-after-is_token-clause-finished : goal.returns-after-is_token-clause-finished
returns-after-is_token-clause-finished c =
    let buffer = c.args.buf.now in
    let s = c.args.scanner.now in
    let tokens = c.args.tokens.now.items in
    let u = c.in-Ok.token in
    let h = c.requires.stands in
    let end = c.requires.at_end in
    elim c.if-is_token.branch [
      | then-is_token+in_ok-keep-in-Ok w ↦
          subst (λ l. IsFinished buffer s.mode l None)
          (sym (ap (λ v. v.items) w.tokens-is ∙ w.in_ok-keep-in-Ok.ensures.kept))
          (token-last buffer tokens s h end u (sym c.is_token.ensures ∙ w.if-is_token.true)
          (subst (λ n. stop (span_of u.span) ≤ n) end c.in-Ok.ensures.span, subst (λ n. NamesWithin n u.token) end c.in-Ok.ensures.indices)
          c.in-Ok.ensures.token)
      | else-is_token w ↦
          subst (λ l. IsFinished buffer s.mode l None) (sym (ap (λ v. v.items) w.tokens-is))
          (rest-last buffer tokens s h end u (sym c.is_token.ensures ∙ w.if-is_token.false) c.in-Ok.ensures.token)
    ]

pub returns-in-Err-clause-finished : goal.returns-in-Err-clause-finished
returns-in-Err-clause-finished c =
    let e = c.in-Err.refusal in
    let end = c.requires.at_end in
    refusal-last c.args.buf.now c.args.tokens.now.items c.args.scanner.now c.requires.stands end e
    (subst (λ n. stop (span_of e.span) ≤ n) end c.in-Err.ensures.span) c.in-Err.ensures.token
