use Rattle.std.proofs.lemmas.Grind.{common_steps}
-- Each byte goes on with what was read, and the quote closes it.
use Rattle.std.proofs.Common.{◌+◌, ◌-◌, refl, sym, ◌∙◌, subst, arith, rules}
use Rattle.facet_format.specs.Bytes.{quote}
use Rattle.facet_format.specs.Span.{span_at}
use Rattle.facet_json_token.specs.Token.{string}
use Rattle.facet_json_token.specs.Cut.{token_at}
use Rattle.facet_json_scan.specs.Scanner.{Describes, in_text}
use Rattle.facet_json_token.proofs.Offsets.{slice_get-from_read}
use Rattle.facet_json_token.proofs.TextSteps.{no_quote}
use Rattle.facet_json_scan.proofs.Segments.{between, between-more}
use Rattle.facet_json_scan.proofs.Pieces.PendingText.{text-step, text-found}
use Rattle.facet_json_scan.proofs.AnswersOfCuts.{found-here, answered-ends}
use Rattle.facet_json_scan.proofs.Refusals.{token-no_refusal}
use Rattle.facet_json_scan.proofs.scanner.token.text_from.Goals as goal

pub returns-then-not-escaped-clause-here : goal.returns-then-not-escaped-clause-here
returns-then-not-escaped-clause-here c = λ mode d.
    let buffer = c.args.buffer.now in
    let start = c.args.start in
    let end = c.loop-byte.end in
    let e = c.loop-byte.has_escapes in
    let here = slice_get-from_read buffer end c.in-Some.byte.now quote c.in-Some.ensures.lookup.3 c.if-byte-eq34.true in
    let described =
    subst (λ v. Describes mode (in_text v e) (between buffer start end)) c.if-not-escaped.true
    (c.loop-byte.invariant.described mode d) in
    let found = text-found mode buffer start end e c.loop-byte.invariant.ahead described here in
    found-here mode buffer start c.told.result (token_at (string (start + 1) end e) start ((end + 1) - start))
    (c.told.ensures.answer ∙ c.token_at.ensures (string (start + 1) end e) refl) (λ x. cc) found.0 found.1

pub returns-then-not-escaped-clause-within : goal.returns-then-not-escaped-clause-within
returns-then-not-escaped-clause-within c =
    let start = c.args.start in
    let end = c.loop-byte.end in
    let e = c.loop-byte.has_escapes in
    let ends =
    answered-ends c.told.result (token_at (string (start + 1) end e) start ((end + 1) - start)) _
    (c.told.ensures.answer ∙ c.token_at.ensures (string (start + 1) end e) refl)
    (omega (arith, c.in-Some.ensures.lookup.3.0), (omega arith, omega (arith, c.in-Some.ensures.lookup.3.0))) in
    (omega arith, ends.0, ends.1)

pub returns-then-not-escaped-clause-refusal : goal.returns-then-not-escaped-clause-refusal
returns-then-not-escaped-clause-refusal c = λ mode.
    let start = c.args.start in
    let end = c.loop-byte.end in
    let kind = string (start + 1) end c.loop-byte.has_escapes in
    token-no_refusal c.told.result (record { kind = kind; span = span_at start ((end + 1) - start) }) _
    (c.told.ensures.answer ∙ c.token_at.ensures kind refl)

pub loop-byte-preserved : goal.loop-byte-preserved
loop-byte-preserved c =
    let buffer = c.args.buffer.now in
    let start = c.args.start in
    let end = c.loop-byte.end in
    let b = c.in-Some.byte.now in
    let escaped = c.loop-byte.escaped in
    let here = slice_get-from_read buffer end b b c.in-Some.ensures.lookup.3 refl in
    let more = between-more buffer start end b (omega arith) here in
    record {
      ahead = omega arith;
      within = omega (arith, c.in-Some.ensures.lookup.3.0);
      described = λ mode d.
          subst (Describes mode _) (sym more)
          (text-step mode _ escaped c.loop-byte.has_escapes b (c.loop-byte.invariant.described mode d)
          (no_quote b escaped c.else-byte-eq34.either));
    }

pub returns-clause-here : goal.returns-clause-here
returns-clause-here c = grind (arith, common_steps)

pub returns-clause-within : goal.returns-clause-within
returns-clause-within c = search rules

pub returns-clause-refusal : goal.returns-clause-refusal
returns-clause-refusal c = search rules
