use Rattle.std.proofs.lemmas.Grind.{common_steps}
-- From stop to stop, to the quote that closes the string.
use Rattle.std.proofs.Common.{◌≡◌, ◌+◌, false, drop, Some, ap, ◌∙◌, refl, arith}
use Rattle.std.specs.Option.{option_map}
use Rattle.facet_format.specs.Bytes.{quote}
use Rattle.facet_json_token.specs.Token.{string}
use Rattle.facet_json_token.specs.Cut.{content_len}
use Rattle.facet_json_token.proofs.Offsets.{slice_get-from_read}
use Rattle.facet_json_token.proofs.TextSteps.{content-ends, cut_text-ends}
use Rattle.facet_json_token.proofs.TextWindows.{content-after_run, marks-of_run, stop-after_run, stop-no_quote, marks-after_escape}
use Rattle.facet_json_token.proofs.cutting.cut_text.Goals as goal

pub loop-byte-init : goal.loop-byte-init
loop-byte-init c =
    let buffer = c.args.buffer.now in
    let end = c.run_end-end.ensures in
    record {
      ahead = end.ahead;
      within = end.within;
      stops = λ b. stop-after_run buffer (c.args.at + 1) c.run_end-end.result b end.value;
      same = content-after_run buffer (c.args.at + 1) c.run_end-end.result end.value;
      seen = marks-of_run buffer (c.args.at + 1) c.run_end-end.result end.value;
    }

pub after_escape-requires : goal.after_escape-requires
after_escape-requires c =
    let here = slice_get-from_read c.args.buffer.now c.loop-byte.end c.in-Some.byte.now c.in-Some.byte.now c.in-Some.ensures.lookup.3 refl in
    let stop = stop-no_quote c.in-Some.byte.now (c.loop-byte.invariant.stops c.in-Some.byte.now here) c.if-byte-eq34.false in
    here ∙ ap Some stop

pub loop-byte-preserved : goal.loop-byte-preserved
loop-byte-preserved c =
    let buffer = c.args.buffer.now in
    let at = c.loop-byte.end in
    let end = c.run_end-end-in-Some.ensures in
    let after = c.after_escape.ensures in
    let here = slice_get-from_read buffer at c.in-Some.byte.now c.in-Some.byte.now c.in-Some.ensures.lookup.3 refl in
    let mark = here ∙ ap Some (stop-no_quote c.in-Some.byte.now (c.loop-byte.invariant.stops c.in-Some.byte.now here) c.if-byte-eq34.false) in
    record {
      ahead = omega (arith, c.loop-byte.invariant.ahead, after.range.0, end.ahead);
      within = end.within;
      stops = λ b. stop-after_run buffer c.after_escape.result c.run_end-end-in-Some.result b end.value;
      same = content-after_run buffer c.after_escape.result c.run_end-end-in-Some.result end.value ∙ after.same ∙ c.loop-byte.invariant.same;
      seen = marks-after_escape buffer (c.args.at + 1) at c.run_end-end-in-Some.result c.loop-byte.has_escapes c.loop-byte.invariant.ahead
          (omega (arith, after.range.0, end.ahead)) mark c.loop-byte.invariant.seen;
    }

pub returns-then-byte-eq34 : goal.returns-then-byte-eq34
returns-then-byte-eq34 c =
    let buffer = c.args.buffer.now in
    let rest = drop (c.args.at + 1) buffer in
    let end = c.loop-byte.end in
    let here = slice_get-from_read buffer end c.in-Some.byte.now quote c.in-Some.ensures.lookup.3 c.if-byte-eq34.true in
    let found : Some end ≡ option_map (λ n. (c.args.at + 1) + n) (content_len false rest) = content-ends buffer end here ∙ c.loop-byte.invariant.same in
    c.token_at.ensures (string (c.args.at + 1) end c.loop-byte.has_escapes) refl
    ∙ ap Some (cut_text-ends c.args.at end rest _ (content_len false rest) found c.loop-byte.invariant.seen)

pub returns : goal.returns
returns c = grind (arith, common_steps)
