-- Behind the tokens stands the end, or the refusal is told.
use Rattle.std.proofs.Common.{◌≡◌, length, Some, IfNone, codes, sym, ap, ◌∙◌, subst, arith}
use Rattle.std.specs.List.{flat_map}
use Rattle.std.specs.Io.KnownBytes.{Appends}
use Rattle.facet_format.specs.Span.{span_at}
use Rattle.facet_format.specs.Views.{span_of}
use Rattle.facet_json_token.specs.Tokens.{ended}
use Rattle.facet_json_scan.specs.Listed.{tokens_of_list, rest_after, AreAllOf}
use Rattle.facet_json_command.specs.declared.run.Outcome.TheVariants.{Refused}
use Rattle.facet_json_command.specs.Lines.{place_line}
use Rattle.facet_json_command.specs.TokenViews.{text_of_token}
use Rattle.facet_json_command.specs.Run.{Prints, ListsTokens}
use Rattle.facet_json_command.proofs.TokenListing.{end_listed, refusal_listed}
use Rattle.facet_json_command.proofs.tokens.write_scanned.Goals as goal

pub returns-in-Some-clause-listed : goal.returns-in-Some-clause-listed
returns-in-Some-clause-listed g c mode input all whole =
    let s = c.args.scanned.now in
    let e = c.in-Some.refusal in
    let a = g.W.Write.contents c.args.writer.now in
    let b = g.W.Write.contents c.write_tokens.new.writer in
    let are : AreAllOf input mode (tokens_of_list s.tokens.items (rest_after (Some e))) =
    subst (λ r. AreAllOf input mode (tokens_of_list s.tokens.items (rest_after r))) c.in-Some.is all in
    let printed : Appends a b (flat_map text_of_token s.tokens.items) =
    subst (λ l. Appends a b (flat_map text_of_token l)) c.as_slice.ensures.value c.in-Ok.ensures.printed in
    subst (λ n. ListsTokens mode input a b (Refused n (Some e.span))) (sym c.code.ensures)
    (refusal_listed mode input s.tokens.items e a b are printed)

pub returns-in-None-clause-listed : goal.returns-in-None-clause-listed
returns-in-None-clause-listed g c mode input all whole =
    let s = c.args.scanned.now in
    let a = g.W.Write.contents c.args.writer.now in
    let b = g.W.Write.contents c.write_tokens.new.writer in
    let d = g.W.Write.contents c.write_place.new.writer in
    let are : AreAllOf input mode (tokens_of_list s.tokens.items (Some ended)) =
    subst (λ r. AreAllOf input mode (tokens_of_list s.tokens.items (rest_after r))) c.in-None.is all in
    let same : s.buf.items ≡ input = subst (λ r. IfNone r (s.buf.items ≡ input)) c.in-None.is whole in
    let printed : Appends a b (flat_map text_of_token s.tokens.items) =
    subst (λ l. Appends a b (flat_map text_of_token l)) c.as_slice.ensures.value c.in-Ok.ensures.printed in
    let last : c.new.result.offset ≡ length input =
    omega (arith, s.buf.ok.0, c.len.ensures, c.new.ensures.offset, ap length same) in
    let there : span_of c.new.result ≡ span_at (length input) 0 =
    ap (λ n. span_at n c.new.result.len) last ∙ ap (span_at (length input)) c.new.ensures.len in
    end_listed mode input s.tokens.items a b d c.write_place.result are printed
    (subst (λ p. Prints b d (place_line (codes "Eof") p) c.write_place.result) there c.write_place.ensures.printed)
