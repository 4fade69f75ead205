-- Behind the root the end is finished, and all else is refused.
use Rattle.std.proofs.Common.{arith}
use Rattle.std.proofs.lemmas.Result.{err_from_is_err_and}
use Rattle.facet_format.specs.Views.{span_of}
use Rattle.facet_json_token.specs.Gap.{plain}
use Rattle.facet_json_grammar.specs.Language.{strict}
use Rattle.facet_json_reader.proofs.BehindRoot.{end-behind, fault-behind, token-behind}
use Rattle.facet_json_reader.proofs.ScannedTokens.{cut-readable}
use Rattle.facet_json_reader.proofs.reader.end_strict.Goals as goal

pub returns-in_err-token : goal.returns-in_err-token
returns-in_err-token c =
    let p = err_from_is_err_and c.from_residual.result c.from_residual.ensures.1 in
    let answer = rw (c.end.ensures.fits (omega (arith, c.requires))) at c.in_err-token.ensures.answer in
    rw p.1 (fault-behind c.args.input.now plain _ (span_of c.args.last) c.requires c.in_err-token.field-0.0 _ answer p.2)

pub stopped-requires : goal.stopped-requires
stopped-requires c =
    let at = c.end.ensures.fits (omega (arith, c.requires)) in
    cut-readable c.args.input.now c.end.result (strict plain) c.in_ok-token.token (omega (arith, c.requires, at)) c.in_ok-token.ensures.answer

pub returns-in-Eof : goal.returns-in-Eof
returns-in-Eof c =
    let answer = rw (c.end.ensures.fits (omega (arith, c.requires))) at c.in_ok-token.ensures.answer in
    end-behind c.args.input.now plain _ (span_of c.args.last) c.requires c.in_ok-token.token answer c.in-Eof.is

pub returns-in_default : goal.returns-in_default
returns-in_default c =
    let answer = rw (c.end.ensures.fits (omega (arith, c.requires))) at c.in_ok-token.ensures.answer in
    token-behind c.args.input.now plain _ (span_of c.args.last) c.requires c.in_ok-token.token _ answer c.in_default.not-Eof c.stopped.ensures.token
