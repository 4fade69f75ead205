use Rattle.std.proofs.Common.{refl}
use Rattle.std.proofs.lemmas.Result.{err_from_is_err_and}
use Rattle.facet_json_reader.specs.PlaceViews.{language_of}
use Rattle.facet_json_grammar.specs.Place.{after_key}
use Rattle.facet_json_reader.proofs.ScannedTokens.{cut-readable, fault-stops}
use Rattle.facet_json_reader.proofs.ColonAfterKey.{colon-stands, colon-ends, colon-other}
use Rattle.facet_json_reader.proofs.reader.colon.Goals as goal

pub returns-in_err-token : goal.returns-in_err-token
returns-in_err-token c =
    let p = err_from_is_err_and c.from_residual.result c.from_residual.ensures.1 in
    rw p.1 (fault-stops c.args.input.now c.args.position (language_of c.args.language) c.in_err-token.field-0.0 after_key _ c.requires c.in_err-token.ensures.answer p.2)

pub misplaced-requires : goal.misplaced-requires
misplaced-requires c =
    cut-readable c.args.input.now c.args.position (language_of c.args.language) c.in_ok-token.token c.requires c.in_ok-token.ensures.answer

pub returns-in-Colon : goal.returns-in-Colon
returns-in-Colon c =
    colon-stands c.args.input.now c.args.position (language_of c.args.language) c.in_ok-token.token c.requires c.in_ok-token.ensures.answer c.in-Colon.is

pub returns-in-Eof : goal.returns-in-Eof
returns-in-Eof c =
    colon-ends c.args.input.now c.args.position (language_of c.args.language) c.in_ok-token.token c.requires c.in_ok-token.ensures.answer c.in-Eof.is (c.in_ok-token.ensures.end c.in-Eof.is)

pub returns-in_default : goal.returns-in_default
returns-in_default c =
    colon-other c.args.input.now c.args.position (language_of c.args.language) c.in_ok-token.token c.requires c.in_ok-token.ensures.answer c.in_default.not-Colon c.in_default.not-Eof _ (λ kind rest k never. c.misplaced.ensures kind after_key rest k refl never)
