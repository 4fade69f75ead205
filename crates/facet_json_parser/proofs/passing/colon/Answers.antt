use Rattle.std.proofs.Common.{refl}
use Rattle.std.proofs.lemmas.Result.{err_from_is_err_and}
use Rattle.facet_json_token.specs.Views.{mode_of}
use Rattle.facet_json_grammar.specs.Language.{lenient}
use Rattle.facet_json_grammar.specs.Place.{after_key}
use Rattle.facet_json_grammar.specs.Unread.{colon_missing}
use Rattle.facet_json_reader.proofs.ColonAfterKey.{colon-stands}
use Rattle.facet_json_parser.proofs.UnreadTokens.{unread-fault, has-colon, colon-ended, colon-missing}
use Rattle.facet_json_parser.proofs.passing.colon.Goals as goal

pub returns-in_err-token-clause-colon : goal.returns-in_err-token-clause-colon
returns-in_err-token-clause-colon c =
    λ stack.
    let p = err_from_is_err_and c.from_residual.result c.from_residual.ensures.1 in
    rw p.1 (colon_missing _ _ (unread-fault c.args.input.now c.args.position (mode_of c.args.mode) c.in_err-token.field-0.0 after_key _ c.requires c.in_err-token.ensures.answer p.2))

pub returns-in-Colon-clause-colon : goal.returns-in-Colon-clause-colon
returns-in-Colon-clause-colon c =
    λ stack.
    has-colon c.args.input.now c.args.position (mode_of c.args.mode) c.in_ok-token.token stack c.requires c.in_ok-token.ensures.answer c.in-Colon.is

pub returns-in-Colon-clause-within : goal.returns-in-Colon-clause-within
returns-in-Colon-clause-within c =
    (colon-stands c.args.input.now c.args.position (lenient (mode_of c.args.mode)) c.in_ok-token.token c.requires c.in_ok-token.ensures.answer c.in-Colon.is).ends

pub returns-in-Eof-clause-colon : goal.returns-in-Eof-clause-colon
returns-in-Eof-clause-colon c =
    λ stack.
    colon_missing _ _ (colon-ended c.args.input.now c.args.position (mode_of c.args.mode) c.in_ok-token.token c.requires c.in_ok-token.ensures.answer c.in-Eof.is (c.in_ok-token.ensures.end c.in-Eof.is))

pub returns-in_default : goal.returns-in_default
returns-in_default c = record {
  colon = λ stack.
      let buffer = c.args.input.now in
      colon_missing _ _ (colon-missing buffer c.args.position (mode_of c.args.mode) c.in_ok-token.token c.requires c.in_ok-token.ensures.answer c.in_default.not-Colon c.in_default.not-Eof _ (λ kind rest k never. c.misplaced.ensures buffer kind after_key rest k refl never));
  within = tt;
}
