-- What breaks off is refused as an input without a document.
use Rattle.std.proofs.Common.{refl}
use Rattle.std.proofs.lemmas.Result.{IfErr-weaker}
use Rattle.facet_format.specs.Views.{refusal_of}
use Rattle.facet_json_token.specs.Views.{mode_of}
use Rattle.facet_json_document.proofs.OneDocuments.{breaks-off}
use Rattle.facet_json_document.proofs.checking.last_token.Goals as goal

pub returns-clause-refused : goal.returns-clause-refused
returns-clause-refused c =
    let was = rw c.parser_of.ensures at c.pass_up.ensures.refused in
    IfErr-weaker c.pass_up.result _ _ (λ e h. breaks-off c.args.text.now (mode_of c.args.mode) (refusal_of e) h) (was refl)
