use Rattle.std.proofs.Common.{length, refl, inl, subst}
use Rattle.std.proofs.lemmas.Result.{IfOk-weaker, IfErr-weaker}
use Rattle.facet_json_grammar.specs.Now.{Now}
use Rattle.facet_json_core.specs.TranscodeViews.{ErrorWithin}
use Rattle.facet_json_command.proofs.Reformatting.{refusal_is}
use Rattle.facet_json_command.proofs.run.reformatted.Goals as goal

pub returns-in-Ok-clause-text : goal.returns-in-Ok-clause-text
returns-in-Ok-clause-text c =
    let passed =
    c.in-Ok.ensures.document c.args.input.now c.args.language _ c.in_language-parser.ensures c.serializer_of-serializer.ensures in
    IfOk-weaker c.text_of.result _ _
    (λ v h. record { root = passed.0; value = passed.1; document = passed.2; written = h })
    (c.text_of.ensures.written _ passed.3)

pub returns-in-Ok-clause-refused : goal.returns-in-Ok-clause-refused
returns-in-Ok-clause-refused c = IfErr-weaker c.text_of.result _ _ (λ o h. rw h (inl refl)) c.text_of.ensures.refused

pub returns-in-Ok-clause-only : goal.returns-in-Ok-clause-only
returns-in-Ok-clause-only c has = IfErr-weaker c.text_of.result _ _ (λ o h. rw h refl) c.text_of.ensures.refused

pub returns-clause-refused : goal.returns-clause-refused
returns-clause-refused c =
    let input = c.args.input.now in
    let start = c.in_language-parser.ensures in
    let empty = c.serializer_of-serializer.ensures in
    refusal_is c.args.language input _ _ start
    (λ mode is. c.refused.ensures.refused mode input (c.in-Err.ensures.refused input mode _ is empty))
    (λ only. c.refused.ensures.strictly input only)
    (λ has. c.in-Err.ensures.only input c.args.language _ start empty has)

pub returns-clause-only : goal.returns-clause-only
returns-clause-only c has =
    c.refused.ensures.failed
    (c.in-Err.ensures.only c.args.input.now c.args.language _ c.in_language-parser.ensures c.serializer_of-serializer.ensures has)

pub returns-clause-within : goal.returns-clause-within
returns-clause-within c =
    c.refused.ensures.within _
    (subst (λ (p : Now). ErrorWithin (length p.buffer) c.in-Err.error) c.in_language-parser.ensures c.in-Err.ensures.within)
