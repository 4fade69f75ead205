use Rattle.std.proofs.Common.{◌≢◌, sym, ◌∙◌}
use Rattle.std.proofs.lemmas.Bool.Decides.{Decides-eqb}
use Rattle.std.proofs.lemmas.Bool.{true≢false}
use Rattle.std.proofs.lemmas.Slice.Eq.{slice_eq-Decides}
use Rattle.facet_json_token.specs.Gap.{plain, jsonc}
use Rattle.facet_json_grammar.specs.Language.{lenient, strict}
use Rattle.facet_json_command.specs.Arguments.{comments, strictly, indented}
use Rattle.facet_json_command.proofs.Operands.{Asks, by_comments, by_strict, taken_or, one_more_operand, one_more_asked, one_more_indent, no_second_language, no_second_indent, no_second_operand}
use Rattle.facet_json_command.proofs.arguments.Words.with.Goals as goal

pub returns-then-eq : goal.returns-then-eq
returns-then-eq c before words =
    let same = (slice_eq-Decides Decides-eqb c.args.word.now _ c.eq.result c.eq.ensures).0 c.if-eq.true in
    let asks : Asks (lenient jsonc) c.args.word.now = by_comments c.args.word.now same in
    taken_or c.with_language.result _ _ _ _
    (λ there language pretty operands rest few all. no_second_language _ _ _ _ words language pretty operands rest _ all _ asks there)
    (λ w is. rw is.1 (one_more_asked _ _ _ _ _ _ asks is.0 words))
    c.with_language.ensures

pub returns-then-eq-2 : goal.returns-then-eq-2
returns-then-eq-2 c before words =
    let same = (slice_eq-Decides Decides-eqb c.args.word.now _ c.eq-2.result c.eq-2.ensures).0 c.if-eq-2.true in
    let asks : Asks (strict plain) c.args.word.now = by_strict c.args.word.now same in
    taken_or c.with_language-then-eq-2.result _ _ _ _
    (λ there language pretty operands rest few all. no_second_language _ _ _ _ words language pretty operands rest _ all _ asks there)
    (λ w is. rw is.1 (one_more_asked _ _ _ _ _ _ asks is.0 words))
    c.with_language-then-eq-2.ensures

pub returns-then-eq-3 : goal.returns-then-eq-3
returns-then-eq-3 c before words =
    let same = (slice_eq-Decides Decides-eqb c.args.word.now _ c.eq-3.result c.eq-3.ensures).0 c.if-eq-3.true in
    taken_or c.with_indent.result _ _ _ _
    (λ there language pretty operands rest few all. no_second_indent _ _ _ _ words language pretty operands rest _ all same there)
    (λ w is. rw is.1 (one_more_indent _ _ _ _ _ same is.0 words))
    c.with_indent.ensures

pub returns : goal.returns
returns c before words =
    let no_comments : c.args.word.now ≢ comments = λ same.
    true≢false (sym ((slice_eq-Decides Decides-eqb c.args.word.now _ c.eq.result c.eq.ensures).1 same) ∙ c.if-eq.false) in
    let not_strict : c.args.word.now ≢ strictly = λ same.
    true≢false (sym ((slice_eq-Decides Decides-eqb c.args.word.now _ c.eq-2.result c.eq-2.ensures).1 same) ∙ c.if-eq-2.false) in
    let no_indent : c.args.word.now ≢ indented = λ same.
    true≢false (sym ((slice_eq-Decides Decides-eqb c.args.word.now _ c.eq-3.result c.eq-3.ensures).1 same) ∙ c.if-eq-3.false) in
    taken_or c.with_operand.result _ _ _ _
    (λ taken language pretty operands rest few all.
    no_second_operand _ _ _ _ words language pretty operands rest _ all no_comments not_strict no_indent taken.0 taken.1 few)
    (λ w is. rw (is.1, is.2, is.3) (one_more_operand _ _ _ _ _ no_comments not_strict no_indent (rw is.0 at words)))
    c.with_operand.ensures
