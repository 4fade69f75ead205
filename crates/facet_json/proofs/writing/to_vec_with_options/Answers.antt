use Rattle.std.proofs.Common.{◌≡◌, rules}
use Rattle.std.specs.Prelude.{IsUtf8, IfOk}
use Rattle.std.proofs.lemmas.Result.{err_from_is_err_and}
use Rattle.facet_json_grammar.specs.Text.{text}
use Rattle.facet_json_serializer.specs.OptionsViews.{options_of}
use Rattle.facet_json_tree.proofs.ReadBack.{answered-readable}
use Rattle.facet_json_tree.proofs.Utf8Text.{answered-utf8}
use Rattle.facet_json.proofs.ComesBack.{answered-comes_back}
use Rattle.facet_json.proofs.writing.to_vec_with_options.Goals as goal

pub returns-clause-utf8 : goal.returns-clause-utf8
returns-clause-utf8 g c =
    let o = options_of c.args.options.now in
    let t = g.T.Facet.shape.tree_of (g.T.Facet.view c.args.value.now) in
    let indent : IsUtf8 c.args.options.now.indent.now = search rules in
    let is : IfOk c.finish.result (λ v. v.items ≡ text o 0 t) = search rules in
    answered-utf8 (λ v. v.items) _ o _ indent c.in_ok-write.ensures.of_rust is

pub returns-clause-read_back : goal.returns-clause-read_back
returns-clause-read_back g c =
    let o = options_of c.args.options.now in
    let t = g.T.Facet.shape.tree_of (g.T.Facet.view c.args.value.now) in
    let is : IfOk c.finish.result (λ v. v.items ≡ text o 0 t) = search rules in
    answered-readable (λ v. v.items) _ o _ c.in_ok-write.ensures.of_rust is

pub returns-clause-text : goal.returns-clause-text
returns-clause-text c = search rules

pub returns-clause-comes_back : goal.returns-clause-comes_back
returns-clause-comes_back g c default =
    let claim : g.claim c.lifetimes = search rules in
    let met = g.met.T.Facet c.lifetimes claim in
    let o = options_of c.args.options.now in
    let t = g.T.Facet.shape.tree_of (g.T.Facet.view c.args.value.now) in
    let is : IfOk c.finish.result (λ v. v.items ≡ text o 0 t) = search rules in
    answered-comes_back (λ v. v.items) _ _ _ _ met.laws.reads_back c.finish.result _ o c.in_ok-write.ensures.always is default

pub returns-in_err-write-clause-comes_back : goal.returns-in_err-write-clause-comes_back
returns-in_err-write-clause-comes_back g c default =
    let p = err_from_is_err_and c.from_residual.result c.from_residual.ensures.1 in rw (p.1) tt
