use Rattle.std.proofs.lemmas.Result.{err_from_is_err_and}
use Rattle.facet_json_core.proofs.Meaning.Refusals.{keeps-there}
use Rattle.facet_json_core.proofs.Refusing.{goes-there, comes-then, tells-later}
use Rattle.facet_json_tree.specs.Inner.Beyond.{no_value, not_over}
use Rattle.facet_json_tree.proofs.strict.strict_document.Goals as goal

pub returns-in_err-tree-clause-refused : goal.returns-in_err-tree-clause-refused
returns-in_err-tree-clause-refused c =
    let p = err_from_is_err_and c.from_residual.result c.from_residual.ensures.1 in
    rw (p.1, p.2) (no_value (c.in_err-tree.ensures.refused c.requires.free))

pub returns-in_err-pass_end-clause-refused : goal.returns-in_err-pass_end-clause-refused
returns-in_err-pass_end-clause-refused c =
    let p = err_from_is_err_and c.from_residual-in_err-pass_end.result c.from_residual-in_err-pass_end.ensures.1 in
    let read = c.in_ok-tree.ensures in
    rw (p.1, p.2) (not_over _ (record { behind = _; read = read.told; level = read.level }) (c.in_err-pass_end.ensures.only read.free))

pub returns-clause-read : goal.returns-clause-read
returns-clause-read c =
    let read = c.in_ok-tree.ensures in
    record { first = record { behind = _; read = read.told; level = read.level }; over = c.in_ok-pass_end.ensures.over.over }

pub returns-in_err-tree-clause-tells : goal.returns-in_err-tree-clause-tells
returns-in_err-tree-clause-tells c =
    let p = err_from_is_err_and c.from_residual.result c.from_residual.ensures.1 in
    rw (p.1, p.2) (_, keeps-there c.read_value.ensures.keeps, c.in_err-tree.ensures.tells)

pub returns-in_err-pass_end-clause-tells : goal.returns-in_err-pass_end-clause-tells
returns-in_err-pass_end-clause-tells c =
    let p = err_from_is_err_and c.from_residual-in_err-pass_end.result c.from_residual-in_err-pass_end.ensures.1 in
    let came = keeps-there c.read_value.ensures.keeps in
    rw (p.1, p.2) (_, comes-then came (goes-there c.pass_end.ensures.onward), tells-later came c.in_err-pass_end.ensures.tells)
