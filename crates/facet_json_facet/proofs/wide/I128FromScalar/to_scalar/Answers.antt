use Rattle.std.proofs.Common.{sym, ap, rules, SFits}
use Rattle.std.specs.Int.{w128}
use Rattle.std.proofs.lemmas.Int.{to_z-of_z}
use Rattle.facet_json_grammar.specs.Tree.{i128}
use Rattle.facet_json_core.proofs.Meaning.Leaves.WideNumbers.{wide-within}
use Rattle.facet_json_facet.proofs.ScalarsOfRust.{i128-of_rust}
use Rattle.facet_json_facet.proofs.wide.I128FromScalar.to_scalar.Goals as goal

pub returns-clause-tree : goal.returns-clause-tree
returns-clause-tree c =
    let fits : SFits w128 c.args.self.now = search rules in
    ap i128 (sym (to_z-of_z w128 c.args.self.now fits))

pub returns-clause-of_rust : goal.returns-clause-of_rust
returns-clause-of_rust c = i128-of_rust c.args.self.now (wide-within c.args.self.now (search rules))

pub returns-clause-always : goal.returns-clause-always
returns-clause-always c = wide-within c.args.self.now (search rules)
