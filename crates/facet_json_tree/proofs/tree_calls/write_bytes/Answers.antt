use Rattle.std.proofs.Common.{refl, arith}
use Rattle.facet_format.specs.Event as event
use Rattle.facet_json_grammar.specs.Tree.{bytes}
use Rattle.facet_json_grammar.specs.AsRead.{WellFormed, RawParts}
use Rattle.facet_json_tree.proofs.OfRust.{bytes-below, seen-of_rust}
use Rattle.facet_json_tree.proofs.ScalarCalls.{scalar-called}
use Rattle.facet_json_tree.proofs.tree_calls.write_bytes.Goals as goal

pub returns-clause-written : goal.returns-clause-written
returns-clause-written c = (scalar-called _ _ (event.bytes c.args.bytes.now) _ _ refl c.scalar.ensures.appends).written

pub returns-clause-refused : goal.returns-clause-refused
returns-clause-refused c = (scalar-called _ _ (event.bytes c.args.bytes.now) _ _ refl c.scalar.ensures.appends).refused

pub returns-clause-spent : goal.returns-clause-spent
returns-clause-spent c = (scalar-called _ _ (event.bytes c.args.bytes.now) _ _ refl c.scalar.ensures.appends).spent

pub returns-clause-of_rust : goal.returns-clause-of_rust
unfolding WellFormed RawParts
returns-clause-of_rust c =
    seen-of_rust _ _ (bytes c.args.bytes.now) refl (bytes-below c.args.bytes.now (λ i. let f = c.type_inv.bytes i in omega arith), tt)
