use Rattle.std.proofs.Common.{suc, sym, ap, ◌∙◌}
use Rattle.facet_json_document.specs.Nodes.{value_kind, values}
use Rattle.facet_json_document.specs.Inner.Looking.{from}
use Rattle.facet_json_document.proofs.NodesSeen.{empty-value, value-stands}
use Rattle.facet_json_document.proofs.document.value.Value.kind.Goals as goal

pub returns-in-Some : goal.returns-in-Some
returns-in-Some c = c.kind.ensures (values (from c.args.self.now (suc c.args.self.now.index))) ∙ sym (ap value_kind (value-stands c.args.self.now _ c.in-Some.ensures))

pub returns-in-None : goal.returns-in-None
returns-in-None c = sym (ap value_kind (empty-value c.args.self.now c.in-None.ensures))
