use Rattle.std.proofs.Common.{◌≡◌, ℕ, List, Option, Some, None, ◌∙◌}
use Rattle.std.specs.Prelude.{IfSome}
use Rattle.std.specs.Borrow.{Bor}
use Rattle.facet_format.specs.declared.event.ScalarValue.{ScalarValue}
use Rattle.facet_json_document.specs.Inner.PlainNumbers.{BeginsPlain, IsWrittenSo}
use Rattle.facet_json_document.specs.Nodes.{node_view}
use Rattle.facet_json_document.proofs.NumbersWritten.{plain-written}
use Rattle.facet_json_document.proofs.document.node.Node.plain_number.Goals as goal

pub plain_number-requires : goal.plain_number-requires
plain_number-requires c = rw c.in-Number.is at c.args.self.now.sound

pub returns-in-Number : goal.returns-in-Number
returns-in-Number c = by c.plain_number.result c.plain_number.ensures
  where
    by : (o : Option (Bor (List ℕ))) → IfSome o (λ s. (s.now ≡ c.args.self.now.text.now) × BeginsPlain c.args.self.now.text.now) →
        IfSome o (λ s. (held : List ScalarValue) → IsWrittenSo s.now (node_view held c.args.self.now))
    by None told = tt
    by (Some s) told =
        λ held.
        let is = c.in-Number.is in
        let small = rw is at c.args.self.now.sound in
        rw is (λ o depth. told.0 ∙ plain-written o depth c.args.self.now.text.now small told.1)
