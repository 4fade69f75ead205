use Rattle.facet_json_serde_tests.proofs.by_hand.RangeDeserialize.deserialize.Goals as goal

pub returns-then-low-high-clause-read : goal.returns-then-low-high-clause-read
returns-then-low-high-clause-read g c = (
  c.begin_seq.new.self,
  c.expect_item.new.self,
  c.u64.new.self,
  c.expect_item-2.new.self,
  c.u64-2.new.self,
  c.in_ok-begin_seq.ensures,
  c.in_ok-expect_item.ensures,
  c.in_ok-low.ensures,
  c.in_ok-expect_item-2.ensures,
  c.in_ok-high.ensures,
  c.in_ok-expect_end.ensures,
)
