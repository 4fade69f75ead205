-- A value's tokens stand in order: each ends after the one before, and so does the value.
use Rattle.std.proofs.Common.{◌<◌, ◌≤◌, ℕ, List, length, arith}
use Rattle.facet_format.specs.Span.{stop}
use Rattle.facet_json_token.specs.Token.{Token}
use Rattle.facet_json_token.specs.Tokens.{Tokens, next}
use Rattle.facet_json_grammar.specs.Node.{Node, Nodes, Members, Spells, one_token, brackets, braces, SpellsItems, closed, item_and_comma, last_item, SpellsMembers, ended_members, member_and_comma, last_member}
use Rattle.facet_json_grammar.specs.RunLaws.{last_token_of}
use Rattle.facet_json_grammar.proofs.InOrder.{InOrder, at_a_token}

-- This token ends after the offset, within the buffer, and the others stand after it.
pub record EndsAfter (buffer : List ℕ) (from : ℕ) (last : Token) (rest : Tokens) : Type 0 where
  pub behind : from < stop last.span
  pub within : stop last.span ≤ length buffer
  pub after : InOrder buffer (stop last.span) rest

pub in_order-next : (buffer : List ℕ) (from : ℕ) (t : Token) (ts : Tokens) → InOrder buffer from (next t ts) → EndsAfter buffer from t ts
in_order-next buffer _ _ _ (at_a_token _ t ts behind within more) = record { behind = behind; within = within; after = more }

-- What ends after a later offset ends after an earlier one.
ends-earlier : (buffer : List ℕ) (from later : ℕ) (last : Token) (rest : Tokens) → from ≤ later → EndsAfter buffer later last rest →
    EndsAfter buffer from last rest
ends-earlier buffer from later last rest h e = record { behind = omega (arith, h, e.behind); within = e.within; after = e.after }

-- A value ends after the offset after which its tokens stand, and what follows it stands after its end.
mutual
  pub node-order : (buffer : List ℕ) (from : ℕ) (ts rest : Tokens) (node : Node) → Spells ts node rest → InOrder buffer from ts →
      EndsAfter buffer from (last_token_of node) rest
  node-order buffer from _ _ _ (one_token t rest i) o = in_order-next buffer from t rest o
  node-order buffer from _ _ _ (brackets first last inner rest nodes i s) o =
      let p = in_order-next buffer from first inner o in
      ends-earlier buffer from (stop first.span) last rest (omega (arith, p.behind)) (items-order buffer (stop first.span) inner rest nodes last s p.after)
  node-order buffer from _ _ _ (braces first last inner rest members i s) o =
      let p = in_order-next buffer from first inner o in
      ends-earlier buffer from (stop first.span) last rest (omega (arith, p.behind))
      (members-order buffer (stop first.span) inner rest members last s p.after)

  pub items-order : (buffer : List ℕ) (from : ℕ) (ts rest : Tokens) (nodes : Nodes) (last : Token) → SpellsItems ts nodes last rest →
      InOrder buffer from ts → EndsAfter buffer from last rest
  items-order buffer from _ _ _ _ (closed last rest i) o = in_order-next buffer from last rest o
  items-order buffer from _ _ _ _ (item_and_comma ts others rest node nodes separator last s i more) o =
      let first = node-order buffer from ts (next separator others) node s o in
      let p = in_order-next buffer _ separator others first.after in
      ends-earlier buffer from (stop separator.span) last rest (omega (arith, first.behind, p.behind))
      (items-order buffer (stop separator.span) others rest nodes last more p.after)
  items-order buffer from _ _ _ _ (last_item ts rest node last s i) o =
      let first = node-order buffer from ts (next last rest) node s o in
      ends-earlier buffer from (stop (last_token_of node).span) last rest (omega (arith, first.behind)) (in_order-next buffer _ last rest first.after)

  pub members-order : (buffer : List ℕ) (from : ℕ) (ts rest : Tokens) (members : Members) (last : Token) → SpellsMembers ts members last rest →
      InOrder buffer from ts → EndsAfter buffer from last rest
  members-order buffer from _ _ _ _ (ended_members last rest i) o = in_order-next buffer from last rest o
  members-order buffer from _ _ _ _ (member_and_comma ts others rest key mark node members separator last i c s k more) o =
      let a = in_order-next buffer from key (next mark ts) o in
      let b = in_order-next buffer _ mark ts a.after in
      let first = node-order buffer (stop mark.span) ts (next separator others) node s b.after in
      let p = in_order-next buffer _ separator others first.after in
      ends-earlier buffer from (stop separator.span) last rest (omega (arith, a.behind, b.behind, first.behind, p.behind))
      (members-order buffer (stop separator.span) others rest members last more p.after)
  members-order buffer from _ _ _ _ (last_member ts rest key mark node last i c s k) o =
      let a = in_order-next buffer from key (next mark ts) o in
      let b = in_order-next buffer _ mark ts a.after in
      let first = node-order buffer (stop mark.span) ts (next last rest) node s b.after in
      ends-earlier buffer from (stop (last_token_of node).span) last rest (omega (arith, a.behind, b.behind, first.behind))
      (in_order-next buffer _ last rest first.after)
