-- A search for an item by its index, item by item.
use Rattle.std.specs.Prelude.{ℕ, length, MatchOption, IfSome, option_and_then}
use Rattle.std.proofs.Common.{◌≡◌, ◌<◌, ◌≤◌, zero, suc, true, false, Option, None, Some, inl, inr, refl, sym, ap, ◌∙◌, subst, arith}
use Rattle.std.proofs.lemmas.Bool.{eqb-true}
use Rattle.facet_format.specs.Complaint.{Refusal}
use Rattle.facet_format.specs.Cursor.{Cursor}
use Rattle.facet_format.specs.Part.{Source}
use Rattle.facet_json_grammar.specs.Node.{Node, Nodes, no_nodes, item}
use Rattle.facet_json_grammar.specs.Now.{Now, ahead}
use Rattle.facet_json_core.specs.Meaning.ListSteps.{ends_list}
use Rattle.facet_json_core.specs.Meaning.Passing.{anything, LacksAlone}
use Rattle.facet_json_core.specs.Meaning.Taking.{Takes, StaysBefore}
use Rattle.facet_json_core.specs.Meaning.Reading.{IsRead, IsUnread}
use Rattle.facet_json_core.proofs.Meaning.Sequences.ListSteps.{AtItems, at-event, ends-after, goes-on, at-spot, item-before, item-after, items-closed, at-lacks}
use Rattle.facet_json.specs.Pointed.{item_node}
use Rattle.facet_json.specs.Inner.Pointing.{FindsItem, LacksItems, less_one, zero_is}

-- The item at this index, where there is an index.
abbrev pub wanted_of : Option ℕ → Nodes → Option Node
wanted_of o nodes = option_and_then (λ i. item_node i nodes) o

-- The number is this index, or none where there is none or it is at least so large.
abbrev pub Counts : ℕ → Option ℕ → Option ℕ → Type 0
Counts most left o = MatchOption left (IfSome o (λ i. most ≤ i)) (λ i. o ≡ Some i)

fewer-counts : (most fewer : ℕ) (left o : Option ℕ) → fewer ≤ most → Counts most left o → Counts fewer left o
fewer-counts most fewer None None less counts = tt
fewer-counts most fewer None (Some i) less counts = omega arith
fewer-counts most fewer (Some i) o less counts = counts

-- An index that is as large as the input is larger than what is ahead.
pub input-counts : (now : Now) (left o : Option ℕ) → Counts (length now.buffer) left o → Counts (ahead now) left o
input-counts now left o counts = fewer-counts (length now.buffer) (ahead now) left o (omega arith) counts

-- Items before the wanted one were passed: the same item is wanted of those that are left.
pub record IsLeft (o : Option ℕ) (now : Now) (left : Option ℕ) (w : Source) (c : Cursor ℕ) (n : Node) (nodes : Nodes) : Type 0 where
  pub rest : Nodes
  pub at : AtItems now w c n rest
  pub wanted : Option ℕ
  pub counts : Counts (ahead now) left wanted
  pub same : wanted_of o nodes ≡ wanted_of wanted rest

abbrev pub AreLeft : Option ℕ → Now → Now → Option ℕ → Type 0
AreLeft o old now left = (w : Source) (c : Cursor ℕ) (n : Node) (nodes : Nodes) → AtItems old w c n nodes → IsLeft o now left w c n nodes

pub left-all : (o : Option ℕ) (old : Now) (left : Option ℕ) → Counts (ahead old) left o → AreLeft o old old left
left-all o old left counts w c n nodes at = record { rest = nodes; at = at; wanted = o; counts = counts; same = refl }

-- ---- what comes next

-- The parser stands where it stood.
pub record IsNextLeft (o : Option ℕ) (now : Now) (left : Option ℕ) (most : ℕ) (w : Source) (c : Cursor ℕ) (n : Node) (nodes : Nodes) : Type 0 where
  pub first : Node
  pub rest : Nodes
  pub at : AtItems now w c n (item first rest)
  pub wanted : Option ℕ
  pub counts : Counts most left wanted
  pub same : wanted_of o nodes ≡ wanted_of wanted (item first rest)

next-left : (o : Option ℕ) (now mid : Now) (left : Option ℕ) (w : Source) (c : Cursor ℕ) (n : Node) (nodes : Nodes) → IsLeft o now left w c n nodes →
    StaysBefore ends_list now mid → IsNextLeft o mid left (ahead now) w c n nodes
next-left o now mid left w c n nodes l stays =
    let there = at-event now w c n l.rest l.at in
    let is = stays.finds w l.at.cursor there.0 l.at.stands l.at.free there.1 in
    let first = goes-on now w c n l.rest l.at there.0 there.1 is.other in
    record {
      first = first.first;
      rest = first.rest;
      at = subst (λ (ns : Nodes). AtItems mid w c n ns) first.are (at-spot now mid w c n l.rest l.at there.0 is);
      wanted = l.wanted;
      counts = l.counts;
      same = l.same ∙ ap (wanted_of l.wanted) first.are;
    }

-- ---- one item less

less-first : (wanted : Option ℕ) (first : Node) (rest : Nodes) → (wanted ≡ Some 0 → ⊥) →
    wanted_of wanted (item first rest) ≡ wanted_of (option_and_then less_one wanted) rest
less-first None first rest other = refl
less-first (Some zero) first rest other = absurd (other refl)
less-first (Some (suc i)) first rest other = refl

less-other : (most : ℕ) (left wanted : Option ℕ) → Counts most left wanted → (left ≡ Some 0 → ⊥) → 0 < most → wanted ≡ Some 0 → ⊥
less-other most None None counts other some is = cc
less-other most None (Some zero) counts other some is = omega arith
less-other most None (Some (suc i)) counts other some is = cc
less-other most (Some i) wanted counts other some is = other (sym counts ∙ is)

less-counts : (most fewer : ℕ) (left wanted : Option ℕ) → Counts most left wanted → fewer < most →
    Counts fewer (option_and_then less_one left) (option_and_then less_one wanted)
less-counts most fewer None None counts less = tt
less-counts most fewer None (Some zero) counts less = absurd (omega arith)
less-counts most fewer None (Some (suc i)) counts less = omega arith
less-counts most fewer (Some zero) wanted counts less = rw counts tt
less-counts most fewer (Some (suc i)) wanted counts less = rw counts refl

is-zero : (left : Option ℕ) → zero_is left ≡ true → left ≡ Some 0
is-zero None is = cc
is-zero (Some n) is = ap Some (eqb-true n 0 is)

no-zero : (left : Option ℕ) → zero_is left ≡ false → left ≡ Some 0 → ⊥
no-zero left other e = let is : zero_is left ≡ true = ap zero_is e in cc

-- An item that is not the wanted one is passed.
pub left-less : (o : Option ℕ) (old now mid new : Now) (left : Option ℕ) → AreLeft o old now left → StaysBefore ends_list now mid →
    zero_is left ≡ false → IsRead anything mid tt new → ahead mid ≤ ahead now → ahead new < ahead mid →
    AreLeft o old new (option_and_then less_one left)
left-less o old now mid new left so_far stays other read lowers shorter w c n nodes at =
    let l = next-left o now mid left w c n nodes (so_far w c n nodes at) stays in
    let after = (read w l.at.cursor l.first (item-before mid w c n l.first l.rest l.at)).1 in
    record {
      rest = l.rest;
      at = item-after mid new w c n l.first l.rest l.at after;
      wanted = option_and_then less_one l.wanted;
      counts = less-counts (ahead now) (ahead new) left l.wanted l.counts (omega arith);
      same = l.same ∙ less-first l.wanted l.first l.rest (less-other (ahead now) left l.wanted l.counts (no-zero left other) (omega arith));
    }

-- ---- how it ends

first-counts : (most : ℕ) (left wanted : Option ℕ) → Counts most left wanted → left ≡ Some 0 → wanted ≡ Some 0
first-counts most None wanted counts is = cc
first-counts most (Some i) wanted counts is = counts ∙ is

-- The wanted item comes next.
pub left-found : (o : Option ℕ) (old now mid : Now) (left : Option ℕ) → AreLeft o old now left → StaysBefore ends_list now mid → zero_is left ≡ true →
    FindsItem o old true mid
left-found o old now mid left so_far stays is w c n nodes at =
    let l = next-left o now mid left w c n nodes (so_far w c n nodes at) stays in
    let first = first-counts (ahead now) left l.wanted l.counts (is-zero left is) in
    record {
      node = l.first;
      is = l.same ∙ ap (λ wanted. wanted_of wanted (item l.first l.rest)) first;
      cursor = l.at.cursor;
      before = item-before mid w c n l.first l.rest l.at;
      kept = l.at.kept;
    }

none-wanted : (wanted : Option ℕ) → wanted_of wanted no_nodes ≡ None
none-wanted None = refl
none-wanted (Some zero) = refl
none-wanted (Some (suc i)) = refl

-- The list's end is passed.
pub left-none : (o : Option ℕ) (old now new : Now) (left : Option ℕ) → AreLeft o old now left → Takes ends_list now new → FindsItem o old false new
left-none o old now new left so_far takes w c n nodes at =
    let l = so_far w c n nodes at in
    let there = at-event now w c n l.rest l.at in
    let is = takes w l.at.cursor there.0 l.at.stands l.at.free there.1 in
    let none = ends-after now w c n l.rest l.at there.0 there.1 is.so in (
      l.same ∙ ap (wanted_of l.wanted) none ∙ none-wanted l.wanted,
      items-closed now new w c n l.rest l.at none is.stands,
    )

-- ---- where it is refused

-- What comes can't be looked at.
pub left-unseen : (o : Option ℕ) (old now : Now) (left : Option ℕ) (r : Refusal) → AreLeft o old now left → LacksAlone now r → LacksItems old r
left-unseen o old now left r so_far lacks w c n nodes at =
    let l = so_far w c n nodes at in at-lacks now r w c n l.rest l.at lacks

-- An item was not passed.
pub left-unpassed : (o : Option ℕ) (old now mid : Now) (left : Option ℕ) (r : Refusal) → AreLeft o old now left → StaysBefore ends_list now mid →
    IsUnread anything mid r → LacksItems old r
left-unpassed o old now mid left r so_far stays unread w c n nodes at =
    let l = next-left o now mid left w c n nodes (so_far w c n nodes at) stays in
    elim (unread w l.at.cursor l.first (item-before mid w c n l.first l.rest l.at)) [
      | inl lacks ↦ lacks
      | inr none ↦ cc
    ]
