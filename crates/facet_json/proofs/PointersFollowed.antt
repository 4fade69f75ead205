-- Along the names of a pointer, from node to node.
use Rattle.std.specs.Prelude.{ℕ, List, option_and_then}
use Rattle.std.proofs.Common.{◌≡◌, ◌+◌, ◌<◌, Bool, true, false, Option, None, Some, [], ◌∷◌, ◌++◌, length, drop, refl, sym, ap, ◌∙◌, subst, append_assoc, append-nil}
use Rattle.facet_format.specs.Complaint.{Refusal}
use Rattle.facet_format.specs.Cursor.{Cursor}
use Rattle.facet_format.specs.Part.{Source}
use Rattle.facet_json_grammar.specs.Node.{Node}
use Rattle.facet_json_grammar.specs.Now.{Now}
use Rattle.facet_json_core.specs.Meaning.Nodes.{StandsBefore}
use Rattle.facet_json_tree.specs.Inner.PointerParts.{unescaped, before_slash}
use Rattle.facet_json_tree.specs.Pointer.{IsPointer}
use Rattle.facet_json_tree.proofs.PointerSteps.{first-left, only-whole}
use Rattle.facet_json.specs.Pointed.{child_node, node_named, StandsBeforeIt, FindsNamed, LacksNode}
use Rattle.facet_json.specs.Inner.Pointing.{FindsChild}

behind_child : (names others : List (List ℕ)) (buffer : List ℕ) (o : Option Node) →
    ((m : Node) → node_named (names ++ others) buffer m ≡ option_and_then (node_named others buffer) (node_named names buffer m)) →
    option_and_then (node_named (names ++ others) buffer) o ≡ option_and_then (node_named others buffer) (option_and_then (node_named names buffer) o)
behind_child names others buffer None within = refl
behind_child names others buffer (Some m) within = within m

-- Names behind others name what they name within what those name.
named-behind : (names others : List (List ℕ)) (buffer : List ℕ) (n : Node) →
    node_named (names ++ others) buffer n ≡ option_and_then (node_named others buffer) (node_named names buffer n)
named-behind [] others buffer n = refl
named-behind (name ∷ names) others buffer n = behind_child names others buffer (child_node name buffer n) (λ m. named-behind names others buffer m)

-- The names before the rest of a pointer were followed.
pub record AreFollowed (old now : Now) (rest : List ℕ) (names : List (List ℕ)) : Type 0 where
  pub reached : List (List ℕ)
  pub others : List (List ℕ)
  pub are : names ≡ reached ++ others
  pub pointer : IsPointer rest others
  pub there : (w : Source) (c : Cursor ℕ) (node : Node) → StandsBefore old w c node → StandsBeforeIt (node_named reached w.bytes node) now w c

pub followed-none : (old : Now) (text : List ℕ) (names : List (List ℕ)) → IsPointer text names → AreFollowed old old text names
followed-none old text names is = record {
  reached = [];
  others = names;
  are = refl;
  pointer = is;
  there = λ w c node before. record { node = node; is = refl; cursor = c; before = before; kept = λ point spot e. e };
}

-- ---- one name more

-- The same search, of the same token.
pub finds-same : (now new : Now) (token other : List ℕ) (is was : Bool) → token ≡ other → is ≡ was → FindsChild (unescaped token) now is new →
    FindsChild (unescaped other) now was new
finds-same now new token other is was same answer finds =
    subst (λ (t : List ℕ). FindsChild (unescaped t) now was new) same (subst (λ (b : Bool). FindsChild (unescaped token) now b new) answer finds)

module _ (old now new : Now) (text : List ℕ) (start : ℕ) (within : start < length text) (names : List (List ℕ))
    (so_far : AreFollowed old now (drop start text) names) where
  -- It names a node, which comes next.
  pub followed-more : FindsChild (unescaped (before_slash (drop (start + 1) text))) now true new →
      AreFollowed old new (drop (start + (1 + length (before_slash (drop (start + 1) text)))) text) names
  followed-more finds =
      let name = unescaped (before_slash (drop (start + 1) text)) in
      let first = first-left text start so_far.others within so_far.pointer in
      record {
        reached = so_far.reached ++ name ∷ [];
        others = first.others;
        are = so_far.are ∙ ap (λ ns. so_far.reached ++ ns) first.are ∙ sym (append_assoc so_far.reached (name ∷ []) first.others);
        pointer = first.pointer;
        there = λ w c node before.
            let t = so_far.there w c node before in
            let f = finds w t.cursor t.node t.before in
            record {
              node = f.node;
              is =
                  named-behind so_far.reached (name ∷ []) w.bytes node ∙ ap (option_and_then (node_named (name ∷ []) w.bytes)) t.is
                  ∙ ap (option_and_then (node_named [] w.bytes)) f.is;
              cursor = f.cursor;
              before = f.before;
              kept = λ point spot e. f.kept point spot (t.kept point spot e);
            };
      }

  -- It names nothing.
  pub followed-past : FindsChild (unescaped (before_slash (drop (start + 1) text))) now false new → FindsNamed names old false new
  followed-past finds w c node before =
      let name = unescaped (before_slash (drop (start + 1) text)) in
      let first = first-left text start so_far.others within so_far.pointer in
      let t = so_far.there w c node before in
      let f = finds w t.cursor t.node t.before in
      let are = so_far.are ∙ ap (λ ns. so_far.reached ++ ns) first.are in
      record {
        none =
            ap (λ ns. node_named ns w.bytes node) are ∙ named-behind so_far.reached (name ∷ first.others) w.bytes node
            ∙ ap (option_and_then (node_named (name ∷ first.others) w.bytes)) t.is
            ∙ ap (option_and_then (node_named first.others w.bytes)) f.0;
        reached = so_far.reached;
        name = name;
        others = first.others;
        are = are;
        inner = t.node;
        is = t.is;
        lacks = f.0;
        cursor = t.cursor;
        rest = t.before.others;
        comes = t.before.comes;
        after = f.1;
        kept = t.kept;
      }

-- It can't be looked for.
pub followed-lacks : (old now : Now) (rest : List ℕ) (names : List (List ℕ)) (r : Refusal) → AreFollowed old now rest names → LacksNode now r →
    LacksNode old r
followed-lacks old now rest names r so_far lacks w c node before =
    let t = so_far.there w c node before in lacks w t.cursor t.node t.before

-- ---- the last one

pub followed-all : (old now : Now) (rest : List ℕ) (names : List (List ℕ)) → AreFollowed old now rest names → rest ≡ [] →
    FindsNamed names old true now
followed-all old now rest names so_far none w c node before =
    let t = so_far.there w c node before in
    let all = so_far.are ∙ ap (λ ns. so_far.reached ++ ns) (only-whole rest so_far.others so_far.pointer none) ∙ append-nil so_far.reached in
    record { node = t.node; is = ap (λ ns. node_named ns w.bytes node) all ∙ t.is; cursor = t.cursor; before = t.before; kept = t.kept }
