-- A bracket stands beyond a limit exactly where a value nests deeper.
use Rattle.std.proofs.Common.{◌≡◌, ◌≤◌, ℕ, zero, suc, Option, None, Some, refl, arith}
use Rattle.std.specs.Option.{option_or}
use Rattle.std.proofs.Math.Nat.{le-max_left, le-max_right, max-le}
use Rattle.facet_json_grammar.specs.Node.{Node, scalar, array, object, Nodes, no_nodes, item, Members, no_members, member}
use Rattle.facet_json_tree.specs.Depth.{depth_of, depth_of_items, depth_of_members, first_beyond, first_beyond_items, first_beyond_members, FirstBeyondIsDeeper}

-- Neither of two is there.
none-first : {A : Type 0} (a b : Option A) → option_or a b ≡ None → a ≡ None
none-first None b e = refl
none-first (Some x) b e = cc

none-second : {A : Type 0} (a b : Option A) → option_or a b ≡ None → b ≡ None
none-second None b e = e
none-second (Some x) b e = cc

none-both : {A : Type 0} (a b : Option A) → a ≡ None → b ≡ None → option_or a b ≡ None
none-both None b e q = q
none-both (Some x) b e q = cc

mutual
  unfolding depth_of first_beyond

  pub shallow-none : (limit : ℕ) (node : Node) → depth_of node ≤ limit → first_beyond limit node ≡ None
  shallow-none limit (scalar t) h = refl
  shallow-none zero (array _ _ _) h = absurd (omega (arith, h))
  shallow-none zero (object _ _ _) h = absurd (omega (arith, h))
  shallow-none (suc limit) (array first last nodes) h = shallow_items-none limit nodes (omega (arith, h))
  shallow-none (suc limit) (object first last members) h = shallow_members-none limit members (omega (arith, h))

  shallow_items-none : (limit : ℕ) (nodes : Nodes) → depth_of_items nodes ≤ limit → first_beyond_items limit nodes ≡ None
  shallow_items-none limit no_nodes h = refl
  shallow_items-none limit (item node nodes) h =
      none-both _ _ (shallow-none limit node (omega (arith, h, le-max_left (depth_of node) (depth_of_items nodes))))
      (shallow_items-none limit nodes (omega (arith, h, le-max_right (depth_of node) (depth_of_items nodes))))

  shallow_members-none : (limit : ℕ) (members : Members) → depth_of_members members ≤ limit → first_beyond_members limit members ≡ None
  shallow_members-none limit no_members h = refl
  shallow_members-none limit (member key colon node members) h =
      none-both _ _ (shallow-none limit node (omega (arith, h, le-max_left (depth_of node) (depth_of_members members))))
      (shallow_members-none limit members (omega (arith, h, le-max_right (depth_of node) (depth_of_members members))))

mutual
  unfolding depth_of first_beyond

  pub none-shallow : (limit : ℕ) (node : Node) → first_beyond limit node ≡ None → depth_of node ≤ limit
  none-shallow limit (scalar t) h = omega arith
  none-shallow zero (array _ _ _) h = cc
  none-shallow zero (object _ _ _) h = cc
  none-shallow (suc limit) (array first last nodes) h = omega (arith, none-shallow_items limit nodes h)
  none-shallow (suc limit) (object first last members) h = omega (arith, none-shallow_members limit members h)

  none-shallow_items : (limit : ℕ) (nodes : Nodes) → first_beyond_items limit nodes ≡ None → depth_of_items nodes ≤ limit
  none-shallow_items limit no_nodes h = omega arith
  none-shallow_items limit (item node nodes) h =
      max-le (none-shallow limit node (none-first _ _ h)) (none-shallow_items limit nodes (none-second _ _ h))

  none-shallow_members : (limit : ℕ) (members : Members) → first_beyond_members limit members ≡ None → depth_of_members members ≤ limit
  none-shallow_members limit no_members h = omega arith
  none-shallow_members limit (member key colon node members) h =
      max-le (none-shallow limit node (none-first _ _ h)) (none-shallow_members limit members (none-second _ _ h))

pub first_beyond-is_deeper : FirstBeyondIsDeeper
first_beyond-is_deeper limit node = (none-shallow limit node, shallow-none limit node)
