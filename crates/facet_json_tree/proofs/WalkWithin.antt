-- What a reader within a depth says where the walk of a value comes, and then the end.
use Rattle.std.proofs.Common.{◌≡◌, ◌≤◌, ◌⊎◌, inl, inr, ℕ, List, Some, None, sym, ap, ◌∙◌, subst}
use Rattle.facet_format.specs.Complaint.{Refusal}
use Rattle.facet_format.specs.Span.{Span}
use Rattle.facet_json_grammar.specs.Node.{Node}
use Rattle.facet_json_grammar.specs.Tree.{Tree}
use Rattle.facet_json_grammar.specs.Meaning.{tree_of}
use Rattle.facet_json_grammar.specs.Future.{Future, finished, events_before}
use Rattle.facet_json_grammar.specs.Walk.{walk}
use Rattle.facet_json_core.specs.Told.{Tells}
use Rattle.facet_json_core.specs.Reading.{LacksMemory}
use Rattle.facet_json_core.proofs.WalkTells.{walk-tells}
use Rattle.facet_json_tree.specs.Depth.{depth_of, first_beyond, too_deep_at, beyond}
use Rattle.facet_json_tree.specs.Inner.Beyond.{IsReadWithin, as_ever, too_deep, IsValueUnreadWithin}
use Rattle.facet_json_tree.proofs.BeyondOnWalk.{whole_walk-beyond}
use Rattle.facet_json_tree.proofs.DepthOfNodes.{shallow-none}

module _ (buffer : List ℕ) (depth : ℕ) (root : Node) (value : Tree) (has_tree : tree_of buffer root ≡ Some value) (start : Future)
    (comes : start ≡ events_before (walk buffer root) finished) where
  walk-told : Tells start value finished
  walk-told = subst (λ f. Tells f value finished) (sym comes) (walk-tells buffer root value finished has_tree)

  -- What is first beyond is the value's first bracket beyond.
  pub comes-beyond : beyond start (Some depth) ≡ first_beyond depth root
  comes-beyond = ap (λ f. beyond f (Some depth)) comes ∙ whole_walk-beyond buffer root depth

  -- Where it is read, it has no bracket beyond.
  pub read-shallow : (t : Tree) → IsReadWithin (Some depth) start t → first_beyond depth root ≡ None
  read-shallow t h =
      let over = (h.read.told value finished walk-told).1 in
      sym comes-beyond ∙ h.level.same ∙ ap (λ f. beyond f (Some depth)) over

  -- Where it nests no deeper, only out of memory is refused.
  pub unread-shallow : (r : Refusal) → IsValueUnreadWithin (Some depth) buffer start r → depth_of root ≤ depth → LacksMemory r
  unread-shallow r (as_ever unread shallow) h = unread.told value finished walk-told
  unread-shallow r (too_deep span found is) h = let same = comes-beyond in let none = shallow-none depth root h in cc

  -- Where it nests deeper, its first bracket beyond is refused.
  pub unread-deep : (r : Refusal) → IsValueUnreadWithin (Some depth) buffer start r → (s : Span) → first_beyond depth root ≡ Some s →
      LacksMemory r ⊎ (r ≡ too_deep_at s)
  unread-deep r (as_ever unread shallow) s e = inl (unread.told value finished walk-told)
  unread-deep r (too_deep span found is) s e =
      let same = comes-beyond in
      let one : span ≡ s = cc in
      inr (is ∙ ap too_deep_at one)
