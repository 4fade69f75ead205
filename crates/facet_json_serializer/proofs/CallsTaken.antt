-- What a serializer has written whose calls are known to be taken, and no more.
use Rattle.std.proofs.Common.{◌≡◌, [], ◌∷◌, Option, Some, None, Ok, Err, Result, refl, sym, ap, ◌∙◌, subst}
use Rattle.facet_format.specs.SerializerCall.{SerializerCall, TakesAll}
use Rattle.facet_json_serializer.specs.Serializer.{Writing, Addition, Misfit, Takes, Appends, appends, addition, appended}
use Rattle.facet_json_serializer.specs.TreeCalls.{and_then, after_calls, tree_calls, TakenInOrder, TreeTaken}
use Rattle.facet_json_serializer.proofs.TreesByCalls.{tree_by_calls}

-- a call that is taken fits
taken-fits : (w : Writing) (call : SerializerCall) (now : Option Writing) → Appends (Some w) call (Ok tt) now
    → (a : Addition) × (addition w.options w.stack call ≡ Ok a) × (now ≡ Some (appended w a))
taken-fits w call now (appends _ _ a can) = (a, can, refl)

pub taken_in_order : TakenInOrder
unfolding after_calls TakesAll
taken_in_order w [] end taken = (w, refl, taken)
taken_in_order w (call ∷ others) end taken =
    let one = taken-fits w call taken.0 taken.1 in
    let left = taken_in_order (appended w one.0) others end (subst (λ s. TakesAll Takes s others end) one.2 taken.2) in
    (left.0, ap (λ r. and_then r (λ a. after_calls (appended w a) others)) one.1 ∙ left.1, left.2)

-- what is left, if calls fit
abbrev left_of : Result Writing Misfit → Option Writing
left_of (Ok w) = Some w
left_of (Err why) = None

pub tree_taken : TreeTaken
tree_taken w t end taken =
    let left = taken_in_order w (tree_calls t) end taken in
    left.2 ∙ ap left_of (sym left.1 ∙ tree_by_calls w t)
