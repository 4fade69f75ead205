-- The first bracket beyond a limit on the walk of a value.
use Rattle.std.specs.Prelude.{ℕ, List}
use Rattle.std.proofs.Common.{◌≡◌, ℕ, zero, suc, List, [], ◌∷◌, Option, None, Some, refl, sym, ap, ◌∙◌}
use Rattle.std.specs.Option.{option_or}
use Rattle.facet_format.specs.Event.{struct_end, sequence_end}
use Rattle.facet_json_grammar.specs.Node.{Node, Nodes, no_nodes, item, Members, no_members, member}
use Rattle.facet_json_grammar.specs.Node as node
use Rattle.facet_json_grammar.specs.Future.{Future, gives, finished, events_before}
use Rattle.facet_json_grammar.specs.Walk.{walk, walk_items, walk_members, event_at}
use Rattle.facet_json_grammar.proofs.WalkComes.{events_before-append}
use Rattle.facet_json_tree.specs.Depth.{first_beyond, first_beyond_items, first_beyond_members, beyond}

pub or-none : {A : Type 0} (o : Option A) → option_or o None ≡ o
or-none None = refl
or-none (Some x) = refl

pub or-assoc : {A : Type 0} (a b c : Option A) → option_or (option_or a b) c ≡ option_or a (option_or b c)
or-assoc None b c = refl
or-assoc (Some x) b c = refl

module _ (buffer : List ℕ) where
  mutual
    unfolding walk first_beyond

    -- On the walk of a value what is first beyond is its first bracket beyond, or what is so afterwards.
    walk-beyond : (n : Node) (limit : ℕ) (rest : Future) →
        beyond (events_before (walk buffer n) rest) (Some limit) ≡ option_or (first_beyond limit n) (beyond rest (Some limit))
    walk-beyond (node.scalar t) limit rest = refl
    walk-beyond (node.array first _ _) zero rest = refl
    walk-beyond (node.object first _ _) zero rest = refl
    walk-beyond (node.array first last nodes) (suc limit) rest =
        ap (λ f. beyond f (Some limit)) (events_before-append (walk_items buffer nodes) (event_at sequence_end last ∷ []) rest)
        ∙ items-beyond nodes limit (gives (event_at sequence_end last) rest)
    walk-beyond (node.object first last members) (suc limit) rest =
        ap (λ f. beyond f (Some limit)) (events_before-append (walk_members buffer members) (event_at struct_end last ∷ []) rest)
        ∙ members-beyond members limit (gives (event_at struct_end last) rest)

    items-beyond : (nodes : Nodes) (limit : ℕ) (rest : Future) →
        beyond (events_before (walk_items buffer nodes) rest) (Some limit) ≡ option_or (first_beyond_items limit nodes) (beyond rest (Some limit))
    items-beyond no_nodes limit rest = refl
    items-beyond (item n nodes) limit rest =
        ap (λ f. beyond f (Some limit)) (events_before-append (walk buffer n) (walk_items buffer nodes) rest)
        ∙ walk-beyond n limit (events_before (walk_items buffer nodes) rest)
        ∙ ap (option_or (first_beyond limit n)) (items-beyond nodes limit rest)
        ∙ sym (or-assoc (first_beyond limit n) (first_beyond_items limit nodes) (beyond rest (Some limit)))

    members-beyond : (members : Members) (limit : ℕ) (rest : Future) →
        beyond (events_before (walk_members buffer members) rest) (Some limit) ≡ option_or (first_beyond_members limit members) (beyond rest (Some limit))
    members-beyond no_members limit rest = refl
    members-beyond (member key mark n members) limit rest =
        ap (λ f. beyond f (Some limit)) (events_before-append (walk buffer n) (walk_members buffer members) rest)
        ∙ walk-beyond n limit (events_before (walk_members buffer members) rest)
        ∙ ap (option_or (first_beyond limit n)) (members-beyond members limit rest)
        ∙ sym (or-assoc (first_beyond limit n) (first_beyond_members limit members) (beyond rest (Some limit)))

-- On the walk of a value before the end it is the value's first bracket beyond.
pub whole_walk-beyond : (buffer : List ℕ) (n : Node) (limit : ℕ) →
    beyond (events_before (walk buffer n) finished) (Some limit) ≡ first_beyond limit n
whole_walk-beyond buffer n limit = walk-beyond buffer n limit finished ∙ or-none (first_beyond limit n)
