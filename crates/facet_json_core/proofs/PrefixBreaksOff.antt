-- What a begun document gives begins a value, and breaks off before its end.
use Rattle.std.specs.Prelude.{ℕ, List}
use Rattle.std.proofs.Common.{◌≡◌, ℕ, List, refl, sym, ap, ◌∙◌, subst}
use Rattle.facet_format.specs.Event.{Passed, array, object}
use Rattle.facet_json_token.specs.Token.{Token}
use Rattle.facet_json_token.specs.Tokens.{Tokens}
use Rattle.facet_json_grammar.specs.Tree.{Tree}
use Rattle.facet_json_grammar.specs.Place.{Place}
use Rattle.facet_json_grammar.specs.Walk.{key_event, walk}
use Rattle.facet_json_grammar.specs.Future.{gives, stuck, events_before, Stage, within, over}
use Rattle.facet_json_grammar.specs.Begun.{Begun, nothing, whole, in_list, in_object, ListBegun, begins_item, past_item, ObjectBegun, no_key, key_alone, begins_member, past_member, BegunDocument}
use Rattle.facet_json_grammar.proofs.WalkComes.{events_before-append}
use Rattle.facet_json_core.specs.Told.{Tells, Breaks, at_once, BreaksItems, BreaksMembers}
use Rattle.facet_json_core.specs.Told as told
use Rattle.facet_json_core.proofs.WalkTells.{walk-tells}

-- The events break off within a value, or tell it, and then the stage after it is reached.
data ValueBegun (here : Place) (rest : Tokens) (after stage : Stage) (events : List Passed) : Type 0 where
  is_broken : Breaks here rest (events_before events (stuck here rest)) → ValueBegun here rest after stage events
  is_whole : (value : Tree) → after ≡ stage → Tells (events_before events (stuck here rest)) value (stuck here rest) →
      ValueBegun here rest after stage events

module _ (here : Place) (rest : Tokens) where
  -- An item that is begun, of a list.
  item-breaks : (after stage : Stage) (events : List Passed) → ValueBegun here rest after stage events →
      BreaksItems here rest (events_before events (stuck here rest))
  item-breaks after stage events (is_broken b) = told.in_item _ b
  item-breaks after stage events (is_whole value e t) = told.past_item _ _ value t (told.in_item _ at_once)

  -- A member whose value is begun, of an object.
  member-breaks : (buffer : List ℕ) (key mark : Token) (after stage : Stage) (events : List Passed) → ValueBegun here rest after stage events →
      BreaksMembers here rest (gives (key_event buffer key mark) (events_before events (stuck here rest)))
  member-breaks buffer key mark after stage events (is_broken b) = told.in_member _ _ _ refl b
  member-breaks buffer key mark after stage events (is_whole value e t) = told.past_member _ _ _ _ value refl t told.in_key

module _ (buffer : List ℕ) where
  mutual
    value-begun : {place here : Place} {after stage : Stage} {ts rest : Tokens} {events : List Passed} →
        Begun buffer place after ts events stage rest → stage ≡ within here → ValueBegun here rest after stage events
    value-begun {here = here} (nothing place after ts) e =
        let same : place ≡ here = cc in
        is_broken at_once
    value-begun {here = here} (whole place after ts rest node value s t) e =
        is_whole value refl (walk-tells buffer node value (stuck here rest) t)
    value-begun (in_list place after stage first inner rest events k b) e =
        is_broken (told.in_list _ _ array refl (list-breaks b e))
    value-begun (in_object place after stage first inner rest events k b) e =
        is_broken (told.in_object _ _ object refl (object-breaks b e))

    list-breaks : {here : Place} {stage : Stage} {ts rest : Tokens} {events : List Passed} →
        ListBegun buffer ts events stage rest → stage ≡ within here →
        BreaksItems here rest (events_before events (stuck here rest))
    list-breaks {here = here} (begins_item ts rest events stage b) e = item-breaks here rest _ stage events (value-begun b e)
    list-breaks {here = here} (past_item ts others rest node value separator events total stage s t k b a) e =
        let behind = events_before events (stuck here rest) in
        let parts = sym (ap (λ es. events_before es (stuck here rest)) a ∙ events_before-append (walk buffer node) events (stuck here rest)) in
        subst (λ f. BreaksItems here rest f) parts (told.past_item _ behind value (walk-tells buffer node value behind t) (list-breaks b e))

    object-breaks : {here : Place} {stage : Stage} {ts rest : Tokens} {events : List Passed} →
        ObjectBegun buffer ts events stage rest → stage ≡ within here →
        BreaksMembers here rest (events_before events (stuck here rest))
    object-breaks (no_key ts) e = told.in_key
    object-breaks (key_alone key rest name k n) e = told.in_key
    object-breaks {here = here} (begins_member key mark ts rest name events stage k n c b) e =
        member-breaks here rest buffer key mark _ stage events (value-begun b e)
    object-breaks {here = here} (past_member key mark ts others rest name node value separator events total stage k n c s t q b a) e =
        let behind = events_before events (stuck here rest) in
        let first = key_event buffer key mark in
        let parts = sym (ap (λ es. events_before es (stuck here rest)) a ∙ ap (gives first) (events_before-append (walk buffer node) events (stuck here rest))) in
        subst (λ f. BreaksMembers here rest f) parts
        (told.past_member first _ behind _ value refl (walk-tells buffer node value behind t) (object-breaks b e))

  root-breaks : (here : Place) (rest : Tokens) (events : List Passed) → ValueBegun here rest over (within here) events →
      Breaks here rest (events_before events (stuck here rest))
  root-breaks here rest events (is_broken b) = b
  root-breaks here rest events (is_whole value e t) = cc

  -- What a begun document gives breaks off within it.
  pub begun-breaks : {here : Place} {ts rest : Tokens} {events : List Passed} →
      BegunDocument buffer ts events (within here) rest → Breaks here rest (events_before events (stuck here rest))
  begun-breaks {here = here} {rest = rest} {events = events} b = root-breaks here rest events (value-begun b refl)
