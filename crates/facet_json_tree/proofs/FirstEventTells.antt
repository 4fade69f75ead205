-- What the first event says of the value that events tell, or within which they break off.
use Rattle.std.proofs.Common.{◌≡◌, ◌≢◌, ◌⊎◌, inl, inr, true, false, Some, refl, ap, ◌∙◌}
use Rattle.facet_format.specs.Event.{ContainerKind, struct_start, struct_end, sequence_start, sequence_end, field_key, scalar, Scalar, Text, bytes_of, Passed}
use Rattle.facet_json_token.specs.Tokens.{Tokens}
use Rattle.facet_json_grammar.specs.Tree.{Tree, list, pairs, Trees, no_trees, tree, Pairs, no_pairs, pair}
use Rattle.facet_json_grammar.specs.Place.{Place}
use Rattle.facet_json_grammar.specs.Future.{Future, gives, stuck}
use Rattle.facet_json_core.specs.Told.{tree_of_scalar, opens, begins, is_member, Tells, a_scalar, a_list, an_object, TellsItems, no_item, one_item, TellsMembers, no_member, one_member, Breaks, at_once, in_list, in_object, BreaksItems, in_item, past_item, BreaksMembers, in_key, in_member, past_member}

-- ---- events with which a value begins

-- A value that is told begins with such an event.
pub told-begins : (p : Passed) (f rest : Future) (t : Tree) → Tells (gives p f) t rest → begins p.event.kind ≡ true
told-begins p f rest t (a_scalar _ _ value _ k s) = ap begins k
told-begins p f rest _ (a_list _ _ _ kind items k h) = ap begins k
told-begins p f rest _ (an_object _ _ _ kind members k h) = ap begins k

-- A value within which events break off after the first one is a container.
pub broken-opens : (place : Place) (rest : Tokens) (p : Passed) (f : Future) → Breaks place rest (gives p f) → opens p.event.kind ≡ true
broken-opens place rest p f (in_list _ _ kind k h) = ap opens k
broken-opens place rest p f (in_object _ _ kind k h) = ap opens k

-- ---- values

pub scalar-told : (p : Passed) (f rest : Future) (t : Tree) (value : Scalar) → p.event.kind ≡ scalar value → Tells (gives p f) t rest →
    (tree_of_scalar value ≡ Some t) × (f ≡ rest)
scalar-told p f rest t value k (a_scalar _ _ other _ q s) =
    let same : value ≡ other = cc in
    (ap tree_of_scalar same ∙ s, refl)
scalar-told p f rest _ value k (a_list _ _ _ kind items q h) = cc
scalar-told p f rest _ value k (an_object _ _ _ kind members q h) = cc

pub list-told : (p : Passed) (f rest : Future) (t : Tree) (kind : ContainerKind) → p.event.kind ≡ sequence_start kind →
    Tells (gives p f) t rest → (items : Trees) × (list items ≡ t) × TellsItems f items rest
list-told p f rest t kind k (a_scalar _ _ value _ q s) = cc
list-told p f rest _ kind k (a_list _ _ _ other items q h) = (items, refl, h)
list-told p f rest _ kind k (an_object _ _ _ other members q h) = cc

pub object-told : (p : Passed) (f rest : Future) (t : Tree) (kind : ContainerKind) → p.event.kind ≡ struct_start kind →
    Tells (gives p f) t rest → (members : Pairs) × (pairs members ≡ t) × TellsMembers f members rest
object-told p f rest t kind k (a_scalar _ _ value _ q s) = cc
object-told p f rest _ kind k (a_list _ _ _ other items q h) = cc
object-told p f rest _ kind k (an_object _ _ _ other members q h) = (members, refl, h)

pub list-broken : (place : Place) (rest : Tokens) (p : Passed) (f : Future) (kind : ContainerKind) → p.event.kind ≡ sequence_start kind →
    Breaks place rest (gives p f) → BreaksItems place rest f
list-broken place rest p f kind k (in_list _ _ other q h) = h
list-broken place rest p f kind k (in_object _ _ other q h) = cc

pub object-broken : (place : Place) (rest : Tokens) (p : Passed) (f : Future) (kind : ContainerKind) → p.event.kind ≡ struct_start kind →
    Breaks place rest (gives p f) → BreaksMembers place rest f
object-broken place rest p f kind k (in_list _ _ other q h) = cc
object-broken place rest p f kind k (in_object _ _ other q h) = h

-- ---- items

-- After the end of a list no more items are told.
pub items-ended : (p : Passed) (f rest : Future) (items : Trees) → p.event.kind ≡ sequence_end → TellsItems (gives p f) items rest →
    (no_trees ≡ items) × (f ≡ rest)
items-ended p f rest _ k (no_item _ _ q) = (refl, refl)
items-ended p f rest _ k (one_item _ others _ t items h more) =
    let begun = told-begins p f others t h in
    let ends : begins p.event.kind ≡ false = ap begins k in cc

-- Before another event a first item is told, and others after it.
pub items-first : (p : Passed) (f rest : Future) (items : Trees) → p.event.kind ≢ sequence_end → TellsItems (gives p f) items rest →
    (t : Tree) × (behind : Future) × (others : Trees) × Tells (gives p f) t behind × TellsItems behind others rest × (items ≡ tree t others)
items-first p f rest _ k (no_item _ _ q) = absurd (k q)
items-first p f rest _ k (one_item _ behind _ t others h more) = (t, behind, others, h, more, refl)

-- A list doesn't break off at its end.
pub items_end-whole : (place : Place) (rest : Tokens) (p : Passed) (f : Future) → p.event.kind ≡ sequence_end →
    BreaksItems place rest (gives p f) → ⊥
items_end-whole place rest p f k (in_item _ h) =
    let opened = broken-opens place rest p f h in
    let ends : opens p.event.kind ≡ false = ap opens k in cc
items_end-whole place rest p f k (past_item _ others t h more) =
    let begun = told-begins p f others t h in
    let ends : begins p.event.kind ≡ false = ap begins k in cc

-- Items break off within the first, or after it.
pub items-broken : (place : Place) (rest : Tokens) (f : Future) → BreaksItems place rest f →
    Breaks place rest f ⊎ ((t : Tree) × (others : Future) × Tells f t others × BreaksItems place rest others)
items-broken place rest f (in_item _ h) = inl h
items-broken place rest f (past_item _ others t h more) = inr (t, others, h, more)

-- ---- members

-- After the end of an object no more members are told.
pub members-ended : (p : Passed) (f rest : Future) (members : Pairs) → p.event.kind ≡ struct_end → TellsMembers (gives p f) members rest →
    (no_pairs ≡ members) × (f ≡ rest)
members-ended p f rest _ k (no_member _ _ q) = (refl, refl)
members-ended p f rest _ k (one_member _ _ others _ name t members q h more) = cc

-- After a key its value is told, and other members after that.
pub members-first : (p : Passed) (f rest : Future) (members : Pairs) (name : Text) → p.event.kind ≡ field_key name →
    TellsMembers (gives p f) members rest →
    (t : Tree) × (behind : Future) × (others : Pairs) × Tells f t behind × TellsMembers behind others rest × (members ≡ pair (bytes_of name) t others)
members-first p f rest _ name k (no_member _ _ q) = cc
members-first p f rest _ name k (one_member _ _ behind _ other t others q h more) =
    let same : other ≡ name = cc in
    (t, behind, others, h, more, ap (λ n. pair (bytes_of n) t others) same)

pub members-begin : (p : Passed) (f rest : Future) (members : Pairs) → TellsMembers (gives p f) members rest → is_member p.event.kind ≡ true
members-begin p f rest _ (no_member _ _ q) = ap is_member q
members-begin p f rest _ (one_member _ _ others _ name t members q h more) = ap is_member q

-- An object breaks off after a key.
pub members_broken-begin : (place : Place) (rest : Tokens) (p : Passed) (f : Future) → BreaksMembers place rest (gives p f) →
    (name : Text) × (p.event.kind ≡ field_key name)
members_broken-begin place rest p f (in_member _ _ name k h) = (name, k)
members_broken-begin place rest p f (past_member _ _ others name t k h more) = (name, k)

-- Members break off within the first's value, or after it.
pub members-broken : (place : Place) (rest : Tokens) (p : Passed) (f : Future) → BreaksMembers place rest (gives p f) →
    Breaks place rest f ⊎ ((t : Tree) × (others : Future) × Tells f t others × BreaksMembers place rest others)
members-broken place rest p f (in_member _ _ name k h) = inl h
members-broken place rest p f (past_member _ _ others name t k h more) = inr (t, others, h, more)

-- ---- where no event comes

-- An event comes.
pub data HasFirst : Future → Type 0 where
  has_first : (p : Passed) (f : Future) → HasFirst (gives p f)

-- An event comes, or nothing goes on at the place.
pub data HasFirstOr (place : Place) (rest : Tokens) : Future → Type 0 where
  first : (p : Passed) (f : Future) → HasFirstOr place rest (gives p f)
  none : HasFirstOr place rest (stuck place rest)

pub told-has : (f rest : Future) (t : Tree) → Tells f t rest → HasFirst f
told-has _ rest t (a_scalar p f value _ q s) = has_first p f
told-has _ rest _ (a_list p f _ kind items q h) = has_first p f
told-has _ rest _ (an_object p f _ kind members q h) = has_first p f

pub items-has : (f rest : Future) (items : Trees) → TellsItems f items rest → HasFirst f
items-has _ rest _ (no_item p f q) = has_first p f
items-has f rest _ (one_item _ others _ t items h more) = told-has f others t h

pub members-has : (f rest : Future) (members : Pairs) → TellsMembers f members rest → HasFirst f
members-has _ rest _ (no_member p f q) = has_first p f
members-has _ rest _ (one_member p f others _ name t members q h more) = has_first p f

has-or : (place : Place) (rest : Tokens) (f : Future) → HasFirst f → HasFirstOr place rest f
has-or place rest _ (has_first p f) = first p f

pub broken-has : (place : Place) (rest : Tokens) (f : Future) → Breaks place rest f → HasFirstOr place rest f
broken-has place rest _ at_once = none
broken-has place rest _ (in_list p f kind k h) = first p f
broken-has place rest _ (in_object p f kind k h) = first p f

pub items_broken-has : (place : Place) (rest : Tokens) (f : Future) → BreaksItems place rest f → HasFirstOr place rest f
items_broken-has place rest f (in_item _ h) = broken-has place rest f h
items_broken-has place rest f (past_item _ others t h more) = has-or place rest f (told-has f others t h)

pub members_broken-has : (place : Place) (rest : Tokens) (f : Future) → BreaksMembers place rest f → HasFirstOr place rest f
members_broken-has place rest _ in_key = none
members_broken-has place rest _ (in_member p f name k h) = first p f
members_broken-has place rest _ (past_member p f others name t k h more) = first p f
