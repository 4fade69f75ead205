-- From the root of an input on, whatever the rules: the events tell a value, and then comes what is behind the root; or they break off within one.
use Rattle.std.specs.Prelude.{ℕ, List, is_none}
use Rattle.std.proofs.Common.{◌≡◌, ℕ, Bool, true, false, cond, ◌&&◌, List, [], ◌∷◌, Option, Some, None, refl, sym, ap, ap₂, ◌∙◌, subst}
use Rattle.facet_format.specs.Event.{ContainerKind, object, array, struct_start, struct_end, sequence_start, sequence_end, Passed}
use Rattle.facet_json_token.specs.Token.{Kind, Token}
use Rattle.facet_json_token.specs.Token as token
use Rattle.facet_json_token.specs.Tokens.{Tokens, ended, refused, next}
use Rattle.facet_json_grammar.specs.Future.{Future, gives, stuck, within, behind_root, after_value, is_meaningless, reads_by, reads_colon_by}
use Rattle.facet_json_grammar.specs.Language.{Rules, lenient_rules, strict_rules}
use Rattle.facet_json_grammar.specs.Meaning.{meaning_of}
use Rattle.facet_json_grammar.specs.Node.{is_scalar, is_string}
use Rattle.facet_json_grammar.specs.Place.{Place, root, before_key, after_key, after_colon, after_member, before_item, after_item, next_key, next_item, stops, names, value_turn, place_turn, goes_on, led}
use Rattle.facet_json_grammar.specs.Refusal.{needs_meaning}
use Rattle.facet_json_grammar.specs.Tree.{Tree, null, bool, list, pairs, Trees, no_trees, tree, Pairs, no_pairs, pair}
use Rattle.facet_json_grammar.specs.Walk.{event_at, key_event, scalar_event}
use Rattle.facet_json_grammar.proofs.WalkComes.{follows, reads-turn, turn-sensible, reads-meaningless, reads-ended, reads-refused, colon-ended, colon-refused, colon-missing, colon-stands}
use Rattle.facet_json_core.specs.Told.{Tells, a_scalar, a_list, an_object, TellsItems, no_item, one_item, TellsMembers, no_member, one_member, Breaks, at_once, in_list, in_object, BreaksItems, in_item, past_item, BreaksMembers, in_key, in_member, past_member}
use Rattle.facet_json_core.proofs.WalkTells.{scalar-told}

-- ---- what comes within open containers

-- The events end each of the open containers, the innermost first, and then this comes.
data EndsAll : List ContainerKind → Future → Future → Type 0 where
  none_open : (f : Future) → EndsAll [] f f
  a_list_ends : (others : List ContainerKind) (f behind last : Future) (items : Trees) → TellsItems f items behind →
      EndsAll others behind last → EndsAll (array ∷ others) f last
  an_object_ends : (others : List ContainerKind) (f behind last : Future) (members : Pairs) → TellsMembers f members behind →
      EndsAll others behind last → EndsAll (object ∷ others) f last

-- They break off in one of the open containers.
data BreaksWithin (place : Place) (rest : Tokens) : List ContainerKind → Future → Type 0 where
  in_items : (others : List ContainerKind) (f : Future) → BreaksItems place rest f → BreaksWithin place rest (array ∷ others) f
  in_members : (others : List ContainerKind) (f : Future) → BreaksMembers place rest f → BreaksWithin place rest (object ∷ others) f
  past_items : (others : List ContainerKind) (f behind : Future) (items : Trees) → TellsItems f items behind →
      BreaksWithin place rest others behind → BreaksWithin place rest (array ∷ others) f
  past_members : (others : List ContainerKind) (f behind : Future) (members : Pairs) → TellsMembers f members behind →
      BreaksWithin place rest others behind → BreaksWithin place rest (object ∷ others) f

-- After a value: all containers end, up to what is behind the root, or one breaks off.
data Goes (r : Rules) (stack : List ContainerKind) (f : Future) : Type 0 where
  to_the_end : (ts : Tokens) → EndsAll stack f (behind_root r ts) → Goes r stack f
  to_a_break : (place : Place) (rest : Tokens) → BreaksWithin place rest stack f → Goes r stack f

-- Where a value stands: it is told, and then the others go so; or it breaks off.
data HasValue (r : Rules) (stack : List ContainerKind) (f : Future) : Type 0 where
  is_told : (t : Tree) (behind : Future) → Tells f t behind → Goes r stack behind → HasValue r stack f
  is_broken : (place : Place) (rest : Tokens) → Breaks place rest f → HasValue r stack f

-- ---- a value within its container

-- An item that stands first, and the others.
item-goes : (r : Rules) (others : List ContainerKind) (f : Future) → HasValue r (array ∷ others) f → Goes r (array ∷ others) f
item-goes r others f (is_told t behind told (to_the_end ts (a_list_ends _ _ past last items inside more))) =
    to_the_end ts (a_list_ends others f past last (tree t items) (one_item f behind past t items told inside) more)
item-goes r others f (is_told t behind told (to_a_break place rest (in_items _ _ b))) = to_a_break place rest (in_items others f (past_item f behind t told b))
item-goes r others f (is_told t behind told (to_a_break place rest (past_items _ _ past items inside b))) =
    to_a_break place rest (past_items others f past (tree t items) (one_item f behind past t items told inside) b)
item-goes r others f (is_broken place rest b) = to_a_break place rest (in_items others f (in_item f b))

module _ (buffer : List ℕ) (key mark : Token) where
  -- A member whose value stands there, and the others.
  member-goes : (r : Rules) (others : List ContainerKind) (f : Future) → HasValue r (object ∷ others) f →
      Goes r (object ∷ others) (gives (key_event buffer key mark) f)
  member-goes r others f (is_told t behind told (to_the_end ts (an_object_ends _ _ past last members inside more))) =
      to_the_end ts (an_object_ends others _ past last (pair _ t members) (one_member _ f behind past _ t members refl told inside) more)
  member-goes r others f (is_told t behind told (to_a_break place rest (in_members _ _ b))) =
      to_a_break place rest (in_members others _ (past_member _ f behind _ t refl told b))
  member-goes r others f (is_told t behind told (to_a_break place rest (past_members _ _ past members inside b))) =
      to_a_break place rest (past_members others _ past (pair _ t members) (one_member _ f behind past _ t members refl told inside) b)
  member-goes r others f (is_broken place rest b) = to_a_break place rest (in_members others _ (in_member _ f _ refl b))

-- A list whose items stand there.
list-told : (r : Rules) (stack : List ContainerKind) (p : Passed) (f : Future) (kind : ContainerKind) → p.event.kind ≡ sequence_start kind →
    Goes r (array ∷ stack) f → HasValue r stack (gives p f)
list-told r stack p f kind k (to_the_end ts (a_list_ends _ _ behind last items inside more)) =
    is_told (list items) behind (a_list p f behind kind items k inside) (to_the_end ts more)
list-told r stack p f kind k (to_a_break place rest (in_items _ _ b)) = is_broken place rest (in_list p f kind k b)
list-told r stack p f kind k (to_a_break place rest (past_items _ _ behind items inside b)) =
    is_told (list items) behind (a_list p f behind kind items k inside) (to_a_break place rest b)

-- An object whose members stand there.
object-told : (r : Rules) (stack : List ContainerKind) (p : Passed) (f : Future) (kind : ContainerKind) → p.event.kind ≡ struct_start kind →
    Goes r (object ∷ stack) f → HasValue r stack (gives p f)
object-told r stack p f kind k (to_the_end ts (an_object_ends _ _ behind last members inside more)) =
    is_told (pairs members) behind (an_object p f behind kind members k inside) (to_the_end ts more)
object-told r stack p f kind k (to_a_break place rest (in_members _ _ b)) = is_broken place rest (in_object p f kind k b)
object-told r stack p f kind k (to_a_break place rest (past_members _ _ behind members inside b)) =
    is_told (pairs members) behind (an_object p f behind kind members k inside) (to_a_break place rest b)

-- ---- at each place

-- The places within open containers where tokens are read.
data Fits : Place → List ContainerKind → Type 0 where
  the_root : Fits root []
  a_member : (others : List ContainerKind) → Fits after_colon (object ∷ others)
  a_key : (others : List ContainerKind) → Fits before_key (object ∷ others)
  a_next_key : (others : List ContainerKind) → Fits next_key (object ∷ others)
  a_member_end : (others : List ContainerKind) → Fits after_member (object ∷ others)
  an_item : (others : List ContainerKind) → Fits before_item (array ∷ others)
  a_next_item : (others : List ContainerKind) → Fits next_item (array ∷ others)
  an_item_end : (others : List ContainerKind) → Fits after_item (array ∷ others)

-- a value, or what follows one
abbrev Comes : Rules → Place → List ContainerKind → Future → Type 0
Comes r root stack f = HasValue r stack f
Comes r after_colon stack f = HasValue r stack f
Comes r _ stack f = Goes r stack f

-- Where nothing goes on, events break off.
stuck-comes : (r : Rules) (place : Place) (stack : List ContainerKind) (ts : Tokens) → Fits place stack → Comes r place stack (stuck place ts)
stuck-comes r _ _ ts the_root = is_broken root ts at_once
stuck-comes r _ _ ts (a_member others) = is_broken after_colon ts at_once
stuck-comes r _ _ ts (a_key others) = to_a_break before_key ts (in_members others _ in_key)
stuck-comes r _ _ ts (a_next_key others) = to_a_break next_key ts (in_members others _ in_key)
stuck-comes r _ _ ts (a_member_end others) = to_a_break after_member ts (in_members others _ in_key)
stuck-comes r _ _ ts (an_item others) = to_a_break before_item ts (in_items others _ (in_item _ at_once))
stuck-comes r _ _ ts (a_next_item others) = to_a_break next_item ts (in_items others _ (in_item _ at_once))
stuck-comes r _ _ ts (an_item_end others) = to_a_break after_item ts (in_items others _ (in_item _ at_once))

key-broken : (r : Rules) (others : List ContainerKind) (ts : Tokens) → Goes r (object ∷ others) (stuck after_key ts)
key-broken r others ts = to_a_break after_key ts (in_members others _ in_key)

-- The end of an object, and what follows it.
object-ends : (r : Rules) (others : List ContainerKind) (p : Passed) (f : Future) → p.event.kind ≡ struct_end → Goes r others f →
    Goes r (object ∷ others) (gives p f)
object-ends r others p f k (to_the_end ts more) = to_the_end ts (an_object_ends others _ f _ no_pairs (no_member p f k) more)
object-ends r others p f k (to_a_break place rest b) = to_a_break place rest (past_members others _ f no_pairs (no_member p f k) b)

list-ends : (r : Rules) (others : List ContainerKind) (p : Passed) (f : Future) → p.event.kind ≡ sequence_end → Goes r others f →
    Goes r (array ∷ others) (gives p f)
list-ends r others p f k (to_the_end ts more) = to_the_end ts (a_list_ends others _ f _ no_trees (no_item p f k) more)
list-ends r others p f k (to_a_break place rest b) = to_a_break place rest (past_items others _ f no_trees (no_item p f k) b)

module _ (r : Rules) (buffer : List ℕ) where
  -- ---- one token

  -- These tokens come so at each place.
  abbrev ComesFrom : Tokens → Type 0
  ComesFrom ts = (stack : List ContainerKind) (place : Place) → Fits place stack → Comes r place stack (reads_by r buffer stack (within place) ts)

  abbrev ComesAfterKey : Tokens → Type 0
  ComesAfterKey ts = (others : List ContainerKind) (key : Token) → Goes r (object ∷ others) (reads_colon_by r buffer (object ∷ others) key ts)

  -- After a value.
  goes_after : (ts : Tokens) → ComesFrom ts → (stack : List ContainerKind) → Goes r stack (reads_by r buffer stack (after_value stack) ts)
  unfolding reads_by
  goes_after ts h [] = to_the_end ts (none_open (behind_root r ts))
  goes_after ts h (object ∷ others) = h (object ∷ others) after_member (a_member_end others)
  goes_after ts h (array ∷ others) = h (array ∷ others) after_item (an_item_end others)

  -- A scalar's token that is not meaningless means something.
  meant : (kind : Kind) → is_scalar kind ≡ true → (needs_meaning kind && is_none (meaning_of buffer kind)) ≡ false →
      (value : Tree) × (meaning_of buffer kind ≡ Some value)
  meant kind s m = by (meaning_of buffer kind) refl kind refl
    where
      by : (o : Option Tree) → meaning_of buffer kind ≡ o → (k : Kind) → kind ≡ k → (value : Tree) × (meaning_of buffer kind ≡ Some value)
      by (Some value) e k same = (value, e)
      by None e token.null same = let is : Some null ≡ None = sym (ap (meaning_of buffer) same) ∙ e in cc
      by None e token.true_literal same = let is : Some (bool true) ≡ None = sym (ap (meaning_of buffer) same) ∙ e in cc
      by None e token.false_literal same = let is : Some (bool false) ≡ None = sym (ap (meaning_of buffer) same) ∙ e in cc
      by None e (token.string start finish escapes) same =
          let no : true ≡ false = sym (ap₂ (λ a b. needs_meaning a && is_none b) same e) ∙ m in cc
      by None e (token.number start finish hint) same =
          let no : true ≡ false = sym (ap₂ (λ a b. needs_meaning a && is_none b) same e) ∙ m in cc
      by None e _ same = let no = sym (ap is_scalar same) ∙ s in cc

  -- A scalar where a value may stand.
  scalar-here : (stack : List ContainerKind) (t : Token) (rest : Tokens) → is_scalar t.kind ≡ true → is_meaningless buffer t ≡ false →
      ComesFrom rest → HasValue r stack (gives (scalar_event buffer t) (reads_by r buffer stack (after_value stack) rest))
  scalar-here stack t rest s m h =
      let is = meant t.kind s m in
      is_told is.0 _ (a_scalar (scalar_event buffer t) _ _ is.0 refl (scalar-told buffer t is.0 is.1)) (goes_after rest h stack)

  -- Any token where a value may stand.
  value-here : (place : Place) (stack : List ContainerKind) (t : Token) (rest : Tokens) (kind : Kind) → t.kind ≡ kind →
      is_meaningless buffer t ≡ false → ComesFrom rest → HasValue r stack (follows r buffer place t stack rest (value_turn kind))
  value-here place stack t rest token.object_start k m h =
      object-told r stack (event_at (struct_start object) t) _ object refl (h (object ∷ stack) before_key (a_key stack))
  value-here place stack t rest token.array_start k m h =
      list-told r stack (event_at (sequence_start array) t) _ array refl (h (array ∷ stack) before_item (an_item stack))
  value-here place stack t rest token.null k m h = scalar-here stack t rest (ap is_scalar k) m h
  value-here place stack t rest token.true_literal k m h = scalar-here stack t rest (ap is_scalar k) m h
  value-here place stack t rest token.false_literal k m h = scalar-here stack t rest (ap is_scalar k) m h
  value-here place stack t rest (token.string start finish escapes) k m h = scalar-here stack t rest (ap is_scalar k) m h
  value-here place stack t rest (token.number start finish hint) k m h = scalar-here stack t rest (ap is_scalar k) m h
  value-here place stack t rest _ k m h = is_broken place (next t rest) at_once

  -- ---- a token at each place

  key-here : (place : Place) (others : List ContainerKind) (t : Token) (rest : Tokens) (kind : Kind) → ComesAfterKey rest →
      Goes r (object ∷ others) (follows r buffer place t (object ∷ others) rest (cond (is_string kind) names stops))
  key-here place others t rest (token.string start finish escapes) g = g others t
  key-here place others t rest _ g = to_a_break place (next t rest) (in_members others _ in_key)

  first_key-here : (others : List ContainerKind) (t : Token) (rest : Tokens) (kind : Kind) → ComesFrom rest → ComesAfterKey rest →
      Goes r (object ∷ others) (follows r buffer before_key t (object ∷ others) rest (place_turn before_key kind))
  first_key-here others t rest token.object_end h g = object-ends r others (event_at struct_end t) _ refl (goes_after rest h others)
  first_key-here others t rest (token.string start finish escapes) h g = g others t
  first_key-here others t rest _ h g = to_a_break before_key (next t rest) (in_members others _ in_key)

  goes_by : (q : Rules) (others : List ContainerKind) (rest : Tokens) → ComesFrom rest →
      Goes r (object ∷ others) (reads_by r buffer (object ∷ others) (within (led q before_key)) rest)
  goes_by lenient_rules others rest h = h (object ∷ others) before_key (a_key others)
  goes_by strict_rules others rest h = h (object ∷ others) next_key (a_next_key others)

  goes_by_item : (q : Rules) (others : List ContainerKind) (rest : Tokens) → ComesFrom rest →
      Goes r (array ∷ others) (reads_by r buffer (array ∷ others) (within (led q before_item)) rest)
  goes_by_item lenient_rules others rest h = h (array ∷ others) before_item (an_item others)
  goes_by_item strict_rules others rest h = h (array ∷ others) next_item (a_next_item others)

  member_end-here : (others : List ContainerKind) (t : Token) (rest : Tokens) (kind : Kind) → ComesFrom rest →
      Goes r (object ∷ others) (follows r buffer after_member t (object ∷ others) rest (place_turn after_member kind))
  member_end-here others t rest token.comma h = goes_by r others rest h
  member_end-here others t rest token.object_end h = object-ends r others (event_at struct_end t) _ refl (goes_after rest h others)
  member_end-here others t rest _ h = to_a_break after_member (next t rest) (in_members others _ in_key)

  item_end-here : (others : List ContainerKind) (t : Token) (rest : Tokens) (kind : Kind) → ComesFrom rest →
      Goes r (array ∷ others) (follows r buffer after_item t (array ∷ others) rest (place_turn after_item kind))
  item_end-here others t rest token.comma h = goes_by_item r others rest h
  item_end-here others t rest token.array_end h = list-ends r others (event_at sequence_end t) _ refl (goes_after rest h others)
  item_end-here others t rest _ h = to_a_break after_item (next t rest) (in_items others _ (in_item _ at_once))

  first_item-here : (others : List ContainerKind) (t : Token) (rest : Tokens) (kind : Kind) → t.kind ≡ kind → is_meaningless buffer t ≡ false →
      ComesFrom rest → Goes r (array ∷ others) (follows r buffer before_item t (array ∷ others) rest (place_turn before_item kind))
  first_item-here others t rest token.array_end k m h = list-ends r others (event_at sequence_end t) _ refl (goes_after rest h others)
  first_item-here others t rest kind k m h = item-goes r others _ (value-here before_item (array ∷ others) t rest kind k m h)

  token-comes : (place : Place) (stack : List ContainerKind) (t : Token) (rest : Tokens) → Fits place stack → is_meaningless buffer t ≡ false →
      ComesFrom rest → ComesAfterKey rest → Comes r place stack (follows r buffer place t stack rest (place_turn place t.kind))
  token-comes _ _ t rest the_root m h g = value-here root [] t rest t.kind refl m h
  token-comes _ _ t rest (a_member others) m h g = value-here after_colon (object ∷ others) t rest t.kind refl m h
  token-comes _ _ t rest (a_key others) m h g = first_key-here others t rest t.kind h g
  token-comes _ _ t rest (a_next_key others) m h g = key-here next_key others t rest t.kind g
  token-comes _ _ t rest (a_member_end others) m h g = member_end-here others t rest t.kind h
  token-comes _ _ t rest (an_item others) m h g = first_item-here others t rest t.kind refl m h
  token-comes _ _ t rest (a_next_item others) m h g = item-goes r others _ (value-here next_item (array ∷ others) t rest t.kind refl m h)
  token-comes _ _ t rest (an_item_end others) m h g = item_end-here others t rest t.kind h

  next-comes : (place : Place) (stack : List ContainerKind) (t : Token) (rest : Tokens) (b : Bool) → is_meaningless buffer t ≡ b → Fits place stack →
      ComesFrom rest → ComesAfterKey rest → Comes r place stack (reads_by r buffer stack (within place) (next t rest))
  next-comes place stack t rest true m fits h g =
      subst (λ f. Comes r place stack f) (sym (reads-meaningless r buffer stack place t rest m)) (stuck-comes r place stack (next t rest) fits)
  next-comes place stack t rest false m fits h g =
      subst (λ f. Comes r place stack f) (sym (reads-turn r buffer stack place t rest _ (turn-sensible buffer place t m)))
      (token-comes place stack t rest fits m h g)

  colon-comes : (others : List ContainerKind) (key mark : Token) (rest : Tokens) (b : Bool) → goes_on after_key mark.kind ≡ b → ComesFrom rest →
      Goes r (object ∷ others) (reads_colon_by r buffer (object ∷ others) key (next mark rest))
  colon-comes others key mark rest false c h =
      subst (Goes r (object ∷ others)) (sym (colon-missing r buffer (object ∷ others) key mark rest c)) (key-broken r others (next mark rest))
  colon-comes others key mark rest true c h =
      subst (Goes r (object ∷ others)) (sym (colon-stands r buffer (object ∷ others) key mark rest c))
      (member-goes buffer key mark r others _ (h (object ∷ others) after_colon (a_member others)))

  -- ---- all tokens

  mutual
    tokens-come : (ts : Tokens) → ComesFrom ts
    tokens-come ended stack place fits = subst (λ f. Comes r place stack f) (sym (reads-ended r buffer stack place)) (stuck-comes r place stack ended fits)
    tokens-come (refused f) stack place fits =
        subst (λ x. Comes r place stack x) (sym (reads-refused r buffer stack place f)) (stuck-comes r place stack (refused f) fits)
    tokens-come (next t rest) stack place fits =
        next-comes place stack t rest (is_meaningless buffer t) refl fits (tokens-come rest) (tokens_after_key-come rest)

    tokens_after_key-come : (ts : Tokens) → ComesAfterKey ts
    tokens_after_key-come ended others key = subst (Goes r (object ∷ others)) (sym (colon-ended r buffer (object ∷ others) key)) (key-broken r others ended)
    tokens_after_key-come (refused f) others key =
        subst (Goes r (object ∷ others)) (sym (colon-refused r buffer (object ∷ others) key f)) (key-broken r others (refused f))
    tokens_after_key-come (next mark rest) others key = colon-comes others key mark rest (goes_on after_key mark.kind) refl (tokens-come rest)

-- ---- from the root on

-- What comes tells a value, and then what is behind the root comes; or it breaks off within a value.
pub data ValueOrBreak (r : Rules) (f : Future) : Type 0 where
  a_value : (t : Tree) (ts : Tokens) → Tells f t (behind_root r ts) → ValueOrBreak r f
  a_break : (place : Place) (rest : Tokens) → Breaks place rest f → ValueOrBreak r f

behind-ended : (r : Rules) (f g : Future) → EndsAll [] f g → f ≡ g
behind-ended r f _ (none_open _) = refl

none-breaks : (place : Place) (rest : Tokens) (stack : List ContainerKind) (f : Future) → BreaksWithin place rest stack f → stack ≡ [] → ⊥
none-breaks place rest _ f (in_items others _ b) e = cc
none-breaks place rest _ f (in_members others _ b) e = cc
none-breaks place rest _ f (past_items others _ behind items inside b) e = cc
none-breaks place rest _ f (past_members others _ behind members inside b) e = cc

value_or_break : (r : Rules) (f : Future) → HasValue r [] f → ValueOrBreak r f
value_or_break r f (is_told t behind told (to_the_end ts e)) = a_value t ts (subst (Tells f t) (behind-ended r behind (behind_root r ts) e) told)
value_or_break r f (is_told t behind told (to_a_break place rest b)) = absurd (none-breaks place rest [] behind b refl)
value_or_break r f (is_broken place rest b) = a_break place rest b

pub root-value_or_break : (r : Rules) (buffer : List ℕ) (ts : Tokens) → ValueOrBreak r (reads_by r buffer [] (within root) ts)
root-value_or_break r buffer ts = value_or_break r _ (tokens-come r buffer ts [] root the_root)
