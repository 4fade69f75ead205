-- How what is refused within a limit in one part answers for all.
use Rattle.std.proofs.Common.{◌≡◌, ◌≢◌, ◌⊎◌, inl, inr, ℕ, true, false, List, Option, None, sym, ap, ◌∙◌, subst}
use Rattle.facet_format.specs.Complaint.{Refusal}
use Rattle.facet_format.specs.Event.{Event, sequence_end, field_key, Text, Passed}
use Rattle.facet_json_token.specs.Tokens.{Tokens}
use Rattle.facet_json_grammar.specs.Tree.{Tree, Trees, no_trees, Pairs, no_pairs, list, pairs}
use Rattle.facet_json_grammar.specs.Place.{Place}
use Rattle.facet_json_grammar.specs.Future.{Future, gives}
use Rattle.facet_json_grammar.specs.Now.{Now, future_of}
use Rattle.facet_json_grammar.specs.Next.{PassesNext}
use Rattle.facet_json_core.specs.Told.{opens, is_member, BreaksItems, BreaksMembers}
use Rattle.facet_json_core.specs.Reading.{LacksMemory, GivesNone, lacks_memory, at_the_end, is_stuck, IsUnreadBy}
use Rattle.facet_json_tree.specs.Depth.{outer, beyond}
use Rattle.facet_json_tree.specs.Inner.Beyond.{inner, SameBeyond, IsUnreadWithin, as_ever, too_deep, IsValueUnreadWithin}
use Rattle.facet_json_tree.specs.Inner.Reading.{AreItemsUnreadWithin, AreMembersUnreadWithin, whole, a_list, an_object, IsRefused, begins_none, a_scalar, a_bracket, IsLevel, IsUnfilled}
use Rattle.facet_json_tree.proofs.FirstEventTells.{broken-opens, list-broken, object-broken, items-broken, members-broken, members_broken-begin}
use Rattle.facet_json_tree.proofs.ReadingValues.{none-value, none-items, none-members, scalar-unread, list-unread, object-unread}
use Rattle.facet_json_tree.proofs.ItemsRead.{ItemsPassed, items-unread, item-unread}
use Rattle.facet_json_tree.proofs.MembersRead.{MembersPassed, members-unread, no_key-unread, member-unread}
use Rattle.facet_json_tree.proofs.ValuesBegin.{opens-begins, begins_none-unread, lacks-unread, scalar-no_list, scalar-no_pairs}
use Rattle.facet_json_tree.proofs.BeyondEvents.{unlimited-none, outer-inner, key-level, list-level, object-level, bracket-beyond}

-- ---- refusals

module _ {limit : Option ℕ} {V : Type 0} {tells : Future → V → Future → Type 0} {breaks : Place → Tokens → Future → Type 0} where
  -- It is the same input.
  pub within-same : {a b : List ℕ} {f : Future} {r : Refusal} → a ≡ b → IsUnreadWithin limit V tells breaks a f r →
      IsUnreadWithin limit V tells breaks b f r
  within-same {f = f} {r = r} e h = subst (λ x. IsUnreadWithin limit V tells breaks x f r) e h

  -- It is read from what comes.
  pub within-at : {buffer : List ℕ} {f g : Future} {r : Refusal} → f ≡ g → IsUnreadWithin limit V tells breaks buffer g r →
      IsUnreadWithin limit V tells breaks buffer f r
  within-at {buffer = buffer} {r = r} e h = subst (λ x. IsUnreadWithin limit V tells breaks buffer x r) (sym e) h

  -- What lacked memory is unread.
  pub lacks-within : {buffer : List ℕ} {f : Future} {r : Refusal} → LacksMemory r → IsUnreadWithin limit V tells breaks buffer f r
  lacks-within h = as_ever (lacks-unread h) (λ place rest b. inl h)

-- Without a limit nothing is too deep.
pub unlimited-unread : {V : Type 0} {tells : Future → V → Future → Type 0} {breaks : Place → Tokens → Future → Type 0}
    {buffer : List ℕ} {f : Future} {r : Refusal} → IsUnreadWithin None V tells breaks buffer f r → IsUnreadBy V tells breaks buffer f r
unlimited-unread (as_ever unread shallow) = unread
unlimited-unread {f = f} (too_deep span comes is) = let none = unlimited-none f in cc

-- What is refused within a part is refused within the whole, where the same is beyond from the start of each.
pub lift-unread : {low high : Option ℕ} {V W : Type 0} {tells : Future → V → Future → Type 0} {breaks : Place → Tokens → Future → Type 0}
    {says : Future → W → Future → Type 0} {stops : Place → Tokens → Future → Type 0} {buffer : List ℕ} {f g : Future} {r : Refusal} →
    beyond g high ≡ beyond f low →
    (IsUnreadBy V tells breaks buffer f r → IsUnreadBy W says stops buffer g r) →
    ((place : Place) (rest : Tokens) → stops place rest g → IsUnreadBy V tells breaks buffer f r → LacksMemory r ⊎ breaks place rest f) →
    IsUnreadWithin low V tells breaks buffer f r → IsUnreadWithin high W says stops buffer g r
lift-unread level unread broken (as_ever u shallow) =
    as_ever (unread u) (λ place rest b.
    elim (broken place rest b u) [
      | inl h ↦ inl h
      | inr part ↦ elim (shallow place rest part) [ inl h ↦ inl h | inr none ↦ inr (level ∙ none) ]
    ])
lift-unread level unread broken (too_deep span comes is) = too_deep span (level ∙ comes) is

-- ---- the first event

-- Where it is refused, nothing beyond comes.
none-shallow : (limit : Option ℕ) (now : Now) (r : Refusal) → GivesNone now r → LacksMemory r ⊎ (beyond (future_of now) limit ≡ None)
none-shallow limit now r (lacks_memory h) = inl h
none-shallow limit now r (at_the_end e) = inr (ap (λ f. beyond f limit) e)
none-shallow limit now r (is_stuck place rest e s) = inr (ap (λ f. beyond f limit) e)

module _ (limit : Option ℕ) (now : Now) (r : Refusal) (g : GivesNone now r) where
  pub none-value-within : IsValueUnreadWithin limit now.buffer (future_of now) r
  none-value-within = as_ever (none-value now r g) (λ place rest b. none-shallow limit now r g)

  pub none-items-within : AreItemsUnreadWithin limit now.buffer (future_of now) r
  none-items-within = as_ever (none-items now r g) (λ place rest b. none-shallow limit now r g)

  pub none-members-within : AreMembersUnreadWithin limit now.buffer (future_of now) r
  none-members-within = as_ever (none-members now r g) (λ place rest b. none-shallow limit now r g)

-- A value that is refused at its first event is unread.
pub refused-within : (limit : Option ℕ) (p : Passed) (f : Future) (buffer : List ℕ) (r : Refusal) → IsRefused limit p.event r →
    IsValueUnreadWithin limit buffer (gives p f) r
refused-within limit p f buffer r (begins_none none) =
    as_ever (begins_none-unread p f buffer r none)
    (λ place rest b. let begun = opens-begins p.event.kind (broken-opens place rest p f b) in cc)
refused-within limit p f buffer r (a_scalar value k h) =
    as_ever (scalar-unread p f buffer value r k h)
    (λ place rest b. let opened = broken-opens place rest p f b in let ends : opens p.event.kind ≡ false = ap opens k in cc)
refused-within limit p f buffer r (a_bracket o e is) = too_deep p.event.span (bracket-beyond p f limit o e) is

pub began-within : (limit : Option ℕ) (old : Now) (e : Event) (new : Now) (buffer : List ℕ) (r : Refusal) → PassesNext old e new →
    IsRefused limit e r → IsValueUnreadWithin limit buffer (future_of old) r
began-within limit old e new buffer r g h =
    within-at g.comes (refused-within limit (record { event = e; last = g.last }) (future_of new) buffer r h)

-- ---- items

module _ (limit : Option ℕ) (start here : Future) (items : List Tree) (passed : ItemsPassed start here items)
    (level : SameBeyond start limit here limit) (buffer : List ℕ) (r : Refusal) where
  -- How the others are refused, all of them are.
  pub items-within : AreItemsUnreadWithin limit buffer here r → AreItemsUnreadWithin limit buffer start r
  items-within h =
      lift-unread level.same (items-unread start here items passed buffer r) (λ place rest b u. inr (passed.broken place rest b)) h

  -- How an item is refused, all of them are.
  pub item-within : (p : Passed) (f : Future) → here ≡ gives p f → p.event.kind ≢ sequence_end →
      IsValueUnreadWithin limit buffer (gives p f) r → AreItemsUnreadWithin limit buffer start r
  item-within p f comes k h =
      lift-unread (level.same ∙ ap (λ g. beyond g limit) comes) (item-unread start here items passed p f comes buffer r k)
      (λ place rest b u.
      elim (items-broken place rest (gives p f) (subst (λ g. BreaksItems place rest g) comes (passed.broken place rest b))) [
        | inl b ↦ inr b
        | inr one ↦ inl (u.told one.0 one.1 one.2)
      ]) h

-- ---- members

module _ (limit : Option ℕ) (start here : Future) (members : List (List ℕ × Tree)) (passed : MembersPassed start here members)
    (level : SameBeyond start limit here limit) (buffer : List ℕ) (r : Refusal) where
  pub members-within : AreMembersUnreadWithin limit buffer here r → AreMembersUnreadWithin limit buffer start r
  members-within h =
      lift-unread level.same (members-unread start here members passed buffer r) (λ place rest b u. inr (passed.broken place rest b)) h

  module _ (p : Passed) (f : Future) (comes : here ≡ gives p f) where
    -- Another event than a key and the end isn't there.
    pub no_key-within : is_member p.event.kind ≡ false → AreMembersUnreadWithin limit buffer start r
    no_key-within k = as_ever (no_key-unread start here members passed p f comes buffer r k)
        (λ place rest h.
        let key = members_broken-begin place rest p f (subst (λ g. BreaksMembers place rest g) comes (passed.broken place rest h)) in
        let same : is_member p.event.kind ≡ true = ap is_member key.1 in cc)

    -- How a member's value is refused, all members are.
    pub member-within : (name : Text) → p.event.kind ≡ field_key name → IsValueUnreadWithin limit buffer f r →
        AreMembersUnreadWithin limit buffer start r
    member-within name k h =
        lift-unread (level.same ∙ ap (λ g. beyond g limit) comes ∙ key-level p f limit name k)
        (member-unread start here members passed p f comes name k buffer r)
        (λ place rest b u.
        elim (members-broken place rest p f (subst (λ g. BreaksMembers place rest g) comes (passed.broken place rest b))) [
          | inl b ↦ inr b
          | inr one ↦ inl (u.told one.0 one.1 one.2)
        ]) h

-- ---- what is left to be read

module _ (limit : Option ℕ) (f : Future) where
  -- From the start of a list on the same is beyond as behind it.
  pub list-leveled : (ts : Trees) (rest : Future) → SameBeyond f (inner limit) rest (outer (inner limit)) →
      IsLevel limit (list ts) f rest
  list-leveled ts rest h p (whole value k s) = absurd (scalar-no_list value ts s)
  list-leveled ts rest h p (a_list c k e admits) =
      record { same = list-level p f limit c k admits ∙ h.same ∙ ap (beyond rest) (outer-inner limit admits) }
  list-leveled ts rest h p (an_object c k e admits) = cc

  pub object-leveled : (ps : Pairs) (rest : Future) → SameBeyond f (inner limit) rest (outer (inner limit)) →
      IsLevel limit (pairs ps) f rest
  object-leveled ps rest h p (whole value k s) = absurd (scalar-no_pairs value ps s)
  object-leveled ps rest h p (a_list c k e admits) = cc
  object-leveled ps rest h p (an_object c k e admits) =
      record { same = object-level p f limit c k admits ∙ h.same ∙ ap (beyond rest) (outer-inner limit admits) }

  -- A list is unread where its items are.
  pub list-unfilled : (buffer : List ℕ) (ts : Trees) (r : Refusal) → (ts ≡ no_trees → AreItemsUnreadWithin (inner limit) buffer f r) →
      IsUnfilled limit buffer (list ts) f r
  list-unfilled buffer ts r unread p (whole value k s) = absurd (scalar-no_list value ts s)
  list-unfilled buffer ts r unread p (a_list c k e admits) =
      let items = unread (cc) in
      lift-unread (list-level p f limit c k admits) (list-unread p f buffer c r k) (λ place rest b u. inr (list-broken place rest p f c k b)) items
  list-unfilled buffer ts r unread p (an_object c k e admits) = cc

  pub object-unfilled : (buffer : List ℕ) (ps : Pairs) (r : Refusal) → (ps ≡ no_pairs → AreMembersUnreadWithin (inner limit) buffer f r) →
      IsUnfilled limit buffer (pairs ps) f r
  object-unfilled buffer ps r unread p (whole value k s) = absurd (scalar-no_pairs value ps s)
  object-unfilled buffer ps r unread p (a_list c k e admits) = cc
  object-unfilled buffer ps r unread p (an_object c k e admits) =
      let members = unread (cc) in
      lift-unread (object-level p f limit c k admits) (object-unread p f buffer c r k) (λ place rest b u. inr (object-broken place rest p f c k b)) members
