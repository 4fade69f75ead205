-- A reader of a tree: what its refusals answer for, and how a value is read or refused from its first event on.
use Rattle.std.proofs.Common.{◌≡◌, ◌<◌, inl, inr, ℕ, false, List, Some, refl, sym, ap, ◌∙◌, subst, arith}
use Rattle.facet_format.specs.Complaint.{Refusal}
use Rattle.facet_format.specs.Event.{ContainerKind, struct_start, sequence_start, scalar, Scalar, Passed}
use Rattle.facet_json_token.specs.Tokens.{Tokens}
use Rattle.facet_json_grammar.specs.Tree.{Tree}
use Rattle.facet_json_grammar.specs.Place.{Place}
use Rattle.facet_json_grammar.specs.Refusal.{IsStuck}
use Rattle.facet_json_grammar.specs.Future.{Future, gives, stuck}
use Rattle.facet_json_grammar.specs.Now.{Now, ahead, future_of}
use Rattle.facet_json_core.specs.Told.{tree_of_scalar, opens}
use Rattle.facet_json_core.specs.Reading.{LacksMemory, LacksOrStops, GivesNone, lacks_memory, at_the_end, is_stuck, IsReadBy, IsUnreadBy, IsValueRead, IsValueUnread}
use Rattle.facet_json_tree.specs.Inner.Reading.{WentOn, AreItemsUnread, AreMembersUnread}
use Rattle.facet_json_tree.proofs.FirstEventTells.{broken-opens, scalar-told, list-told, object-told, list-broken, object-broken, HasFirst, has_first, HasFirstOr, first, none, told-has, items-has, members-has, broken-has, items_broken-has, members_broken-has}

-- ---- refusals

-- It is the same input.
pub unread-same : {V : Type 0} {tells : Future → V → Future → Type 0} {breaks : Place → Tokens → Future → Type 0}
    {a b : List ℕ} {f : Future} {r : Refusal} → a ≡ b → IsUnreadBy V tells breaks a f r → IsUnreadBy V tells breaks b f r
unread-same {V = V} {tells = tells} {breaks = breaks} {f = f} {r = r} e h = subst (λ x. IsUnreadBy V tells breaks x f r) e h

pub read-at : {V : Type 0} {tells : Future → V → Future → Type 0} {breaks : Place → Tokens → Future → Type 0}
    {f g rest : Future} {value : V} → f ≡ g → IsReadBy V tells breaks g value rest → IsReadBy V tells breaks f value rest
read-at {V = V} {tells = tells} {breaks = breaks} {rest = rest} {value = value} e h = subst (λ x. IsReadBy V tells breaks x value rest) (sym e) h

-- After an event and what goes on from it no more bytes are ahead.
pub went-behind : (a b c d : Now) → WentOn a b → ahead c < ahead b → WentOn c d → WentOn a d
went-behind a b c d before shorter behind =
    record { free = behind.free; onward = omega (arith, before.onward, shorter, behind.onward) }

-- Where an event comes, its refusal is out of memory.
none-memory : (now : Now) (r : Refusal) (f : Future) → future_of now ≡ f → GivesNone now r → HasFirst f → LacksMemory r
none-memory now r f e (lacks_memory h) has = h
none-memory now r _ e (at_the_end g) (has_first p f) = cc
none-memory now r _ e (is_stuck place rest g s) (has_first p f) = cc

-- Else it is that nothing goes on at the place.
none-stops : (now : Now) (r : Refusal) (f : Future) (place : Place) (rest : Tokens) → future_of now ≡ f → GivesNone now r →
    HasFirstOr place rest f → LacksOrStops now.buffer place rest r
none-stops now r f place rest e (lacks_memory h) has = inl h
none-stops now r _ place rest e (at_the_end g) (first p f) = cc
none-stops now r _ place rest e (at_the_end g) none = cc
none-stops now r _ place rest e (is_stuck here left g s) (first p f) = cc
none-stops now r _ place rest e (is_stuck here left g s) none =
    let both : stuck here left ≡ stuck place rest = sym g ∙ e in
    let at : here ≡ place = cc in
    let in_front_of : left ≡ rest = cc in
    inr (subst (λ p. IsStuck now.buffer p rest r) at
    (subst (λ ts. IsStuck now.buffer here ts r) in_front_of s))

-- Where the first event is refused, a value, items or members are unread.
pub none-value : (now : Now) (r : Refusal) → GivesNone now r → IsValueUnread now.buffer (future_of now) r
none-value now r g = record {
  told = λ t rest h. none-memory now r (future_of now) refl g (told-has _ _ _ h);
  broken = λ place rest h. none-stops now r (future_of now) place rest refl g (broken-has _ _ _ h);
}

pub none-items : (now : Now) (r : Refusal) → GivesNone now r → AreItemsUnread now.buffer (future_of now) r
none-items now r g = record {
  told = λ t rest h. none-memory now r (future_of now) refl g (items-has _ _ _ h);
  broken = λ place rest h. none-stops now r (future_of now) place rest refl g (items_broken-has _ _ _ h);
}

pub none-members : (now : Now) (r : Refusal) → GivesNone now r → AreMembersUnread now.buffer (future_of now) r
none-members now r g = record {
  told = λ t rest h. none-memory now r (future_of now) refl g (members-has _ _ _ h);
  broken = λ place rest h. none-stops now r (future_of now) place rest refl g (members_broken-has _ _ _ h);
}

-- ---- a value

module _ (p : Passed) (f : Future) where
  -- A scalar is read as its tree.
  pub scalar-read : (value : Scalar) (t : Tree) → p.event.kind ≡ scalar value →
      ((u : Tree) → tree_of_scalar value ≡ Some u → t ≡ u) → IsValueRead (gives p f) t f
  scalar-read value t k h = record {
    told = λ u rest s. let both = scalar-told p f rest u value k s in (h u both.0, both.1);
    whole = λ place rest b. let opened = broken-opens place rest p f b in let ends : opens p.event.kind ≡ false = ap opens k in cc;
  }

  pub scalar-unread : (buffer : List ℕ) (value : Scalar) (r : Refusal) → p.event.kind ≡ scalar value →
      ((u : Tree) → tree_of_scalar value ≡ Some u → LacksMemory r) → IsValueUnread buffer (gives p f) r
  scalar-unread buffer value r k h = record {
    told = λ u rest s. h u (scalar-told p f rest u value k s).0;
    broken = λ place rest b. let opened = broken-opens place rest p f b in let ends : opens p.event.kind ≡ false = ap opens k in cc;
  }

  -- A list is unread where its items are.
  pub list-unread : (buffer : List ℕ) (kind : ContainerKind) (r : Refusal) → p.event.kind ≡ sequence_start kind →
      AreItemsUnread buffer f r → IsValueUnread buffer (gives p f) r
  list-unread buffer kind r k unread = record {
    told = λ t behind s. let h = list-told p f behind t kind k s in unread.told h.0 behind h.2;
    broken = λ place left b. unread.broken place left (list-broken place left p f kind k b);
  }

  -- An object is unread where its members are.
  pub object-unread : (buffer : List ℕ) (kind : ContainerKind) (r : Refusal) → p.event.kind ≡ struct_start kind →
      AreMembersUnread buffer f r → IsValueUnread buffer (gives p f) r
  object-unread buffer kind r k unread = record {
    told = λ t behind s. let h = object-told p f behind t kind k s in unread.told h.0 behind h.2;
    broken = λ place left b. unread.broken place left (object-broken place left p f kind k b);
  }
