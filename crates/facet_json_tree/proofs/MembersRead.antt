-- The members of an object, one by one: what was read so far, and how what is refused in one answers for all.
use Rattle.std.proofs.Common.{◌≡◌, inl, inr, ℕ, true, false, List, [], ◌∷◌, ◌++◌, refl, sym, ap, ◌∙◌, subst, map, string_bytes}
use Rattle.std.specs.declared.string.String.{String}
use Rattle.std.specs.declared.alloc.Global.{Global}
use Rattle.facet_json_tree.specs.declared.tree.Tree.{Tree as RustTree}
use Rattle.facet_format.specs.Complaint.{Refusal}
use Rattle.facet_format.specs.Event.{struct_end, field_key, Text, bytes_of, Passed}
use Rattle.facet_json_token.specs.Tokens.{Tokens}
use Rattle.facet_json_grammar.specs.Tree.{Tree, Pairs, no_pairs, pair}
use Rattle.facet_json_grammar.specs.Place.{Place}
use Rattle.facet_json_grammar.specs.Future.{Future, gives}
use Rattle.facet_json_tree.specs.Views.{pairs_view, tree_view}
use Rattle.facet_json_core.specs.Told.{is_member, TellsMembers, BreaksMembers}
use Rattle.facet_json_core.specs.Reading.{IsValueRead, IsValueUnread}
use Rattle.facet_json_tree.specs.Inner.Reading.{AreMembersRead, AreMembersUnread}
use Rattle.facet_json_tree.proofs.FirstEventTells.{members-ended, members-first, members-begin, members_broken-begin, members-broken}

-- members before others
abbrev pub pairs_before : List (List ℕ × Tree) → Pairs → Pairs
pairs_before [] others = others
pairs_before (m ∷ ms) others = pair m.0 m.1 (pairs_before ms others)

pairs_before-more : (ms : List (List ℕ × Tree)) (key : List ℕ) (t : Tree) (others : Pairs) →
    pairs_before (ms ++ (key, t) ∷ []) others ≡ pairs_before ms (pair key t others)
pairs_before-more [] key t others = refl
pairs_before-more (m ∷ ms) key t others = ap (pair m.0 m.1) (pairs_before-more ms key t others)

-- The members of an object as the views of the code have them.
pub pairs_before-none : (ms : List (String Global × RustTree)) →
    pairs_before (map (λ p. (string_bytes p.0, tree_view p.1)) ms) no_pairs ≡ pairs_view ms
pairs_before-none [] = refl
pairs_before-none (m ∷ ms) = ap (pair (string_bytes m.0) (tree_view m.1)) (pairs_before-none ms)

-- Between the start and here these members were passed.
pub record MembersPassed (start here : Future) (members : List (List ℕ × Tree)) : Type 0 where
  pub told : (all : Pairs) (rest : Future) → TellsMembers start all rest →
      (others : Pairs) × TellsMembers here others rest × (pairs_before members others ≡ all)
  pub broken : (place : Place) (rest : Tokens) → BreaksMembers place rest start → BreaksMembers place rest here

-- At the start none was.
pub members-none : (start : Future) → MembersPassed start start []
members-none start = record { told = λ all rest h. (all, h, refl); broken = λ place rest h. h }

module _ (start here : Future) (members : List (List ℕ × Tree)) (passed : MembersPassed start here members) where
  pub members-unread : (buffer : List ℕ) (r : Refusal) → AreMembersUnread buffer here r → AreMembersUnread buffer start r
  members-unread buffer r unread = record {
    told = λ all rest h. let more = passed.told all rest h in unread.told more.0 rest more.1;
    broken = λ place rest h. unread.broken place rest (passed.broken place rest h);
  }

  module _ (p : Passed) (f : Future) (comes : here ≡ gives p f) where
    -- At the end of the object all its members were read.
    pub members-closed : p.event.kind ≡ struct_end → AreMembersRead start (pairs_before members no_pairs) f
    members-closed k = record {
      told = λ all rest h.
          let more = passed.told all rest h in
          let both = members-ended p f rest more.0 k (subst (λ g. TellsMembers g more.0 rest) comes more.1) in
          (ap (pairs_before members) both.0 ∙ more.2, both.1);
      whole = λ place rest h.
          let key = members_broken-begin place rest p f (subst (λ g. BreaksMembers place rest g) comes (passed.broken place rest h)) in
          let same = key.1 in cc;
    }

    -- Another event than a key and the end isn't there.
    pub no_key-unread : (buffer : List ℕ) (r : Refusal) → is_member p.event.kind ≡ false → AreMembersUnread buffer start r
    no_key-unread buffer r k = record {
      told = λ all rest h.
          let more = passed.told all rest h in
          let begun = members-begin p f rest more.0 (subst (λ g. TellsMembers g more.0 rest) comes more.1) in cc;
      broken = λ place rest h.
          let key = members_broken-begin place rest p f (subst (λ g. BreaksMembers place rest g) comes (passed.broken place rest h)) in
          let same : is_member p.event.kind ≡ true = ap is_member key.1 in cc;
    }

    module _ (name : Text) (k : p.event.kind ≡ field_key name) where
      -- How a member's value is refused, all members are.
      pub member-unread : (buffer : List ℕ) (r : Refusal) → IsValueUnread buffer f r → AreMembersUnread buffer start r
      member-unread buffer r unread = record {
        told = λ all rest h.
            let more = passed.told all rest h in
            let one = members-first p f rest more.0 name k (subst (λ g. TellsMembers g more.0 rest) comes more.1) in
            unread.told one.0 one.1 one.3;
        broken = λ place rest h.
            elim (members-broken place rest p f (subst (λ g. BreaksMembers place rest g) comes (passed.broken place rest h))) [
              | inl b ↦ unread.broken place rest b
              | inr one ↦ inl (unread.told one.0 one.1 one.2)
            ];
      }

      -- One more member was passed.
      pub member-passed : (t : Tree) (rest : Future) → IsValueRead f t rest →
          MembersPassed start rest (members ++ (bytes_of name, t) ∷ [])
      member-passed t rest read = record {
        told = λ all last h.
            let more = passed.told all last h in
            let one = members-first p f last more.0 name k (subst (λ g. TellsMembers g more.0 last) comes more.1) in
            let both = read.told one.0 one.1 one.3 in (
              one.2,
              subst (λ g. TellsMembers g one.2 last) (sym both.1) one.4,
              pairs_before-more members (bytes_of name) t one.2 ∙ ap (λ u. pairs_before members (pair (bytes_of name) u one.2)) both.0
                  ∙ ap (pairs_before members) (sym one.5) ∙ more.2,
            );
        broken = λ place last h.
            elim (members-broken place last p f (subst (λ g. BreaksMembers place last g) comes (passed.broken place last h))) [
              | inl b ↦ absurd (read.whole place last b)
              | inr one ↦ subst (λ g. BreaksMembers place last g) (sym (read.told one.0 one.1 one.2).1) one.3
            ];
      }
