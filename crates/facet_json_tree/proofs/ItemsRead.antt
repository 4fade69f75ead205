-- The items of a list, one by one: what was read so far, and how what is refused in one answers for all.
use Rattle.std.proofs.Common.{◌≡◌, ◌≢◌, inl, inr, ℕ, List, [], ◌∷◌, ◌++◌, refl, sym, ap, ◌∙◌, subst}
use Rattle.facet_format.specs.declared.event.ParseEventKind.{ParseEventKind}
use Rattle.facet_format.specs.declared.event.ParseEventKind.TheVariants as kinds
use Rattle.facet_format.specs.Complaint.{Refusal}
use Rattle.facet_format.specs.Event.{sequence_end, Passed}
use Rattle.facet_json_token.specs.Tokens.{Tokens}
use Rattle.facet_json_grammar.specs.Tree.{Tree, Trees, no_trees, tree}
use Rattle.facet_json_grammar.specs.Place.{Place}
use Rattle.facet_json_grammar.specs.Future.{Future, gives}
use Rattle.facet_format.specs.Views.{event_kind_of}
use Rattle.facet_json_tree.specs.Views.{trees_of}
use Rattle.facet_json_core.specs.Told.{TellsItems, BreaksItems}
use Rattle.facet_json_core.specs.Reading.{IsValueRead, IsValueUnread}
use Rattle.facet_json_tree.specs.Inner.Reading.{AreItemsRead, AreItemsUnread}
use Rattle.facet_json_tree.proofs.FirstEventTells.{items-ended, items-first, items_end-whole, items-broken}

-- trees before others
abbrev pub trees_before : List Tree → Trees → Trees
trees_before [] others = others
trees_before (t ∷ ts) others = tree t (trees_before ts others)

trees_before-more : (ts : List Tree) (t : Tree) (others : Trees) → trees_before (ts ++ t ∷ []) others ≡ trees_before ts (tree t others)
trees_before-more [] t others = refl
trees_before-more (u ∷ ts) t others = ap (tree u) (trees_before-more ts t others)

trees_before-none : (ts : List Tree) → trees_before ts no_trees ≡ trees_of ts
trees_before-none [] = refl
trees_before-none (t ∷ ts) = ap (tree t) (trees_before-none ts)

-- An event that is not the end of a list isn't so in the definitions.
pub not_list_end : (kind : ParseEventKind) → kind ≢ kinds.SequenceEnd → event_kind_of kind ≢ sequence_end
not_list_end (kinds.StructStart c) h e = cc
not_list_end kinds.StructEnd h e = cc
not_list_end (kinds.SequenceStart c) h e = cc
not_list_end kinds.SequenceEnd h e = h refl
not_list_end (kinds.FieldKey key) h e = cc
not_list_end (kinds.Scalar v) h e = cc

-- Between the start and here these items were passed.
pub record ItemsPassed (start here : Future) (items : List Tree) : Type 0 where
  pub told : (all : Trees) (rest : Future) → TellsItems start all rest →
      (others : Trees) × TellsItems here others rest × (trees_before items others ≡ all)
  pub broken : (place : Place) (rest : Tokens) → BreaksItems place rest start → BreaksItems place rest here

-- At the start none was.
pub items-none : (start : Future) → ItemsPassed start start []
items-none start = record { told = λ all rest h. (all, h, refl); broken = λ place rest h. h }

module _ (start here : Future) (items : List Tree) (passed : ItemsPassed start here items) where
  -- How the others are refused, all of them are.
  pub items-unread : (buffer : List ℕ) (r : Refusal) → AreItemsUnread buffer here r → AreItemsUnread buffer start r
  items-unread buffer r unread = record {
    told = λ all rest h. let more = passed.told all rest h in unread.told more.0 rest more.1;
    broken = λ place rest h. unread.broken place rest (passed.broken place rest h);
  }

  module _ (p : Passed) (f : Future) (comes : here ≡ gives p f) where
    -- At the end of the list all its items were read.
    pub items-closed : p.event.kind ≡ sequence_end → AreItemsRead start (trees_of items) f
    items-closed k = record {
      told = λ all rest h.
          let more = passed.told all rest h in
          let both = items-ended p f rest more.0 k (subst (λ g. TellsItems g more.0 rest) comes more.1) in
          (sym (trees_before-none items) ∙ ap (trees_before items) both.0 ∙ more.2, both.1);
      whole = λ place rest h.
          items_end-whole place rest p f k (subst (λ g. BreaksItems place rest g) comes (passed.broken place rest h));
    }

    -- How an item is refused, all of them are.
    pub item-unread : (buffer : List ℕ) (r : Refusal) → p.event.kind ≢ sequence_end → IsValueUnread buffer (gives p f) r →
        AreItemsUnread buffer start r
    item-unread buffer r k unread = record {
      told = λ all rest h.
          let more = passed.told all rest h in
          let one = items-first p f rest more.0 k (subst (λ g. TellsItems g more.0 rest) comes more.1) in
          unread.told one.0 one.1 one.3;
      broken = λ place rest h.
          elim (items-broken place rest (gives p f) (subst (λ g. BreaksItems place rest g) comes (passed.broken place rest h))) [
            | inl b ↦ unread.broken place rest b
            | inr one ↦ inl (unread.told one.0 one.1 one.2)
          ];
    }

    -- One more item was passed.
    pub item-passed : (t : Tree) (rest : Future) → p.event.kind ≢ sequence_end → IsValueRead (gives p f) t rest →
        ItemsPassed start rest (items ++ t ∷ [])
    item-passed t rest k read = record {
      told = λ all last h.
          let more = passed.told all last h in
          let one = items-first p f last more.0 k (subst (λ g. TellsItems g more.0 last) comes more.1) in
          let both = read.told one.0 one.1 one.3 in (
            one.2,
            subst (λ g. TellsItems g one.2 last) (sym both.1) one.4,
            trees_before-more items t one.2 ∙ ap (λ u. trees_before items (tree u one.2)) both.0 ∙ ap (trees_before items) (sym one.5) ∙ more.2,
          );
      broken = λ place last h.
          elim (items-broken place last (gives p f) (subst (λ g. BreaksItems place last g) comes (passed.broken place last h))) [
            | inl b ↦ absurd (read.whole place last b)
            | inr one ↦ subst (λ g. BreaksItems place last g) (sym (read.told one.0 one.1 one.2).1) one.3
          ];
    }
