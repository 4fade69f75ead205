-- Futures that break off within a value, as the starts of ones that tell a value.
use Rattle.std.proofs.Common.{Option, None, Some, refl}
use Rattle.facet_format.specs.Event.{EventKind, null, sequence_end, struct_end, scalar, bytes_of, Passed}
use Rattle.facet_format.specs.Span.{span_at}
use Rattle.facet_json_token.specs.Tokens.{Tokens}
use Rattle.facet_json_grammar.specs.Tree.{Tree, list, pairs, Trees, no_trees, tree, Pairs, no_pairs, pair}
use Rattle.facet_json_grammar.specs.Tree as trees
use Rattle.facet_json_grammar.specs.Place.{Place}
use Rattle.facet_json_grammar.specs.Future.{Future, gives, stuck}
use Rattle.facet_json_core.specs.Told.{Tells, a_scalar, a_list, an_object, TellsItems, no_item, one_item, TellsMembers, no_member, one_member, Breaks, at_once, in_list, in_object, BreaksItems, in_item, past_item, BreaksMembers, in_key, in_member, past_member}

-- Where a future is stuck, and what might have come in its place: an event, and what comes after it.
pub record Cut : Type 0 where
  pub place : Place
  pub tokens : Tokens
  pub first : Passed
  pub others : Future

-- The second future is the first, or where there is a cut goes on after it.
pub data GoesOn : Option Cut → Future → Future → Type 0 where
  uncut : (f : Future) → GoesOn None f f
  cut : (c : Cut) → GoesOn (Some c) (stuck c.place c.tokens) (gives c.first c.others)
  past : (o : Option Cut) (p : Passed) (f g : Future) → GoesOn o f g → GoesOn o (gives p f) (gives p g)

-- ---- what goes on tells the same

mutual
  told-on : {o : Option Cut} {f mid later : Future} {t : Tree} → Tells f t mid → GoesOn o mid later →
      (g : Future) × GoesOn o f g × Tells g t later
  told-on {o = o} {later = later} (a_scalar p rest v t k told) on = (gives p later, past o p rest later on, a_scalar p later v t k told)
  told-on {o = o} {later = later} (a_list p inner rest kind items k told) on =
      let more = items-on told on in
      (gives p more.0, past o p inner more.0 more.1, a_list p more.0 later kind items k more.2)
  told-on {o = o} {later = later} (an_object p inner rest kind members k told) on =
      let more = members-on told on in
      (gives p more.0, past o p inner more.0 more.1, an_object p more.0 later kind members k more.2)

  items-on : {o : Option Cut} {f mid later : Future} {ts : Trees} → TellsItems f ts mid → GoesOn o mid later →
      (g : Future) × GoesOn o f g × TellsItems g ts later
  items-on {o = o} {later = later} (no_item p rest k) on = (gives p later, past o p rest later on, no_item p later k)
  items-on {o = o} {later = later} (one_item f others rest t items told more) on =
      let behind = items-on more on in
      let first = told-on told behind.1 in
      (first.0, first.1, one_item first.0 behind.0 later t items first.2 behind.2)

  members-on : {o : Option Cut} {f mid later : Future} {ps : Pairs} → TellsMembers f ps mid → GoesOn o mid later →
      (g : Future) × GoesOn o f g × TellsMembers g ps later
  members-on {o = o} {later = later} (no_member p rest k) on = (gives p later, past o p rest later on, no_member p later k)
  members-on {o = o} {later = later} (one_member key inner others rest name t members k told more) on =
      let behind = members-on more on in
      let first = told-on told behind.1 in
      (gives key first.0, past o key inner first.0 first.1, one_member key first.0 behind.0 later name t members k first.2 behind.2)

-- ---- a value that breaks off goes on to its end

-- an event that nothing is known of but its kind
abbrev made : EventKind → Passed
made kind = record { event = record { kind = kind; span = span_at 0 0 }; last = span_at 0 0 }

-- what goes on at this place tells something
pub record Ends (V : Type 0) (tells : Future → V → Future → Type 0) (place : Place) (rest : Tokens) (f after : Future) : Type 0 where
  pub first : Passed
  pub others : Future
  pub whole : Future
  pub value : V
  pub on : GoesOn (Some (record { place = place; tokens = rest; first = first; others = others })) f whole
  pub told : tells whole value after

module _ (place : Place) (rest : Tokens) where
  abbrev at_cut : Passed → Future → Cut
  at_cut first others = record { place = place; tokens = rest; first = first; others = others }

  -- An event before what goes on: together they tell this.
  past-event : {V W : Type 0} {tells : Future → V → Future → Type 0} {all_tell : Future → W → Future → Type 0} (p : Passed) (inner mid after : Future)
      (more : Ends V tells place rest inner mid) (value : W) → all_tell (gives p more.whole) value after → Ends W all_tell place rest (gives p inner) after
  past-event p inner mid after more value told = record {
    first = more.first;
    others = more.others;
    whole = gives p more.whole;
    value = value;
    on = past (Some (at_cut more.first more.others)) p inner more.whole more.on;
    told = told;
  }

  mutual
    pub value-ends : (f after : Future) → Breaks place rest f → Ends Tree Tells place rest f after
    value-ends _ after at_once = record {
      first = made (scalar null);
      others = after;
      whole = gives (made (scalar null)) after;
      value = trees.null;
      on = cut (at_cut (made (scalar null)) after);
      told = a_scalar (made (scalar null)) after null trees.null refl refl;
    }
    value-ends _ after (in_list p inner kind k broken) =
        let more = items-end inner after broken in
        past-event p inner after after more (list more.value) (a_list p more.whole after kind more.value k more.told)
    value-ends _ after (in_object p inner kind k broken) =
        let more = members-end inner after broken in
        past-event p inner after after more (pairs more.value) (an_object p more.whole after kind more.value k more.told)

    items-end : (f after : Future) → BreaksItems place rest f → Ends Trees TellsItems place rest f after
    items-end f after (in_item _ broken) =
        let end = gives (made sequence_end) after in
        let more = value-ends f end broken in
        record {
          first = more.first;
          others = more.others;
          whole = more.whole;
          value = tree more.value no_trees;
          on = more.on;
          told = one_item more.whole end after more.value no_trees more.told (no_item (made sequence_end) after refl);
        }
    items-end f after (past_item _ others t told broken) =
        let more = items-end others after broken in
        let item = told-on told more.on in
        record {
          first = more.first;
          others = more.others;
          whole = item.0;
          value = tree t more.value;
          on = item.1;
          told = one_item item.0 more.whole after t more.value item.2 more.told;
        }

    members-end : (f after : Future) → BreaksMembers place rest f → Ends Pairs TellsMembers place rest f after
    members-end _ after in_key = record {
      first = made struct_end;
      others = after;
      whole = gives (made struct_end) after;
      value = no_pairs;
      on = cut (at_cut (made struct_end) after);
      told = no_member (made struct_end) after refl;
    }
    members-end _ after (in_member key inner name k broken) =
        let end = gives (made struct_end) after in
        let more = value-ends inner end broken in
        past-event key inner end after more (pair (bytes_of name) more.value no_pairs)
        (one_member key more.whole end after name more.value no_pairs k more.told (no_member (made struct_end) after refl))
    members-end _ after (past_member key inner others name t k told broken) =
        let more = members-end others after broken in
        let item = told-on told more.on in
        record {
          first = more.first;
          others = more.others;
          whole = gives key item.0;
          value = pair (bytes_of name) t more.value;
          on = past (Some (at_cut more.first more.others)) key inner item.0 item.1;
          told = one_member key item.0 more.whole after name t more.value k item.2 more.told;
        }
