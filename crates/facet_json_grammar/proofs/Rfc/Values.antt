-- Arrays and objects, from their parts, whatever their numbers N and their strings S are.
use Rattle.std.proofs.Common.{ℕ, List, [], ◌∷◌, ◌++◌, refl, append_assoc, append-nil}
use Rattle.facet_format.specs.Bytes.{left_bracket, right_bracket, left_brace, right_brace, colon, comma}
use Rattle.facet_json_grammar.specs.RfcText.{Spaced, IsRfcStructural, IsEnclosed, IsRfcString, IsValueOf, AreItemsOf, AreMembersOf, IsMemberOf, empty_array, array, empty_object, object, one_item, more_items, one_member, more_members, member}
use Rattle.facet_json_token.specs.RfcNumber.{IsRfcNumber}
use Rattle.facet_json_grammar.proofs.Rfc.Lists.{GoesOn, ends, goes_on, begins, unspaced, spaced_after}

-- Two structural characters, between which nothing else stands.
enclosed-empty : {open_character close_character : ℕ} (start finish : List ℕ) → IsRfcStructural open_character start →
    IsRfcStructural close_character finish → IsEnclosed open_character close_character [] (start ++ finish)
enclosed-empty start finish opens closes = record { start = start; finish = finish; opens = opens; closes = closes; whole = rw append-nil }

-- These go on with the items of an array, to its end.
abbrev pub ItemsGoOnOf : (N S : List ℕ → Type 0) → List ℕ → Type 0
ItemsGoOnOf N S = GoesOn (IsValueOf N S) (AreItemsOf N S) left_bracket right_bracket one_item more_items

-- These go on with the members of an object, to its end.
abbrev pub MembersGoOnOf : (N S : List ℕ → Type 0) → List ℕ → Type 0
MembersGoOnOf N S = GoesOn (IsMemberOf N S) (AreMembersOf N S) left_brace right_brace one_member more_members

-- The same where numbers and strings are any of RFC 8259.
abbrev pub ItemsGoOn : List ℕ → Type 0
ItemsGoOn = ItemsGoOnOf IsRfcNumber IsRfcString

abbrev pub MembersGoOn : List ℕ → Type 0
MembersGoOn = MembersGoOnOf IsRfcNumber IsRfcString

module _ {N S : List ℕ → Type 0} where
  -- A value is a text, with no white space around it.
  pub value_text : (cs : List ℕ) → IsValueOf N S cs → Spaced (IsValueOf N S) cs
  value_text cs is = unspaced cs is

  -- ---- arrays

  -- The closing bracket ends them.
  pub items_end : (finish : List ℕ) → IsRfcStructural right_bracket finish → ItemsGoOnOf N S finish
  items_end = ends (IsValueOf N S) (AreItemsOf N S) left_bracket right_bracket one_item more_items

  -- So do a comma, a value and what goes on after it.
  pub items_go_on : (separator cs rest : List ℕ) → IsRfcStructural comma separator → Spaced (IsValueOf N S) cs → ItemsGoOnOf N S rest →
      ItemsGoOnOf N S (separator ++ cs ++ rest)
  items_go_on = goes_on (IsValueOf N S) (AreItemsOf N S) left_bracket right_bracket one_item more_items

  -- A bracket, a value and what goes on after it are an array.
  pub array_of : (start cs rest : List ℕ) → IsRfcStructural left_bracket start → Spaced (IsValueOf N S) cs → ItemsGoOnOf N S rest →
      IsValueOf N S (start ++ cs ++ rest)
  array_of start cs rest opens is others =
      let items = begins (IsValueOf N S) (AreItemsOf N S) left_bracket right_bracket one_item more_items start cs rest opens is others in
      array items.0 (start ++ cs ++ rest) items.1 items.2

  -- Two brackets are an array.
  pub array_of_none : (start finish : List ℕ) → IsRfcStructural left_bracket start → IsRfcStructural right_bracket finish →
      IsValueOf N S (start ++ finish)
  array_of_none start finish opens closes = empty_array _ (enclosed-empty start finish opens closes)

  -- So they are with nothing between them.
  pub no_items : IsValueOf N S (left_bracket ∷ right_bracket ∷ [])
  no_items = array_of_none (left_bracket ∷ []) (right_bracket ∷ []) (unspaced _ refl) (unspaced _ refl)

  -- ---- objects

  -- The closing brace ends them.
  pub members_end : (finish : List ℕ) → IsRfcStructural right_brace finish → MembersGoOnOf N S finish
  members_end = ends (IsMemberOf N S) (AreMembersOf N S) left_brace right_brace one_member more_members

  -- So do a comma, a member and what goes on after it.
  pub members_go_on : (separator cs rest : List ℕ) → IsRfcStructural comma separator → Spaced (IsMemberOf N S) cs → MembersGoOnOf N S rest →
      MembersGoOnOf N S (separator ++ cs ++ rest)
  members_go_on = goes_on (IsMemberOf N S) (AreMembersOf N S) left_brace right_brace one_member more_members

  -- A brace, a member and what goes on after it are an object.
  pub object_of : (start cs rest : List ℕ) → IsRfcStructural left_brace start → Spaced (IsMemberOf N S) cs → MembersGoOnOf N S rest →
      IsValueOf N S (start ++ cs ++ rest)
  object_of start cs rest opens is others =
      let members = begins (IsMemberOf N S) (AreMembersOf N S) left_brace right_brace one_member more_members start cs rest opens is others in
      object members.0 (start ++ cs ++ rest) members.1 members.2

  -- Two braces are an object.
  pub object_of_none : (start finish : List ℕ) → IsRfcStructural left_brace start → IsRfcStructural right_brace finish →
      IsValueOf N S (start ++ finish)
  object_of_none start finish opens closes = empty_object _ (enclosed-empty start finish opens closes)

  -- So they are with nothing between them.
  pub no_members : IsValueOf N S (left_brace ∷ right_brace ∷ [])
  no_members = object_of_none (left_brace ∷ []) (right_brace ∷ []) (unspaced _ refl) (unspaced _ refl)

  -- A key, a colon and a value with white space around it are a member with white space after it.
  pub member_of : (key separator cs : List ℕ) → S key → IsRfcStructural colon separator → Spaced (IsValueOf N S) cs →
      Spaced (IsMemberOf N S) (key ++ separator ++ cs)
  member_of key separator cs is separates value = record {
    before = [];
    inside = key ++ (separator ++ value.before) ++ value.inside;
    after = value.after;
    spaces_before = refl;
    such = member key (separator ++ value.before) value.inside _ is (spaced_after separator value.before separates value.spaces_before) value.such refl;
    spaces_after = value.spaces_after;
    whole = rw value.whole (simp append_assoc);
  }
