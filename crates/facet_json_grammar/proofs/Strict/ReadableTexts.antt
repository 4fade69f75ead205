-- Texts whose numbers have a value and whose strings have a text are texts of RFC 8259.
use Rattle.std.proofs.Common.{ℕ, List}
use Rattle.facet_json_grammar.specs.RfcReadable.{IsReadableText}
use Rattle.facet_json_grammar.specs.RfcText.{IsRfcText, IsValueOf, AreItemsOf, AreMembersOf, IsMemberOf, literal_false, literal_null, literal_true, number, string, empty_array, array, empty_object, object, one_item, more_items, one_member, more_members, member}
use Rattle.facet_json_grammar.specs.StrictTexts.{ReadableIsRfc}
use Rattle.facet_json_grammar.proofs.Rfc.Encoded.{mapped}

module _ {N S M T : List ℕ → Type 0} (number_of : (cs : List ℕ) → N cs → M cs) (string_of : (cs : List ℕ) → S cs → T cs) where
  mutual
    -- Where numbers of one kind are of another, and strings are, values are.
    pub value_of : (cs : List ℕ) → IsValueOf N S cs → IsValueOf M T cs
    value_of _ literal_false = literal_false
    value_of _ literal_null = literal_null
    value_of _ literal_true = literal_true
    value_of _ (number cs is) = number cs (number_of cs is)
    value_of _ (string cs is) = string cs (string_of cs is)
    value_of _ (empty_array cs enclosed) = empty_array cs enclosed
    value_of _ (array inside cs items enclosed) = array inside cs (items_of inside items) enclosed
    value_of _ (empty_object cs enclosed) = empty_object cs enclosed
    value_of _ (object inside cs members enclosed) = object inside cs (members_of inside members) enclosed

    items_of : (cs : List ℕ) → AreItemsOf N S cs → AreItemsOf M T cs
    items_of _ (one_item value is) = one_item value (value_of value is)
    items_of _ (more_items value separator others cs is separates more whole) =
        more_items value separator others cs (value_of value is) separates (items_of others more) whole

    members_of : (cs : List ℕ) → AreMembersOf N S cs → AreMembersOf M T cs
    members_of _ (one_member first is) = one_member first (member_of first is)
    members_of _ (more_members first separator others cs is separates more whole) =
        more_members first separator others cs (member_of first is) separates (members_of others more) whole

    member_of : (cs : List ℕ) → IsMemberOf N S cs → IsMemberOf M T cs
    member_of _ (member key separator value cs names separates is whole) =
        member key separator value cs (string_of key names) separates (value_of value is) whole

readable_text : (cs : List ℕ) → IsReadableText cs → IsRfcText cs
readable_text cs is = record {
  before = is.before;
  inside = is.inside;
  after = is.after;
  spaces_before = is.spaces_before;
  such =
      value_of (λ n number. number.is_number)
      (λ s string. record { content = string.content; is_content = string.is_content; quoted = string.quoted }) is.inside is.such;
  spaces_after = is.spaces_after;
  whole = is.whole;
}

-- Each of them is a text of RFC 8259.
pub readable-is_rfc : ReadableIsRfc
readable-is_rfc buffer is = mapped readable_text is
