-- Each text of RFC 8259 whose strings have a text and whose whole numbers have a value is a strict document.
use Rattle.std.proofs.Common.{◌≡◌, ℕ, true, false, List, [], ◌∷◌, ◌++◌, codes, refl, ap, ◌∙◌, subst, append_assoc}
use Rattle.std.specs.List.{list_all}
use Rattle.std.specs.Str.{encode_utf8_all}
use Rattle.std.proofs.lemmas.Bool.{and_from}
use Rattle.std.proofs.lemmas.Str.{encodes-append}
use Rattle.facet_format.specs.Bytes.{quote, left_bracket, right_bracket, left_brace, right_brace}
use Rattle.facet_format.specs.Bytes as bytes
use Rattle.facet_json_grammar.specs.Language.{strict_rules}
use Rattle.facet_json_grammar.specs.Tree.{Tree, Trees, no_trees, Pairs, no_pairs}
use Rattle.facet_json_grammar.specs.Tree as trees
use Rattle.facet_json_grammar.specs.RfcReadable.{IsReadableNumber, IsReadableString, IsReadableText}
use Rattle.facet_json_grammar.specs.RfcText.{InUtf8, AreSpaces, Spaced, IsRfcStructural, IsEnclosed, IsValueOf, literal_false, literal_null, literal_true, number, string, empty_array, array, empty_object, object, AreItemsOf, one_item, more_items, AreMembersOf, one_member, more_members, IsMemberOf, member}
use Rattle.facet_json_grammar.specs.StrictDocument.{IsStrict}
use Rattle.facet_json_grammar.proofs.Rfc.Encoded.{is_ascii, ascii, ascii-itself}
use Rattle.facet_json_grammar.proofs.Rfc.Numbers.{number-ascii}
use Rattle.facet_json_grammar.proofs.Rfc.StrictStrings.{rfc-content}
use Rattle.facet_json_grammar.proofs.Rfc.Structural.{spaces-ascii}
use Rattle.facet_json_grammar.proofs.Scalars.Literals.{null-one_scalar, bool-one_scalar}
use Rattle.facet_json_grammar.proofs.Scalars.Numbers.{number-one_scalar}
use Rattle.facet_json_grammar.proofs.Scalars.OneToken.{IsOneScalar, IsOneString}
use Rattle.facet_json_grammar.proofs.Scalars.QuotedTexts.{content-one_string, string-one_scalar}
use Rattle.facet_json_grammar.proofs.Scalars.Spaces.{spaces-append}
use Rattle.facet_json_grammar.proofs.Strict.WrittenTexts.{one_value-strict}
use Rattle.facet_json_grammar.proofs.Values.Containers.{AreItems, blank-items, items-last, items-more, list-one_value, empty_list-one_value, AreMembers, blank-members, members-last, members-more, object-one_value, empty_object-one_value}
use Rattle.facet_json_grammar.proofs.Values.OneValue.{IsOneValue, scalar-one_value, blank-one_value, one_value-blank}

-- ---- the UTF-8 of parts

-- White space.
spaces-itself : (spaces : List ℕ) → AreSpaces spaces → encode_utf8_all spaces ≡ spaces
spaces-itself spaces blank = ascii-itself spaces (spaces-ascii spaces blank)

-- Three parts, one after the other.
three-encoded : (a b c cs : List ℕ) → cs ≡ a ++ b ++ c → encode_utf8_all cs ≡ encode_utf8_all a ++ (encode_utf8_all b ++ encode_utf8_all c)
three-encoded a b c cs e =
    ap encode_utf8_all e ∙ encodes-append (a ++ b) c ∙ ap (λ l. l ++ encode_utf8_all c) (encodes-append a b)
    ∙ append_assoc (encode_utf8_all a) (encode_utf8_all b) (encode_utf8_all c)

-- A structural character of ASCII, with its white space.
structural-encoded : (c : ℕ) (cs : List ℕ) → is_ascii c ≡ true → (s : IsRfcStructural c cs) → encode_utf8_all cs ≡ s.before ++ (c ∷ s.after)
structural-encoded c cs low s =
    let itself : encode_utf8_all s.inside ≡ c ∷ [] = ap encode_utf8_all s.such ∙ ascii-itself (c ∷ []) (and_from (is_ascii c) true low refl) in
    three-encoded s.before s.inside s.after cs s.whole
    ∙ (λ i. spaces-itself s.before s.spaces_before i ++ (itself i ++ spaces-itself s.after s.spaces_after i))

-- A text between white space.
spaced-encoded : {P : List ℕ → Type 0} (cs : List ℕ) → (s : Spaced P cs) → encode_utf8_all cs ≡ s.before ++ (encode_utf8_all s.inside ++ s.after)
spaced-encoded cs s =
    three-encoded s.before s.inside s.after cs s.whole
    ∙ (λ i. spaces-itself s.before s.spaces_before i ++ (encode_utf8_all s.inside ++ spaces-itself s.after s.spaces_after i))

-- Quoted characters.
quoted-encoded : (cs content : List ℕ) → cs ≡ quote ∷ content ++ quote ∷ [] → encode_utf8_all cs ≡ quote ∷ encode_utf8_all content ++ quote ∷ []
quoted-encoded cs content e =
    three-encoded (quote ∷ []) content (quote ∷ []) cs e
    ∙ (λ i. ascii-itself (quote ∷ []) refl i ++ (encode_utf8_all content ++ ascii-itself (quote ∷ []) refl i))

-- ---- scalars

-- In UTF-8 the characters are one value by strict rules.
record IsRead (cs : List ℕ) : Type 0 where
  value : Tree
  one : IsOneValue strict_rules (encode_utf8_all cs) value

-- Scalars of ASCII.
ascii-read : (cs : List ℕ) (value : Tree) → list_all is_ascii cs ≡ true → IsOneScalar strict_rules cs value → IsRead cs
ascii-read cs value small h = record { value = value; one = rw (ascii-itself cs small) (scalar-one_value strict_rules cs value h) }

-- Numbers.
number-read : (cs : List ℕ) → IsReadableNumber cs → IsRead cs
number-read cs n =
    let small = number-ascii cs n.is_number in
    ascii-read cs _ small (number-one_scalar strict_rules cs n.hint n.value (ascii cs small n.is_number) n.has_value)

-- Strings, as keys and as values.
key-read : (cs : List ℕ) → (s : IsReadableString cs) → IsOneString (encode_utf8_all cs) s.text
key-read cs s =
    rw (quoted-encoded cs s.content s.quoted) (content-one_string (encode_utf8_all s.content) s.text s.has_text (rfc-content s.content s.is_content))

string-read : (cs : List ℕ) → IsReadableString cs → IsRead cs
string-read cs s = record {
  value = trees.text s.text;
  one = scalar-one_value strict_rules (encode_utf8_all cs) _ (string-one_scalar strict_rules (encode_utf8_all cs) s.text (key-read cs s));
}

-- ---- containers

-- What stands between structural characters is one value with them and their white space.
enclosed-read : (open_character close_character : ℕ) (inside cs : List ℕ) (value : Tree) → is_ascii open_character ≡ true →
    is_ascii close_character ≡ true → (e : IsEnclosed open_character close_character inside cs) →
    IsOneValue strict_rules (open_character ∷ (e.opens.after ++ (encode_utf8_all inside ++ (e.closes.before ++ close_character ∷ [])))) value →
    IsRead cs
enclosed-read open_character close_character inside cs value low_open low_close e h =
    let within = open_character ∷ (e.opens.after ++ (encode_utf8_all inside ++ (e.closes.before ++ close_character ∷ []))) in
    let after = one_value-blank strict_rules within e.closes.after value h e.closes.spaces_after in
    let whole = blank-one_value strict_rules e.opens.before (within ++ e.closes.after) value e.opens.spaces_before after in
    let same : e.opens.before ++ (within ++ e.closes.after) ≡ encode_utf8_all cs =
    rw (
      three-encoded e.start inside e.finish cs e.whole,
      structural-encoded open_character e.start low_open e.opens,
      structural-encoded close_character e.finish low_close e.closes,
    ) (simp append_assoc) in
    record { value = value; one = subst (λ l. IsOneValue strict_rules l value) same whole }

-- In UTF-8 the characters are the items of a list, with white space and its closing bracket after them.
record AreItemsRead (cs : List ℕ) : Type 0 where
  values : Trees
  are : (blank : List ℕ) → AreSpaces blank → AreItems strict_rules (encode_utf8_all cs ++ (blank ++ right_bracket ∷ [])) values

-- In UTF-8 the characters are the members of an object, with white space and its closing brace after them.
record AreMembersRead (cs : List ℕ) : Type 0 where
  values : Pairs
  are : (blank : List ℕ) → AreSpaces blank → AreMembers strict_rules (encode_utf8_all cs ++ (blank ++ right_brace ∷ [])) values

-- In UTF-8 the characters are a member of an object, the last one or one with others after it.
record IsMemberRead (cs : List ℕ) : Type 0 where
  name : List ℕ
  value : Tree
  last : (blank : List ℕ) → AreSpaces blank →
      AreMembers strict_rules (encode_utf8_all cs ++ (blank ++ right_brace ∷ [])) (trees.pair name value no_pairs)
  more : (blank others : List ℕ) (values : Pairs) → AreSpaces blank → AreMembers strict_rules others values →
      AreMembers strict_rules (encode_utf8_all cs ++ (blank ++ bytes.comma ∷ others)) (trees.pair name value values)

-- ---- arrays

-- The last item of a list, and an item with others after it.
last_item-read : (cs : List ℕ) → IsRead cs → AreItemsRead cs
last_item-read cs r = record {
  values = trees.tree r.value no_trees;
  are = λ blank e. items-last strict_rules (encode_utf8_all cs) blank r.value r.one e;
}

more_items-read : (value separator others cs : List ℕ) → IsRead value → IsRfcStructural bytes.comma separator → AreItemsRead others →
    cs ≡ value ++ separator ++ others → AreItemsRead cs
more_items-read value separator others cs r s more e = record {
  values = trees.tree r.value more.values;
  are = λ blank b.
      let first = one_value-blank strict_rules (encode_utf8_all value) s.before r.value r.one s.spaces_before in
      let rest = encode_utf8_all others ++ (blank ++ right_bracket ∷ []) in
      let behind = blank-items strict_rules s.after rest more.values s.spaces_after (more.are blank b) in
      let same : (encode_utf8_all value ++ s.before) ++ (bytes.comma ∷ (s.after ++ rest)) ≡ encode_utf8_all cs ++ (blank ++ right_bracket ∷ []) =
      rw (three-encoded value separator others cs e, structural-encoded bytes.comma separator refl s) (simp append_assoc) in
      subst (λ l. AreItems strict_rules l (trees.tree r.value more.values)) same
      (items-more strict_rules (encode_utf8_all value ++ s.before) (s.after ++ rest) r.value more.values first behind);
}

-- Items between brackets, and no items between them.
array-read : (inside cs : List ℕ) → AreItemsRead inside → IsEnclosed left_bracket right_bracket inside cs → IsRead cs
array-read inside cs items e =
    let rest = encode_utf8_all inside ++ (e.closes.before ++ right_bracket ∷ []) in
    let all = blank-items strict_rules e.opens.after rest items.values e.opens.spaces_after (items.are e.closes.before e.closes.spaces_before) in
    enclosed-read left_bracket right_bracket inside cs (trees.list items.values) refl refl e
    (list-one_value strict_rules (e.opens.after ++ rest) items.values all)

empty_array-read : (cs : List ℕ) → IsEnclosed left_bracket right_bracket [] cs → IsRead cs
empty_array-read cs e =
    let blank = spaces-append e.opens.after e.closes.before e.opens.spaces_after e.closes.spaces_before in
    enclosed-read left_bracket right_bracket [] cs (trees.list no_trees) refl refl e
    (subst (λ l. IsOneValue strict_rules (left_bracket ∷ l) (trees.list no_trees)) (append_assoc e.opens.after e.closes.before (right_bracket ∷ []))
    (empty_list-one_value strict_rules (e.opens.after ++ e.closes.before) blank))

-- ---- objects

-- A key, a colon and a value are a member.
member-read : (key separator value cs : List ℕ) → IsReadableString key → IsRfcStructural bytes.colon separator → IsRead value →
    cs ≡ key ++ separator ++ value → IsMemberRead cs
member-read key separator value cs k s r e =
    let key_text = encode_utf8_all key in
    let text = s.after ++ encode_utf8_all value in
    let one = blank-one_value strict_rules s.after (encode_utf8_all value) r.value s.spaces_after r.one in
    let whole : encode_utf8_all cs ≡ key_text ++ ((s.before ++ (bytes.colon ∷ s.after)) ++ encode_utf8_all value) =
    three-encoded key separator value cs e ∙ ap (λ l. key_text ++ (l ++ encode_utf8_all value)) (structural-encoded bytes.colon separator refl s) in
    record {
      name = k.text;
      value = r.value;
      last = λ blank b.
          let end = blank ++ right_brace ∷ [] in
          let same : key_text ++ (s.before ++ (bytes.colon ∷ (text ++ end))) ≡ encode_utf8_all cs ++ end = rw whole (simp append_assoc) in
          subst (λ l. AreMembers strict_rules l (trees.pair k.text r.value no_pairs)) same
          (members-last strict_rules key_text k.text s.before text blank r.value (key-read key k) s.spaces_before one b);
      more = λ blank others values b are.
          let spaced = one_value-blank strict_rules text blank r.value one b in
          let end = bytes.comma ∷ others in
          let same : key_text ++ (s.before ++ (bytes.colon ∷ ((text ++ blank) ++ end))) ≡ encode_utf8_all cs ++ (blank ++ end) =
          rw whole (simp append_assoc) in
          subst (λ l. AreMembers strict_rules l (trees.pair k.text r.value values)) same
          (members-more strict_rules key_text k.text s.before (text ++ blank) others r.value values (key-read key k) s.spaces_before spaced are);
    }

-- The last member of an object, and a member with others after it.
last_member-read : (cs : List ℕ) → IsMemberRead cs → AreMembersRead cs
last_member-read cs m = record { values = trees.pair m.name m.value no_pairs; are = m.last }

more_members-read : (first separator others cs : List ℕ) → IsMemberRead first → IsRfcStructural bytes.comma separator → AreMembersRead others →
    cs ≡ first ++ separator ++ others → AreMembersRead cs
more_members-read first separator others cs m s more e = record {
  values = trees.pair m.name m.value more.values;
  are = λ blank b.
      let rest = encode_utf8_all others ++ (blank ++ right_brace ∷ []) in
      let behind = blank-members strict_rules s.after rest more.values s.spaces_after (more.are blank b) in
      let same : encode_utf8_all first ++ (s.before ++ bytes.comma ∷ (s.after ++ rest)) ≡ encode_utf8_all cs ++ (blank ++ right_brace ∷ []) =
      rw (three-encoded first separator others cs e, structural-encoded bytes.comma separator refl s) (simp append_assoc) in
      subst (λ l. AreMembers strict_rules l (trees.pair m.name m.value more.values)) same
      (m.more s.before (s.after ++ rest) more.values s.spaces_before behind);
}

-- Members between braces, and no members between them.
object-read : (inside cs : List ℕ) → AreMembersRead inside → IsEnclosed left_brace right_brace inside cs → IsRead cs
object-read inside cs members e =
    let rest = encode_utf8_all inside ++ (e.closes.before ++ right_brace ∷ []) in
    let own = members.are e.closes.before e.closes.spaces_before in
    let all = blank-members strict_rules e.opens.after rest members.values e.opens.spaces_after own in
    enclosed-read left_brace right_brace inside cs (trees.pairs members.values) refl refl e
    (object-one_value strict_rules (e.opens.after ++ rest) members.values all)

empty_object-read : (cs : List ℕ) → IsEnclosed left_brace right_brace [] cs → IsRead cs
empty_object-read cs e =
    let blank = spaces-append e.opens.after e.closes.before e.opens.spaces_after e.closes.spaces_before in
    enclosed-read left_brace right_brace [] cs (trees.pairs no_pairs) refl refl e
    (subst (λ l. IsOneValue strict_rules (left_brace ∷ l) (trees.pairs no_pairs)) (append_assoc e.opens.after e.closes.before (right_brace ∷ []))
    (empty_object-one_value strict_rules (e.opens.after ++ e.closes.before) blank))

-- ---- values

mutual
  -- Values, the items of arrays, and the members of objects.
  value-read : {cs : List ℕ} → IsValueOf IsReadableNumber IsReadableString cs → IsRead cs
  value-read literal_false = ascii-read (codes "false") _ refl (bool-one_scalar strict_rules false)
  value-read literal_null = ascii-read (codes "null") _ refl (null-one_scalar strict_rules)
  value-read literal_true = ascii-read (codes "true") _ refl (bool-one_scalar strict_rules true)
  value-read (number cs n) = number-read cs n
  value-read (string cs s) = string-read cs s
  value-read (empty_array cs e) = empty_array-read cs e
  value-read (array inside cs items e) = array-read inside cs (items-read items) e
  value-read (empty_object cs e) = empty_object-read cs e
  value-read (object inside cs members e) = object-read inside cs (members-read members) e

  items-read : {cs : List ℕ} → AreItemsOf IsReadableNumber IsReadableString cs → AreItemsRead cs
  items-read (one_item value is) = last_item-read value (value-read is)
  items-read (more_items value separator others cs is s more e) = more_items-read value separator others cs (value-read is) s (items-read more) e

  members-read : {cs : List ℕ} → AreMembersOf IsReadableNumber IsReadableString cs → AreMembersRead cs
  members-read (one_member first is) = last_member-read first (one_member-read is)
  members-read (more_members first separator others cs is s more e) =
      more_members-read first separator others cs (one_member-read is) s (members-read more) e

  one_member-read : {cs : List ℕ} → IsMemberOf IsReadableNumber IsReadableString cs → IsMemberRead cs
  one_member-read (member key separator value cs k s is e) = member-read key separator value cs k s (value-read is) e

-- A value between white space.
text-read : (cs : List ℕ) → IsReadableText cs → IsRead cs
text-read cs s =
    let r = value-read s.such in
    let after = one_value-blank strict_rules (encode_utf8_all s.inside) s.after r.value r.one s.spaces_after in
    record { value = r.value; one = rw (spaced-encoded cs s) (blank-one_value strict_rules s.before _ r.value s.spaces_before after) }

-- Each text of RFC 8259, in UTF-8, whose strings have a text and whose whole numbers lie within 128 bits, is a strict document.
pub text-is_document : (buffer : List ℕ) → InUtf8 IsReadableText buffer → IsStrict buffer
text-is_document buffer t =
    let r = text-read t.characters t.such in subst IsStrict t.encoded (one_value-strict (encode_utf8_all t.characters) r.value r.one)
