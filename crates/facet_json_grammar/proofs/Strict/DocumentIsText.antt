-- A strict document is a text of RFC 8259 that is readable.
use Rattle.std.proofs.Common.{◌≡◌, ◌⊎◌, inl, inr, ℕ, true, false, List, [], ◌∷◌, ◌++◌, drop, Some, refl, ap, ◌∙◌, subst, append_assoc}
use Rattle.std.specs.List.{list_all}
use Rattle.facet_json_token.specs.Token.{Kind, Token}
use Rattle.facet_json_token.specs.Token as token
use Rattle.facet_json_token.specs.Tokens.{Tokens, next}
use Rattle.facet_json_grammar.specs.Meaning.{tree_of, trees_of, pairs_of, text_in_tree, meaning}
use Rattle.facet_json_grammar.specs.Node.{Node, Nodes, no_nodes, Members, no_members, Spells, SpellsItems, SpellsMembers, is_string, is_scalar, one_token, brackets, braces, closed, item_and_comma, last_item, ended_members, member_and_comma, last_member}
use Rattle.facet_json_grammar.specs.StrictDocument.{is_closing, begins_closing, IsStrictDocument}
use Rattle.facet_json_grammar.specs.Tree.{Tree, Trees, Pairs}
use Rattle.facet_json_grammar.proofs.TreesOfParts.{list_meant, object_meant, item_meant, member_meant}
use Rattle.facet_json_grammar.specs.RfcReadable.{IsReadableNumber, IsReadableString, IsReadableValue, IsReadableText}
use Rattle.facet_json_grammar.specs.RfcText.{InUtf8, AreSpaces, Spaced, IsRfcStructural, begin_array, end_array, begin_object, end_object, name_separator, value_separator, IsMemberOf}
use Rattle.facet_json_grammar.proofs.Rfc.Encoded.{is_ascii, ascii, joined}
use Rattle.facet_json_grammar.proofs.Rfc.Lists.{spaced_before, spaced_after}
use Rattle.facet_json_grammar.proofs.Rfc.Structural.{blank_text}
use Rattle.facet_json_grammar.proofs.Rfc.Values.{ItemsGoOnOf, items_end, items_go_on, array_of, array_of_none, MembersGoOnOf, members_end, members_go_on, object_of, object_of_none, member_of, value_text}
use Rattle.facet_json_grammar.proofs.Strict.FirstTokens.{Come, IsFirst, first-token, ended-blank, StandBefore, first-stands, stand-joined}
use Rattle.facet_json_grammar.proofs.Strict.ScalarTexts.{spelling, shape-spelling, scalar-readable, key-readable}

-- ---- from their parts

abbrev IsReadableMember : List ℕ → Type 0
IsReadableMember = IsMemberOf IsReadableNumber IsReadableString

abbrev ItemsGoOn : List ℕ → Type 0
ItemsGoOn = ItemsGoOnOf IsReadableNumber IsReadableString

abbrev MembersGoOn : List ℕ → Type 0
MembersGoOn = MembersGoOnOf IsReadableNumber IsReadableString

-- One such and what goes on after it, to the closing character.
record IsListed (P Rest : List ℕ → Type 0) (characters : List ℕ) : Type 0 where
  first : List ℕ
  others : List ℕ
  one : Spaced P first
  more : Rest others
  whole : characters ≡ first ++ others

abbrev SomeItems : List ℕ → Type 0
SomeItems = IsListed IsReadableValue ItemsGoOn

abbrev SomeMembers : List ℕ → Type 0
SomeMembers = IsListed IsReadableMember MembersGoOn

listed : {P Rest : List ℕ → Type 0} (first others : List ℕ) → Spaced P first → Rest others → IsListed P Rest (first ++ others)
listed first others one more = record { first = first; others = others; one = one; more = more; whole = refl }

last_item-listed : (first finish : List ℕ) → IsReadableText first → IsRfcStructural end_array finish → SomeItems (first ++ finish)
last_item-listed first finish one closes = listed first finish one (items_end finish closes)

separated-items : (separator cs : List ℕ) → IsRfcStructural value_separator separator → SomeItems cs → ItemsGoOn (separator ++ cs)
separated-items separator cs separates more =
    let there = items_go_on separator more.first more.others separates more.one more.more in
    rw more.whole (subst ItemsGoOn (append_assoc separator more.first more.others) there)

array-listed : (start cs : List ℕ) → IsRfcStructural begin_array start → SomeItems cs → IsReadableText (start ++ cs)
array-listed start cs opens items =
    let there = array_of start items.first items.others opens items.one items.more in
    value_text (start ++ cs) (rw items.whole (subst IsReadableValue (append_assoc start items.first items.others) there))

empty-array : (start finish : List ℕ) → IsRfcStructural begin_array start → IsRfcStructural end_array finish → IsReadableText (start ++ finish)
empty-array start finish opens closes = value_text (start ++ finish) (array_of_none start finish opens closes)

last_member-listed : (first finish : List ℕ) → Spaced IsReadableMember first → IsRfcStructural end_object finish →
    SomeMembers (first ++ finish)
last_member-listed first finish one closes = listed first finish one (members_end finish closes)

separated-members : (separator cs : List ℕ) → IsRfcStructural value_separator separator → SomeMembers cs →
    MembersGoOn (separator ++ cs)
separated-members separator cs separates more =
    let there = members_go_on separator more.first more.others separates more.one more.more in
    rw more.whole (subst MembersGoOn (append_assoc separator more.first more.others) there)

object-listed : (start cs : List ℕ) → IsRfcStructural begin_object start → SomeMembers cs → IsReadableText (start ++ cs)
object-listed start cs opens members =
    let there = object_of start members.first members.others opens members.one members.more in
    value_text (start ++ cs) (rw members.whole (subst IsReadableValue (append_assoc start members.first members.others) there))

empty-object : (start finish : List ℕ) → IsRfcStructural begin_object start → IsRfcStructural end_object finish → IsReadableText (start ++ finish)
empty-object start finish opens closes = value_text (start ++ finish) (object_of_none start finish opens closes)

-- A key with white space around it, and a colon.
record IsNamed (characters : List ℕ) : Type 0 where
  key : List ℕ
  mark : List ℕ
  names : Spaced IsReadableString key
  separates : IsRfcStructural name_separator mark
  whole : characters ≡ key ++ mark

named : (key mark : List ℕ) → Spaced IsReadableString key → IsRfcStructural name_separator mark → IsNamed (key ++ mark)
named key mark names separates = record { key = key; mark = mark; names = names; separates = separates; whole = refl }

named-member : (name cs : List ℕ) → IsNamed name → IsReadableText cs → Spaced IsReadableMember (name ++ cs)
named-member name cs named value =
    let key = named.names in
    let separator = key.after ++ named.mark in
    let there = spaced_before key.before _ key.spaces_before
    (member_of key.inside separator cs key.such (spaced_before key.after named.mark key.spaces_after named.separates) value) in
    let same : key.before ++ (key.inside ++ separator ++ cs) ≡ name ++ cs = rw (named.whole, key.whole) (simp append_assoc) in
    subst (Spaced IsReadableMember) same there

-- ---- from their tokens

module _ (buffer : List ℕ) where
  -- Such characters stand from a position on, and the tokens come behind them.
  abbrev Stand : (List ℕ → Type 0) → ℕ → Tokens → Type 0
  Stand = StandBefore buffer

  word-stands : {from : ℕ} {t : Token} {rest : Tokens} {word : List ℕ} → list_all is_ascii word ≡ true → IsFirst buffer from t rest →
      spelling t.kind ≡ Some word → Stand (Spaced (λ inside. inside ≡ word)) from rest
  word-stands {word = word} small first e =
      let same = shape-spelling first.shape e in
      first-stands buffer first (rw same (ascii word small refl))

  scalar-stands : (from : ℕ) (t : Token) (rest : Tokens) → is_scalar t.kind ≡ true → Come buffer from (next t rest) →
      (value : Tree) → meaning buffer t ≡ Some value → Stand IsReadableText from rest
  scalar-stands from t rest is come value e =
      let first = first-token buffer from t rest come in
      first-stands buffer first (scalar-readable buffer first.shape first.here t is first.right value e)

  key-stands : (from : ℕ) (t : Token) (rest : Tokens) → is_string t.kind ≡ true → Come buffer from (next t rest) →
      (name : List ℕ) → text_in_tree (meaning buffer t) ≡ Some name → Stand (Spaced IsReadableString) from rest
  key-stands from t rest is come name e =
      let first = first-token buffer from t rest come in
      first-stands buffer first (key-readable buffer first.shape first.here t is first.right name e)

  -- A bracket, a colon or a comma of this kind.
  mark-stands : (c : ℕ) (kind : Kind) → spelling kind ≡ Some (c ∷ []) → is_ascii c ≡ true → {from : ℕ} (t : Token) (rest : Tokens) →
      t.kind ≡ kind → Come buffer from (next t rest) → Stand (IsRfcStructural c) from rest
  mark-stands c kind same small {from} t rest is come =
      word-stands (rw small refl) (first-token buffer from t rest come) (ap spelling is ∙ same)

  name-stands : (from : ℕ) (key mark : Token) (rest : Tokens) → is_string key.kind ≡ true → mark.kind ≡ token.colon →
      Come buffer from (next key (next mark rest)) → (name : List ℕ) → text_in_tree (meaning buffer key) ≡ Some name → Stand IsNamed from rest
  name-stands from key mark rest is_key is_mark come name e =
      let there = key-stands from key (next mark rest) is_key come name e in
      stand-joined buffer named there (mark-stands name_separator token.colon refl refl mark rest is_mark there.others)

  -- What stands after an opening bracket or a comma: the closing bracket, or one or more.
  abbrev Opened : ℕ → (List ℕ → Type 0) → ℕ → Tokens → Tokens → Type 0
  Opened close_character Listed from ts rest = ((begins_closing ts ≡ true) × Stand (IsRfcStructural close_character) from rest) ⊎ Stand Listed from rest

  closing-stands : {Listed : List ℕ → Type 0} (c : ℕ) (kind : Kind) → spelling kind ≡ Some (c ∷ []) → is_ascii c ≡ true → is_closing kind ≡ true →
      {from : ℕ} (last : Token) (rest : Tokens) → last.kind ≡ kind → Come buffer from (next last rest) → Opened c Listed from (next last rest) rest
  closing-stands c kind same small closes last rest is come = inl (ap is_closing is ∙ closes, mark-stands c kind same small last rest is come)

  -- After a comma no closing bracket stands.
  not_closed : {c from : ℕ} {Listed : List ℕ → Type 0} (ts : Tokens) {rest : Tokens} → begins_closing ts ≡ false → Opened c Listed from ts rest →
      Stand Listed from rest
  not_closed ts e (inl there) = let closes = there.0 in cc
  not_closed ts e (inr more) = more

  array-stands : {from : ℕ} {inner rest : Tokens} (start : Stand (IsRfcStructural begin_array) from inner) →
      Opened end_array SomeItems start.to inner rest → Stand IsReadableText from rest
  array-stands start (inl there) = stand-joined buffer empty-array start there.1
  array-stands start (inr more) = stand-joined buffer array-listed start more

  object-stands : {from : ℕ} {inner rest : Tokens} (start : Stand (IsRfcStructural begin_object) from inner) →
      Opened end_object SomeMembers start.to inner rest → Stand IsReadableText from rest
  object-stands start (inl there) = stand-joined buffer empty-object start there.1
  object-stands start (inr more) = stand-joined buffer object-listed start more

  mutual
    unfolding tree_of trees_of pairs_of

    value-stands : {ts rest : Tokens} {node : Node} → Spells ts node rest → (from : ℕ) → Come buffer from ts →
        (value : Tree) → tree_of buffer node ≡ Some value → Stand IsReadableText from rest
    value-stands (one_token t rest is) from come value e = scalar-stands from t rest is come value e
    value-stands (brackets first last inner rest nodes opens items) from come value e =
        let start = mark-stands begin_array token.array_start refl refl first inner opens come in
        let meant = list_meant (trees_of buffer nodes) value e in
        array-stands start (items-stand items start.to start.others meant.0 meant.1)
    value-stands (braces first last inner rest members opens inside) from come value e =
        let start = mark-stands begin_object token.object_start refl refl first inner opens come in
        let meant = object_meant (pairs_of buffer members) value e in
        object-stands start (members-stand inside start.to start.others meant.0 meant.1)

    items-stand : {ts rest : Tokens} {nodes : Nodes} {last : Token} → SpellsItems ts nodes last rest → (from : ℕ) → Come buffer from ts →
        (values : Trees) → trees_of buffer nodes ≡ Some values → Opened end_array SomeItems from ts rest
    items-stand (closed last rest is) from come values e =
        closing-stands end_array token.array_end refl refl refl last rest is come
    items-stand (item_and_comma ts others rest node nodes separator last spells is more) from come values e =
        let meant = item_meant buffer node nodes values e in
        let one = value-stands spells from come meant.0 meant.2 in
        let mark = mark-stands value_separator token.comma refl refl separator others is one.others in
        let led = (first-token buffer one.to separator others one.others).led is in
        let further = not_closed others led (items-stand more mark.to mark.others meant.1 meant.3) in
        inr (stand-joined buffer listed one (stand-joined buffer separated-items mark further))
    items-stand (last_item ts rest node last spells is) from come values e =
        let meant = item_meant buffer node no_nodes values e in
        let one = value-stands spells from come meant.0 meant.2 in
        inr (stand-joined buffer last_item-listed one (mark-stands end_array token.array_end refl refl last rest is one.others))

    members-stand : {ts rest : Tokens} {members : Members} {last : Token} → SpellsMembers ts members last rest → (from : ℕ) → Come buffer from ts →
        (values : Pairs) → pairs_of buffer members ≡ Some values → Opened end_object SomeMembers from ts rest
    members-stand (ended_members last rest is) from come values e =
        closing-stands end_object token.object_end refl refl refl last rest is come
    members-stand (member_and_comma ts others rest key mark node members separator last is_key is_mark spells is more) from come values e =
        let meant = member_meant buffer key mark node members values e in
        let name = name-stands from key mark ts is_key is_mark come meant.0 meant.3 in
        let value = value-stands spells name.to name.others meant.1 meant.4 in
        let one = stand-joined buffer named-member name value in
        let comma = mark-stands value_separator token.comma refl refl separator others is one.others in
        let led = (first-token buffer one.to separator others one.others).led is in
        let further = not_closed others led (members-stand more comma.to comma.others meant.2 meant.5) in
        inr (stand-joined buffer listed one (stand-joined buffer separated-members comma further))
    members-stand (last_member ts rest key mark node last is_key is_mark spells is) from come values e =
        let meant = member_meant buffer key mark node no_members values e in
        let name = name-stands from key mark ts is_key is_mark come meant.0 meant.3 in
        let value = value-stands spells name.to name.others meant.1 meant.4 in
        let one = stand-joined buffer named-member name value in
        inr (stand-joined buffer last_member-listed one (mark-stands end_object token.object_end refl refl last rest is one.others))

-- A strict document is a text of RFC 8259, in UTF-8, whose strings have a text and whose numbers have a value.
pub document-is_text : (buffer : List ℕ) (root : Node) (value : Tree) → IsStrictDocument buffer root value → InUtf8 IsReadableText buffer
document-is_text buffer root value is =
    let reads = is.whole.reads in
    let all = value-stands buffer reads.spells 0 (record { are = refl; strict = is.strict }) value reads.has_tree in
    let blank = blank_text (drop all.to buffer) (ended-blank buffer all.to all.others) in
    let whole : drop 0 buffer ≡ all.bytes ++ drop all.to buffer = all.whole in
    rw whole (joined {Q = AreSpaces} spaced_after all.such blank)
