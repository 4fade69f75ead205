-- The trees of documents come back from their text, their zeros without a sign.
use Rattle.std.specs.Prelude.{ℕ, List, drop, nat_lt, nat_le, pos, negsuc, neg_ℤ}
use Rattle.std.specs.Fmt.{decimal, signed_decimal}
use Rattle.std.specs.Option.{option_map}
use Rattle.std.specs.Str.{is_utf8}
use Rattle.std.proofs.Common.{◌≡◌, ◌<◌, ◌≤◌, ◌^◌, zero, suc, Bool, true, false, cond, Option, Some, None, refl, sym, ap, ap₂, ◌∙◌, subst, arith, ltb-true, leb-true}
use Rattle.std.proofs.lemmas.Bool.{lt-ltb}
use Rattle.std.proofs.lemmas.Str.{is_utf8-from_IsUtf8}
use Rattle.facet_format.specs.Number.{Hint, unsigned, signed, float}
use Rattle.facet_format.specs.NumberValue.{Number, number, value_by, unsigned_number, negative_number, digits_value, has_value}
use Rattle.facet_format.specs.NumberParts.{parts, is_number}
use Rattle.facet_format.specs.NumberValue as numbers
use Rattle.facet_json_token.specs.Token.{Kind}
use Rattle.facet_json_token.specs.Token as token
use Rattle.facet_json_grammar.specs.Document.{IsWholeDocument}
use Rattle.facet_json_grammar.specs.Meaning.{meaning_of, tree_of_number, text_in_tree, put_item, put_pair, tree_of, trees_of, pairs_of}
use Rattle.facet_json_grammar.specs.Node.{Node, scalar, array, object, Nodes, no_nodes, item, Members, no_members, member}
use Rattle.facet_json_grammar.specs.Text.{BytesFormat, text}
use Rattle.facet_json_grammar.specs.Tree.{Tree, null, bool, i64, u64, list, pairs, Trees, no_trees, tree, Pairs, no_pairs, pair}
use Rattle.facet_json_grammar.specs.Tree as trees
use Rattle.facet_json_grammar.proofs.TreesOfParts.{item_meant, member_meant}
use Rattle.facet_json_grammar.specs.AsRead.{WellFormed, ItemsWellFormed, MembersWellFormed, RawParts, RawItems, RawMembers, IsDocumentText, ReadsAs, null_is_null, bool_is_itself, i64_is_whole, u64_is_whole, decimal_is_itself, text_is_itself, list_is_list, pairs_are_pairs, ItemsReadAs, no_items, one_item, MembersReadAs, one_member}
use Rattle.facet_json_grammar.specs.AsRead as written
use Rattle.facet_json_grammar.specs.RfcText.{InUtf8}
use Rattle.facet_json_grammar.proofs.Rfc.Numbers.{number-decimal, number-signed}
use Rattle.facet_json_grammar.proofs.Values.Readings.{one_reading}
use Rattle.facet_json_grammar.proofs.Values.TreeTexts.{written_is_read}
use Rattle.facet_json_core.specs.Meaning.Trees.{without_plus, items_without_plus, members_without_plus, IsReadAgain, DocumentIsReadable, DocumentComesBack}
use Rattle.facet_json_core.proofs.Meaning.OfTrees.TextsDecoded.{decoded-utf8}

-- ---- scalars

-- A tree that has no number with a sign, or a negative one, and reads as itself.
itself-again : (t : Tree) → WellFormed t → RawParts (λ json. ⊥) t → without_plus t ≡ t → ((format : BytesFormat) → ReadsAs format t t) → IsReadAgain t
itself-again t well none same as_read = record {
  of_rust = well;
  no_raw = none;
  as_read = λ format. subst (ReadsAs format t) (sym same) (as_read format);
  from_then_on = λ format. subst (λ u. ReadsAs format u u) (sym same) (as_read format);
}

null-again : IsReadAgain null
unfolding WellFormed RawParts without_plus
null-again = itself-again null tt tt refl (λ format. null_is_null)

bool-again : (b : Bool) → IsReadAgain (bool b)
unfolding WellFormed RawParts without_plus
bool-again b = itself-again (bool b) tt tt refl (λ format. bool_is_itself b)

text-again : (t : List ℕ) → is_utf8 t ≡ true → IsReadAgain (trees.text t)
unfolding WellFormed RawParts without_plus
text-again t utf8 = itself-again (trees.text t) utf8 tt refl (λ format. text_is_itself t)

decimal-again : (t : List ℕ) → number t float ≡ Some (numbers.decimal t) → IsReadAgain (trees.decimal t)
unfolding WellFormed RawParts without_plus
decimal-again t is = itself-again (trees.decimal t) is tt refl (λ format. decimal_is_itself t)

u64-read : (format : BytesFormat) (n : ℕ) → n < 2 ^ 64 → ReadsAs format (u64 n) (u64 n)
u64-read format n small =
    subst (ReadsAs format (u64 n)) (ap (λ b. cond b (u64 n) (trees.text (decimal n))) (lt-ltb n (2 ^ 64) small)) (u64_is_whole n)

u64-again : (n : ℕ) → n < 2 ^ 64 → IsReadAgain (u64 n)
unfolding WellFormed RawParts without_plus
u64-again n small = itself-again (u64 n) small tt refl (λ format. u64-read format n small)

-- `-0`
zero-again : IsReadAgain (i64 (pos 0))
unfolding WellFormed RawParts without_plus
zero-again = record {
  of_rust = omega arith;
  no_raw = tt;
  as_read = λ format. subst (ReadsAs format (i64 (pos 0))) (ap (λ b. cond b (u64 0) (trees.text (decimal 0))) (lt-ltb 0 (2 ^ 64) (omega arith))) (i64_is_whole (pos 0));
  from_then_on = λ format. u64-read format 0 (omega arith);
}

-- the negative number whose distance below -1 this is
negative-again : (n : ℕ) → n < 2 ^ 63 → IsReadAgain (i64 (negsuc n))
unfolding WellFormed RawParts without_plus
negative-again n small = itself-again (i64 (negsuc n)) small tt refl
    (λ format. subst (ReadsAs format (i64 (negsuc n)))
    (ap (λ b. cond b (i64 (negsuc n)) (trees.text (signed_decimal (negsuc n)))) (lt-ltb n (2 ^ 63) small)) (i64_is_whole (negsuc n)))

in_utf8-is : {P : List ℕ → Type 0} {t : List ℕ} → InUtf8 P t → is_utf8 t ≡ true
in_utf8-is {t = t} own = is_utf8-from_IsUtf8 t (own.characters, (own.are_scalars, own.encoded))

-- ---- numbers

unsigned-again : (v : ℕ) (n : Number) → unsigned_number v ≡ Some n → IsReadAgain (tree_of_number n)
unsigned-again v n e = by (nat_lt v (2 ^ 64)) (nat_lt v (2 ^ 128)) refl refl e
  where
    by : (narrow wide : Bool) → nat_lt v (2 ^ 64) ≡ narrow → nat_lt v (2 ^ 128) ≡ wide →
        cond narrow (Some (numbers.u64 v)) (cond wide (Some (numbers.u128 v)) None) ≡ Some n → IsReadAgain (tree_of_number n)
    by true wide small is k =
        let same : numbers.u64 v ≡ n = cc in subst (λ m. IsReadAgain (tree_of_number m)) same (u64-again v (ltb-true v (2 ^ 64) small))
    by false true large is k =
        let same : numbers.u128 v ≡ n = cc in
        let below = ltb-true v (2 ^ 128) is in
        subst (λ m. IsReadAgain (tree_of_number m)) same (text-again (decimal v) (in_utf8-is (number-decimal v (omega (arith, below)))))
    by false false large beyond k = absurd (cc)

i64-again : (v : ℕ) → v ≤ 2 ^ 63 → IsReadAgain (i64 (neg_ℤ (pos v)))
i64-again zero small = zero-again
i64-again (suc m) small = negative-again m (omega (arith, small))

i128-again : (v : ℕ) → v ≤ 2 ^ 127 → IsReadAgain (trees.text (signed_decimal (neg_ℤ (pos v))))
i128-again zero small = text-again (signed_decimal (pos 0)) (in_utf8-is (number-signed 127 (pos 0) (omega arith) (omega arith)))
i128-again (suc m) small = text-again (signed_decimal (negsuc m)) (in_utf8-is (number-signed 127 (negsuc m) (omega arith) (omega (arith, small))))

negative_number-again : (v : ℕ) (n : Number) → negative_number v ≡ Some n → IsReadAgain (tree_of_number n)
negative_number-again v n e = by (nat_le v (2 ^ 63)) (nat_le v (2 ^ 127)) refl refl e
  where
    by : (narrow wide : Bool) → nat_le v (2 ^ 63) ≡ narrow → nat_le v (2 ^ 127) ≡ wide →
        cond narrow (Some (numbers.i64 (neg_ℤ (pos v)))) (cond wide (Some (numbers.i128 (neg_ℤ (pos v)))) None) ≡ Some n → IsReadAgain (tree_of_number n)
    by true wide small is k =
        let same : numbers.i64 (neg_ℤ (pos v)) ≡ n = cc in subst (λ m. IsReadAgain (tree_of_number m)) same (i64-again v (leb-true v (2 ^ 63) small))
    by false true large is k =
        let same : numbers.i128 (neg_ℤ (pos v)) ≡ n = cc in
        subst (λ m. IsReadAgain (tree_of_number m)) same (i128-again v (leb-true v (2 ^ 127) is))
    by false false large beyond k = absurd (cc)

float-again : (bytes : List ℕ) (n : Number) (b : Bool) → number bytes float ≡ Some n → cond b (Some (numbers.decimal bytes)) None ≡ Some n →
    IsReadAgain (tree_of_number n)
float-again bytes n true e k =
    let same : numbers.decimal bytes ≡ n = cc in
    subst (λ m. IsReadAgain (tree_of_number m)) same (decimal-again bytes (e ∙ ap Some (sym same)))
float-again bytes n false e k = absurd (cc)

value-again : (bytes : List ℕ) (hint : Hint) (n : Number) → number bytes hint ≡ Some n → value_by hint (parts bytes) bytes ≡ Some n →
    IsReadAgain (tree_of_number n)
value-again bytes unsigned n e is = unsigned-again (digits_value 0 bytes) n is
value-again bytes signed n e is = negative_number-again (digits_value 0 (drop (parts bytes).sign bytes)) n is
value-again bytes float n e is = float-again bytes n (has_value (parts bytes) bytes) e is

number-again : (bytes : List ℕ) (hint : Hint) (n : Number) → number bytes hint ≡ Some n → IsReadAgain (tree_of_number n)
unfolding number
number-again bytes hint n e = value-again bytes hint n e (by (is_number bytes hint) e)
  where
    by : (b : Bool) → cond b (value_by hint (parts bytes) bytes) None ≡ Some n → value_by hint (parts bytes) bytes ≡ Some n
    by true k = k
    by false k = absurd (cc)

-- ---- what a token means

mapped-again : {A : Type 0} (f : A → Tree) (o : Option A) (t : Tree) → ((a : A) → o ≡ Some a → IsReadAgain (f a)) → option_map f o ≡ Some t → IsReadAgain t
mapped-again f None t each e = absurd (cc)
mapped-again f (Some a) t each e = let same : f a ≡ t = cc in subst IsReadAgain same (each a refl)

meaning-again : (buffer : List ℕ) (kind : Kind) (t : Tree) → meaning_of buffer kind ≡ Some t → IsReadAgain t
meaning-again buffer token.null t e = let same : null ≡ t = cc in subst IsReadAgain same null-again
meaning-again buffer token.true_literal t e = let same : bool true ≡ t = cc in subst IsReadAgain same (bool-again true)
meaning-again buffer token.false_literal t e = let same : bool false ≡ t = cc in subst IsReadAgain same (bool-again false)
meaning-again buffer (token.string start finish has_escapes) t e =
    mapped-again trees.text _ t (λ (text : List ℕ) is. text-again text (decoded-utf8 _ text is)) e
meaning-again buffer (token.number start finish hint) t e = mapped-again tree_of_number _ t (λ (n : Number) is. number-again _ hint n is) e
meaning-again buffer token.object_start t e = absurd (cc)
meaning-again buffer token.object_end t e = absurd (cc)
meaning-again buffer token.array_start t e = absurd (cc)
meaning-again buffer token.array_end t e = absurd (cc)
meaning-again buffer token.colon t e = absurd (cc)
meaning-again buffer token.comma t e = absurd (cc)

named-again : (t : Tree) (name : List ℕ) → IsReadAgain t → text_in_tree (Some t) ≡ Some name → is_utf8 name ≡ true
unfolding WellFormed
named-again (trees.text u) name again e = let same : u ≡ name = cc in subst (λ u. is_utf8 u ≡ true) same again.of_rust
named-again _ name again e = absurd (cc)

-- What a key's token means is UTF-8.
name-utf8 : (buffer : List ℕ) (kind : Kind) (o : Option Tree) (name : List ℕ) → meaning_of buffer kind ≡ o → text_in_tree o ≡ Some name → is_utf8 name ≡ true
name-utf8 buffer kind None name is e = absurd (cc)
name-utf8 buffer kind (Some t) name is e = named-again t name (meaning-again buffer kind t is) e

-- ---- lists and objects

items-read : (format : BytesFormat) (items values : Trees) → ReadsAs format (list items) (list values) → ItemsReadAs format items values
items-read format _ _ (list_is_list items values h) = h

members-read : (format : BytesFormat) (members values : Pairs) → ReadsAs format (pairs members) (pairs values) → MembersReadAs format members values
members-read format _ _ (pairs_are_pairs members values h) = h

no_items-again : IsReadAgain (list no_trees)
unfolding WellFormed ItemsWellFormed RawParts RawItems without_plus items_without_plus
no_items-again = itself-again (list no_trees) tt tt refl (λ format. list_is_list no_trees no_trees no_items)

item-again : (t : Tree) (items : Trees) → IsReadAgain t → IsReadAgain (list items) → IsReadAgain (list (tree t items))
unfolding WellFormed ItemsWellFormed RawParts RawItems without_plus items_without_plus
item-again t items first others = record {
  of_rust = (first.of_rust, others.of_rust);
  no_raw = (first.no_raw, others.no_raw);
  as_read = λ format. list_is_list _ _ (one_item t _ items _ (first.as_read format) (items-read format items _ (others.as_read format)));
  from_then_on = λ format. list_is_list _ _ (one_item _ _ _ _ (first.from_then_on format) (items-read format _ _ (others.from_then_on format)));
}

no_members-again : IsReadAgain (pairs no_pairs)
unfolding WellFormed MembersWellFormed RawParts RawMembers without_plus members_without_plus
no_members-again = itself-again (pairs no_pairs) tt tt refl (λ format. pairs_are_pairs no_pairs no_pairs written.no_members)

member-again : (name : List ℕ) (t : Tree) (members : Pairs) → is_utf8 name ≡ true → IsReadAgain t → IsReadAgain (pairs members) →
    IsReadAgain (pairs (pair name t members))
unfolding WellFormed MembersWellFormed RawParts RawMembers without_plus members_without_plus
member-again name t members utf8 first others = record {
  of_rust = (utf8, first.of_rust, others.of_rust);
  no_raw = (first.no_raw, others.no_raw);
  as_read = λ format. pairs_are_pairs _ _ (one_member name t _ members _ (first.as_read format) (members-read format members _ (others.as_read format)));
  from_then_on = λ format. pairs_are_pairs _ _ (one_member name _ _ _ _ (first.from_then_on format) (members-read format _ _ (others.from_then_on format)));
}

mutual
  unfolding tree_of trees_of pairs_of

  node-again : (buffer : List ℕ) (n : Node) (t : Tree) → tree_of buffer n ≡ Some t → IsReadAgain t
  node-again buffer (scalar token) t e = meaning-again buffer token.kind t e
  node-again buffer (array first last nodes) t e = mapped-again list (trees_of buffer nodes) t (λ (items : Trees) is. items-again buffer nodes items is) e
  node-again buffer (object first last inside) t e = mapped-again pairs (pairs_of buffer inside) t (λ (members : Pairs) is. members-again buffer inside members is) e

  items-again : (buffer : List ℕ) (nodes : Nodes) (items : Trees) → trees_of buffer nodes ≡ Some items → IsReadAgain (list items)
  items-again buffer no_nodes items e = let same : no_trees ≡ items = cc in subst (λ ts. IsReadAgain (list ts)) same no_items-again
  items-again buffer (item node nodes) items e =
      let both = item_meant buffer node nodes items e in
      let whole : Some (tree both.0 both.1) ≡ Some items = sym (ap₂ put_item both.2 both.3) ∙ e in
      let same : tree both.0 both.1 ≡ items = cc in
      subst (λ ts. IsReadAgain (list ts)) same
      (item-again both.0 both.1 (node-again buffer node both.0 both.2) (items-again buffer nodes both.1 both.3))

  members-again : (buffer : List ℕ) (inside : Members) (members : Pairs) → pairs_of buffer inside ≡ Some members → IsReadAgain (pairs members)
  members-again buffer no_members members e = let same : no_pairs ≡ members = cc in subst (λ ps. IsReadAgain (pairs ps)) same no_members-again
  members-again buffer (member key mark node inside) members e =
      let all = member_meant buffer key mark node inside members e in
      let whole : Some (pair all.0 all.1 all.2) ≡ Some members =
      sym (ap (λ k. put_pair k (tree_of buffer node) (pairs_of buffer inside)) all.3 ∙ ap₂ (put_pair (Some all.0)) all.4 all.5) ∙ e in
      let same : pair all.0 all.1 all.2 ≡ members = cc in
      subst (λ ps. IsReadAgain (pairs ps)) same
      (member-again all.0 all.1 all.2 (name-utf8 buffer key.kind _ all.0 refl all.3) (node-again buffer node all.1 all.4)
      (members-again buffer inside all.2 all.5))

-- ---- documents

pub document_is_readable : DocumentIsReadable
document_is_readable input mode root t d = node-again input root t d.reads.has_tree

mutual
  unfolding RawParts RawItems RawMembers

  -- Where there is no raw text, all of it is what one likes.
  no_raw-all : (P : List ℕ → Type 0) (t : Tree) → RawParts (λ json. ⊥) t → RawParts P t
  no_raw-all P null none = tt
  no_raw-all P trees.unit none = tt
  no_raw-all P (bool b) none = tt
  no_raw-all P (trees.char c) none = tt
  no_raw-all P (i64 n) none = tt
  no_raw-all P (u64 n) none = tt
  no_raw-all P (trees.i128 n) none = tt
  no_raw-all P (trees.u128 n) none = tt
  no_raw-all P (trees.decimal t) none = tt
  no_raw-all P (trees.text t) none = tt
  no_raw-all P (trees.bytes b) none = tt
  no_raw-all P (trees.raw t) none = absurd none
  no_raw-all P (list items) none = no_raw-items P items none
  no_raw-all P (pairs members) none = no_raw-members P members none

  no_raw-items : (P : List ℕ → Type 0) (items : Trees) → RawItems (λ json. ⊥) items → RawItems P items
  no_raw-items P no_trees none = tt
  no_raw-items P (tree t items) none = (no_raw-all P t none.0, no_raw-items P items none.1)

  no_raw-members : (P : List ℕ → Type 0) (members : Pairs) → RawMembers (λ json. ⊥) members → RawMembers P members
  no_raw-members P no_pairs none = tt
  no_raw-members P (pair key t members) none = (no_raw-all P t none.0, no_raw-members P members none.1)

pub document_comes_back : DocumentComesBack
document_comes_back input mode root t o d blank =
    let again = document_is_readable input mode root t d in
    let back = written_is_read o t blank again.of_rust (no_raw-all IsDocumentText t again.no_raw) in
    let same = one_reading o.bytes_format t back.value (without_plus t) back.as_read (again.as_read o.bytes_format) in
    (back.root, subst (IsWholeDocument (text o 0 t) back.root) same back.document)
