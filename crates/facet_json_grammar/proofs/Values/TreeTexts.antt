-- The text of a tree is read as what the tree reads as.
use Rattle.std.proofs.Common.{◌≡◌, ℕ, suc, ◌^◌, Bool, true, false, cond, nat_lt, List, [], ◌∷◌, ◌++◌, pos, refl, sym, ap, ◌∙◌, subst, arith, append_assoc, append-nil, ltb-true, lt-ltb}
use Rattle.std.specs.Fmt.{decimal}
use Rattle.std.specs.List.{list_all}
use Rattle.std.specs.Str.{is_utf8}
use Rattle.std.proofs.lemmas.Bool.{and_parts}
use Rattle.facet_format.specs.Bytes.{is_space, space, line_feed, left_bracket, right_bracket, right_brace}
use Rattle.facet_format.specs.Bytes as bytes
use Rattle.facet_json_grammar.specs.Language.{Rules, lenient_rules, strict_rules}
use Rattle.facet_json_grammar.specs.Quoted.{quoted}
use Rattle.facet_json_grammar.specs.Text.{BytesFormat, as_array, as_hex, hex, Options, indents, new_line, colon_text, bytes_text, text, items_text, members_text}
use Rattle.facet_json_grammar.specs.Text as texts
use Rattle.facet_json_grammar.specs.Tree.{Tree, null, unit, bool, char, i64, u64, i128, u128, raw, list, pairs, Trees, no_trees, tree, Pairs, no_pairs, pair}
use Rattle.facet_json_grammar.specs.Tree as trees
use Rattle.facet_json_grammar.specs.AsRead.{whole_number, numbers_of, bytes_as_read, ReadsAs, null_is_null, unit_is_null, bool_is_itself, char_is_text, i64_is_whole, u64_is_whole, i128_is_whole, u128_is_whole, decimal_is_itself, text_is_itself, bytes_are_read, raw_is_read, list_is_list, pairs_are_pairs, ItemsReadAs, no_items, one_item, MembersReadAs, no_members, one_member, WellFormed, ItemsWellFormed, MembersWellFormed, RawParts, RawItems, RawMembers, IsDocumentText, IsBlankIndent}
use Rattle.facet_json_grammar.specs.ReadBack.{WrittenIsRead, IndentIsNotRead}
use Rattle.facet_json_grammar.specs.RfcLaws.{DecimalParts, DecimalItems, DecimalMembers}
use Rattle.facet_json_grammar.specs.StrictDocument.{IsStrict}
use Rattle.facet_json_grammar.proofs.Values.Containers.{AreItems, items-last, items-more, list-one_value, empty_list-one_value, empty_object-one_value, AreMembers, blank-members, members-last, members-more, object-one_value}
use Rattle.facet_json_grammar.proofs.Scalars.Literals.{null-one_scalar, bool-one_scalar}
use Rattle.facet_json_grammar.proofs.Scalars.Numbers.{IsNumberBy}
use Rattle.facet_json_grammar.proofs.Scalars.OneToken.{IsOneScalar}
use Rattle.facet_json_grammar.proofs.Scalars.HexTexts.{hex_text-one_scalar}
use Rattle.facet_json_grammar.proofs.Values.OneValue.{IsOneValue, scalar-one_value, blank-one_value, one_value-document}
use Rattle.facet_json_grammar.proofs.Scalars.QuotedTexts.{quoted-one_string, quoted-one_scalar, char-one_scalar}
use Rattle.facet_json_grammar.proofs.Values.RawValues.{document-one_value}
use Rattle.facet_json_grammar.proofs.Values.Readings.{one_whole_document, one_reading}
use Rattle.facet_json_grammar.proofs.Scalars.Spaces.{spaces-if, new_line-blank}
use Rattle.facet_json_grammar.proofs.Scalars.WholeNumbers.{decimal-one_scalar, signed-one_scalar, within-wider, decimal_text-one_scalar}

-- ---- what stands before and after a colon

-- what stands after a colon
abbrev after_colon : Bool → List ℕ
after_colon pretty = cond pretty (space ∷ []) []

colon_text-is : (pretty : Bool) → cond pretty (bytes.colon ∷ space ∷ []) (bytes.colon ∷ []) ≡ bytes.colon ∷ after_colon pretty
colon_text-is true = refl
colon_text-is false = refl

-- A member's pieces, with a line before them and the rest after them.
member-pieces : (line key mark gap value rest : List ℕ) → mark ≡ bytes.colon ∷ gap →
    line ++ (key ++ (bytes.colon ∷ ((gap ++ value) ++ rest))) ≡ (((line ++ key) ++ mark) ++ value) ++ rest
member-pieces line key mark gap value rest e = rw e (simp append_assoc)

-- ---- numbers and bytes

-- A byte reads as itself.
byte-one_value : (by : Rules) (b : ℕ) → nat_lt b 0x100 ≡ true → IsOneValue by (decimal b) (u64 b)
byte-one_value by b e =
    let small = ltb-true b 0x100 e in
    let itself : whole_number (pos b) ≡ u64 b =
    ap (λ t. cond t (u64 b) (trees.text (decimal b))) (lt-ltb b (2 ^ 64) (omega arith)) in
    scalar-one_value by (decimal b) (u64 b) (subst (IsOneScalar by (decimal b)) itself (decimal-one_scalar by b (omega arith)))

-- Numbers of bytes are items.
numbers-items : (by : Rules) (b : ℕ) (others : List ℕ) → list_all (λ x. nat_lt x 0x100) (b ∷ others) ≡ true →
    AreItems by (texts.numbers (b ∷ others) ++ right_bracket ∷ []) (numbers_of (b ∷ others))
numbers-items by b [] e =
    let one = byte-one_value by b (and_parts (nat_lt b 0x100) true e).0 in
    subst (λ l. AreItems by l (tree (u64 b) no_trees))
    (ap (λ l. l ++ right_bracket ∷ []) (sym (append-nil (decimal b)))) (items-last by (decimal b) [] (u64 b) one refl)
numbers-items by b (c ∷ others) e =
    let both = and_parts (nat_lt b 0x100) (list_all (λ x. nat_lt x 0x100) (c ∷ others)) e in
    let one = byte-one_value by b both.0 in
    let more = numbers-items by c others both.1 in
    subst (λ l. AreItems by l (numbers_of (b ∷ c ∷ others)))
    (sym (append_assoc (decimal b) (bytes.comma ∷ texts.numbers (c ∷ others)) (right_bracket ∷ [])))
    (items-more by (decimal b) (texts.numbers (c ∷ others) ++ right_bracket ∷ []) (u64 b) _ one more)

-- Bytes are one value, in each format.
bytes-one_value : (by : Rules) (format : BytesFormat) (all : List ℕ) → list_all (λ x. nat_lt x 0x100) all ≡ true →
    IsOneValue by (bytes_text format all) (bytes_as_read format all)
bytes-one_value by as_array [] e = empty_list-one_value by [] refl
bytes-one_value by as_array (b ∷ others) e =
    list-one_value by (texts.numbers (b ∷ others) ++ right_bracket ∷ []) (numbers_of (b ∷ others)) (numbers-items by b others e)
bytes-one_value by (as_hex limit head tail) all e =
    scalar-one_value by (bytes_text (as_hex limit head tail) all) _ (hex_text-one_scalar by all limit head tail e)

-- ---- trees

-- The text is one value, that the tree reads as.
pub record IsTreeText (by : Rules) (o : Options) (t : Tree) (written : List ℕ) : Type 0 where
  pub value : Tree
  pub as_read : ReadsAs o.bytes_format t value
  pub one : IsOneValue by written value

record IsItemsText (by : Rules) (o : Options) (items : Trees) (written : List ℕ) : Type 0 where
  values : Trees
  as_read : ItemsReadAs o.bytes_format items values
  are : AreItems by written values

record IsMembersText (by : Rules) (o : Options) (members : Pairs) (written : List ℕ) : Type 0 where
  values : Pairs
  as_read : MembersReadAs o.bytes_format members values
  are : AreMembers by written values

-- The text is a whole document by these rules.
abbrev pub IsTextBy : Rules → List ℕ → Type 0
IsTextBy lenient_rules content = IsDocumentText content
IsTextBy strict_rules content = IsStrict content

-- Such a text, as raw text.
raw-text : (by : Rules) (o : Options) (t : List ℕ) → IsTextBy by t → IsTreeText by o (raw t) t
raw-text lenient_rules o t r = record {
  value = r.1;
  as_read = raw_is_read t r.0 r.1 r.2;
  one = document-one_value lenient_rules t r.0 r.1 r.2 tt;
}
raw-text strict_rules o t r = record {
  value = r.1;
  as_read = raw_is_read t r.0 r.1 r.2.whole;
  one = document-one_value strict_rules t r.0 r.1 r.2.whole r.2.strict;
}

module _ (by : Rules) (o : Options) (blank : IsBlankIndent o) where
  -- A scalar's text.
  scalar-text : (t value : Tree) (written : List ℕ) → ReadsAs o.bytes_format t value → IsOneScalar by written value →
      IsTreeText by o t written
  scalar-text t value written r h = record { value = value; as_read = r; one = scalar-one_value by written value h }

  mutual
    unfolding text WellFormed RawParts DecimalParts

    -- Where decimals and raw text are such as these rules have, the text of a tree is one value by them, which is read as the tree reads.
    pub tree-text : (depth : ℕ) (t : Tree) → WellFormed t → DecimalParts (IsNumberBy by) t → RawParts (IsTextBy by) t →
        IsTreeText by o t (text o depth t)
    tree-text depth null w d r = scalar-text null null _ null_is_null (null-one_scalar by)
    tree-text depth unit w d r = scalar-text unit null _ unit_is_null (null-one_scalar by)
    tree-text depth (bool b) w d r = scalar-text (bool b) (bool b) _ (bool_is_itself b) (bool-one_scalar by b)
    tree-text depth (char c) w d r = scalar-text (char c) _ _ (char_is_text c) (char-one_scalar by c w)
    tree-text depth (i64 n) w d r =
        scalar-text (i64 n) (whole_number n) _ (i64_is_whole n) (signed-one_scalar by n (within-wider n w))
    tree-text depth (u64 n) w d r =
        scalar-text (u64 n) (whole_number (pos n)) _ (u64_is_whole n) (decimal-one_scalar by n (omega arith))
    tree-text depth (i128 n) w d r =
        scalar-text (i128 n) (whole_number n) _ (i128_is_whole n) (signed-one_scalar by n w)
    tree-text depth (u128 n) w d r =
        scalar-text (u128 n) (whole_number (pos n)) _ (u128_is_whole n) (decimal-one_scalar by n w)
    tree-text depth (trees.decimal t) w d r =
        scalar-text (trees.decimal t) _ t (decimal_is_itself t) (decimal_text-one_scalar by t d w)
    tree-text depth (trees.text t) w d r =
        scalar-text (trees.text t) _ (quoted t) (text_is_itself t) (quoted-one_scalar by t w)
    tree-text depth (trees.bytes b) w d r = record {
      value = bytes_as_read o.bytes_format b;
      as_read = bytes_are_read b;
      one = bytes-one_value by o.bytes_format b w;
    }
    tree-text depth (raw t) w d r = raw-text by o t r
    tree-text depth (list no_trees) w d r =
        record { value = list no_trees; as_read = list_is_list no_trees no_trees no_items; one = empty_list-one_value by [] refl }
    tree-text depth (list (tree t items)) w d r =
        let inside = items-written depth t (tree-text (suc depth) t w.0 d.0 r.0) items w.1 d.1 r.1 in
        record {
          value = list inside.values;
          as_read = list_is_list (tree t items) inside.values inside.as_read;
          one = list-one_value by (items_text o depth true (tree t items)) inside.values inside.are;
        }
    tree-text depth (pairs no_pairs) w d r =
        record { value = pairs no_pairs; as_read = pairs_are_pairs no_pairs no_pairs no_members; one = empty_object-one_value by [] refl }
    tree-text depth (pairs (pair key t members)) w d r =
        let inside = members-written depth key t w.0 (tree-text (suc depth) t w.1 d.0 r.0) members w.2 d.1 r.1 in
        record {
          value = pairs inside.values;
          as_read = pairs_are_pairs (pair key t members) inside.values inside.as_read;
          one = object-one_value by (members_text o depth true (pair key t members)) inside.values inside.are;
        }

    items-written : (depth : ℕ) (t : Tree) → IsTreeText by o t (text o (suc depth) t) → (items : Trees) → ItemsWellFormed items →
        DecimalItems (IsNumberBy by) items → RawItems (IsTextBy by) items →
        IsItemsText by o (tree t items) (items_text o depth true (tree t items))
    items-written depth t first no_trees w d r =
        let line = new_line o (suc depth) in
        let one = blank-one_value by line (text o (suc depth) t) first.value (new_line-blank o (suc depth) blank) first.one in
        record {
          values = tree first.value no_trees;
          as_read = one_item t first.value no_trees no_trees first.as_read no_items;
          are = items-last by (line ++ text o (suc depth) t) (new_line o depth) first.value one (new_line-blank o depth blank);
        }
    items-written depth t first (tree u more) w d r =
        let line = new_line o (suc depth) in
        let one = blank-one_value by line (text o (suc depth) t) first.value (new_line-blank o (suc depth) blank) first.one in
        let others = items-written depth u (tree-text (suc depth) u w.0 d.0 r.0) more w.1 d.1 r.1 in
        record {
          values = tree first.value others.values;
          as_read = one_item t first.value (tree u more) others.values first.as_read others.as_read;
          are = items-more by (line ++ text o (suc depth) t) (items_text o depth true (tree u more)) first.value others.values one others.are;
        }

    members-written : (depth : ℕ) (key : List ℕ) (t : Tree) → is_utf8 key ≡ true → IsTreeText by o t (text o (suc depth) t) → (members : Pairs) →
        MembersWellFormed members → DecimalMembers (IsNumberBy by) members → RawMembers (IsTextBy by) members →
        IsMembersText by o (pair key t members) (members_text o depth true (pair key t members))
    members-written depth key t valid first no_pairs w d r =
        let line = new_line o (suc depth) in
        let gap = after_colon o.pretty in
        let value = text o (suc depth) t in
        let rest : List ℕ = new_line o depth ++ right_brace ∷ [] in
        let one = blank-one_value by gap value first.value (spaces-if o.pretty (space ∷ []) refl) first.one in
        let last = members-last by (quoted key) key [] (gap ++ value) (new_line o depth) first.value (quoted-one_string key valid) refl one
        (new_line-blank o depth blank) in
        record {
          values = pair key first.value no_pairs;
          as_read = one_member key t first.value no_pairs no_pairs first.as_read no_members;
          are =
              subst (λ l. AreMembers by l (pair key first.value no_pairs))
              (member-pieces line (quoted key) (colon_text o) gap value rest (colon_text-is o.pretty))
              (blank-members by line _ _ (new_line-blank o (suc depth) blank) last);
        }
    members-written depth key t valid first (pair name u more) w d r =
        let line = new_line o (suc depth) in
        let gap = after_colon o.pretty in
        let value = text o (suc depth) t in
        let one = blank-one_value by gap value first.value (spaces-if o.pretty (space ∷ []) refl) first.one in
        let others = members-written depth name u w.0 (tree-text (suc depth) u w.1 d.0 r.0) more w.2 d.1 r.1 in
        let rest : List ℕ = bytes.comma ∷ members_text o depth true (pair name u more) in
        let members = members-more by (quoted key) key [] (gap ++ value) (members_text o depth true (pair name u more)) first.value others.values
        (quoted-one_string key valid) refl one others.are in
        record {
          values = pair key first.value others.values;
          as_read = one_member key t first.value (pair name u more) others.values first.as_read others.as_read;
          are =
              subst (λ l. AreMembers by l (pair key first.value others.values))
              (member-pieces line (quoted key) (colon_text o) gap value rest (colon_text-is o.pretty))
              (blank-members by line _ _ (new_line-blank o (suc depth) blank) members);
        }

-- ---- whole texts

mutual
  unfolding DecimalParts

  -- What holds of each text holds of all decimals in a tree.
  all-decimals : (P : List ℕ → Type 0) → ((t : List ℕ) → P t) → (t : Tree) → DecimalParts P t
  all-decimals P h (trees.decimal t) = h t
  all-decimals P h (list items) = items-decimals P h items
  all-decimals P h (pairs members) = members-decimals P h members
  all-decimals P h null = tt
  all-decimals P h unit = tt
  all-decimals P h (bool b) = tt
  all-decimals P h (char c) = tt
  all-decimals P h (i64 n) = tt
  all-decimals P h (u64 n) = tt
  all-decimals P h (i128 n) = tt
  all-decimals P h (u128 n) = tt
  all-decimals P h (trees.text t) = tt
  all-decimals P h (trees.bytes b) = tt
  all-decimals P h (raw t) = tt

  items-decimals : (P : List ℕ → Type 0) → ((t : List ℕ) → P t) → (items : Trees) → DecimalItems P items
  items-decimals P h no_trees = tt
  items-decimals P h (tree t items) = (all-decimals P h t, items-decimals P h items)

  members-decimals : (P : List ℕ → Type 0) → ((t : List ℕ) → P t) → (members : Pairs) → DecimalMembers P members
  members-decimals P h no_pairs = tt
  members-decimals P h (pair key t members) = (all-decimals P h t, members-decimals P h members)

-- Where the indent is white space and each raw part is a document, the text of a tree is one document, which is read as the tree reads.
pub written_is_read : WrittenIsRead
written_is_read o t blank w r =
    let whole = tree-text lenient_rules o blank 0 t w (all-decimals (IsNumberBy lenient_rules) (λ t. tt) t) r in
    let document = one_value-document lenient_rules (text o 0 t) whole.value whole.one in
    record { root = document.root; value = whole.value; document = document.whole; as_read = whole.as_read }

-- The same tree is read whether or not the text is indented, and whatever the indent.
pub indent_is_not_read : IndentIsNotRead
indent_is_not_read o p t value other root node format blank_o blank_p w r first second =
    let a = written_is_read o t blank_o w r in
    let b = written_is_read p t blank_p w r in
    let as_read : ReadsAs o.bytes_format t b.value = rw format b.as_read in
    one_whole_document (text o 0 t) root a.root value a.value first a.document
    ∙ one_reading o.bytes_format t a.value b.value a.as_read as_read
    ∙ one_whole_document (text p 0 t) b.root node b.value other b.document second
