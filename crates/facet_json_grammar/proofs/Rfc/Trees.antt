-- What is written of a tree is a text of RFC 8259.
use Rattle.std.proofs.Common.{◌≡◌, ℕ, suc, Bool, true, false, List, ◌∷◌, ◌++◌, refl, arith, append_assoc, subst}
use Rattle.facet_format.specs.Bytes.{left_bracket, right_bracket, left_brace, right_brace, comma}
use Rattle.facet_json_grammar.specs.Quoted.{quoted}
use Rattle.facet_json_grammar.specs.Text.{Options, text, items_text, members_text, bool_text, new_line, colon_text}
use Rattle.facet_json_grammar.specs.Tree.{Tree, null, unit, bool, char, i64, u64, i128, u128, bytes, raw, list, pairs, Trees, no_trees, tree, Pairs, no_pairs, pair}
use Rattle.facet_json_grammar.specs.Tree as trees
use Rattle.facet_json_grammar.specs.AsRead.{WellFormed, ItemsWellFormed, MembersWellFormed, RawParts, RawItems, RawMembers, IsBlankIndent}
use Rattle.facet_json_grammar.specs.RfcText.{InUtf8, IsRfcValue, IsRfcText, number, string, literal_false, literal_null, literal_true}
use Rattle.facet_json_token.specs.RfcNumber.{IsRfcNumber}
use Rattle.facet_json_grammar.specs.RfcLaws.{DecimalParts, DecimalItems, DecimalMembers, WrittenIsRfc}
use Rattle.facet_json_grammar.proofs.Rfc.Structural.{with_spaces_before, with_spaces_after, colon-structural}
use Rattle.facet_json_grammar.proofs.Rfc.Encoded.{ascii, mapped, joined3}
use Rattle.facet_json_grammar.proofs.Rfc.Bytes.{value-bytes}
use Rattle.facet_json_grammar.proofs.Rfc.Numbers.{number-decimal, number-signed}
use Rattle.facet_json_grammar.proofs.Rfc.Strings.{quoted-character, quoted_is_rfc}
use Rattle.facet_json_grammar.proofs.Rfc.Values.{ItemsGoOn, items_end, items_go_on, array_of, no_items, MembersGoOn, members_end, members_go_on, object_of, no_members, member_of, value_text}
use Rattle.facet_json_grammar.proofs.Scalars.Spaces.{new_line-blank}

a_value : {cs : List ℕ} → InUtf8 IsRfcValue cs → InUtf8 IsRfcText cs
a_value v = mapped value_text v

a_number : {cs : List ℕ} → InUtf8 IsRfcNumber cs → InUtf8 IsRfcText cs
a_number n = mapped (λ cs is. value_text cs (number cs is)) n

bool_literal : (b : Bool) → InUtf8 IsRfcValue (bool_text b)
bool_literal true = ascii _ refl literal_true
bool_literal false = ascii _ refl literal_false

regrouped : (a b c d e : List ℕ) → a ++ (b ++ c ++ d) ++ e ≡ a ++ b ++ c ++ d ++ e
regrouped a b c d e = simp append_assoc

module _ (o : Options) (blank : IsBlankIndent o) where
  -- a new line in this text
  abbrev line : ℕ → List ℕ
  line depth = new_line o depth

  mutual
    unfolding text items_text members_text WellFormed ItemsWellFormed MembersWellFormed RawParts RawItems RawMembers DecimalParts DecimalItems DecimalMembers

    pub rfc-text : (depth : ℕ) (t : Tree) → WellFormed t → DecimalParts (InUtf8 IsRfcNumber) t → RawParts (InUtf8 IsRfcText) t →
        InUtf8 IsRfcText (text o depth t)
    rfc-text depth null w d r = a_value (ascii _ refl literal_null)
    rfc-text depth unit w d r = a_value (ascii _ refl literal_null)
    rfc-text depth (bool b) w d r = a_value (bool_literal b)
    rfc-text depth (char c) w d r = a_value (mapped string (quoted-character c w))
    rfc-text depth (i64 n) w d r = a_number (number-signed 63 n (omega arith) w)
    rfc-text depth (u64 n) w d r = a_number (number-decimal n (omega arith))
    rfc-text depth (i128 n) w d r = a_number (number-signed 127 n (omega arith) w)
    rfc-text depth (u128 n) w d r = a_number (number-decimal n (omega arith))
    rfc-text depth (trees.decimal t) w d r = a_number d
    rfc-text depth (trees.text t) w d r = a_value (mapped string (quoted_is_rfc t w))
    rfc-text depth (bytes b) w d r = a_value (value-bytes o.bytes_format b w)
    rfc-text depth (raw t) w d r = r
    rfc-text depth (list items) w d r = a_value (rfc-array depth items w d r)
    rfc-text depth (pairs members) w d r = a_value (rfc-object depth members w d r)

    rfc-array : (depth : ℕ) (items : Trees) → ItemsWellFormed items →
        DecimalItems (InUtf8 IsRfcNumber) items → RawItems (InUtf8 IsRfcText) items → InUtf8 IsRfcValue (left_bracket ∷ items_text o depth true items)
    rfc-array depth no_trees w d r = ascii _ refl no_items
    rfc-array depth (tree t others) w d r =
        joined3 array_of (with_spaces_after left_bracket (line (suc depth)) refl (new_line-blank o (suc depth) blank))
        (rfc-text (suc depth) t w.0 d.0 r.0) (rfc-items depth others w.1 d.1 r.1)

    rfc-items : (depth : ℕ) (items : Trees) → ItemsWellFormed items →
        DecimalItems (InUtf8 IsRfcNumber) items → RawItems (InUtf8 IsRfcText) items → InUtf8 ItemsGoOn (items_text o depth false items)
    rfc-items depth no_trees w d r = mapped items_end (with_spaces_before right_bracket (line depth) refl (new_line-blank o depth blank))
    rfc-items depth (tree t others) w d r =
        joined3 items_go_on (with_spaces_after comma (line (suc depth)) refl (new_line-blank o (suc depth) blank))
        (rfc-text (suc depth) t w.0 d.0 r.0) (rfc-items depth others w.1 d.1 r.1)

    rfc-object : (depth : ℕ) (members : Pairs) → MembersWellFormed members →
        DecimalMembers (InUtf8 IsRfcNumber) members → RawMembers (InUtf8 IsRfcText) members →
        InUtf8 IsRfcValue (left_brace ∷ members_text o depth true members)
    rfc-object depth no_pairs w d r = ascii _ refl no_members
    rfc-object depth (pair key t others) w d r =
        let start = with_spaces_after left_brace (line (suc depth)) refl (new_line-blank o (suc depth) blank) in
        let first = joined3 member_of (quoted_is_rfc key w.0) (colon-structural o) (rfc-text (suc depth) t w.1 d.0 r.0) in
        let rest = members_text o depth false others in
        subst (InUtf8 IsRfcValue) (regrouped (left_brace ∷ line (suc depth)) (quoted key) (colon_text o) (text o (suc depth) t) rest)
        (joined3 object_of start first (rfc-members depth others w.2 d.1 r.1))

    rfc-members : (depth : ℕ) (members : Pairs) → MembersWellFormed members →
        DecimalMembers (InUtf8 IsRfcNumber) members → RawMembers (InUtf8 IsRfcText) members →
        InUtf8 MembersGoOn (members_text o depth false members)
    rfc-members depth no_pairs w d r = mapped members_end (with_spaces_before right_brace (line depth) refl (new_line-blank o depth blank))
    rfc-members depth (pair key t others) w d r =
        let separator = with_spaces_after comma (line (suc depth)) refl (new_line-blank o (suc depth) blank) in
        let next = joined3 member_of (quoted_is_rfc key w.0) (colon-structural o) (rfc-text (suc depth) t w.1 d.0 r.0) in
        let rest = members_text o depth false others in
        subst (InUtf8 MembersGoOn) (regrouped (comma ∷ line (suc depth)) (quoted key) (colon_text o) (text o (suc depth) t) rest)
        (joined3 members_go_on separator next (rfc-members depth others w.2 d.1 r.1))

-- What is written of a tree is a text of RFC 8259.
pub written_is_rfc : WrittenIsRfc
written_is_rfc o t blank w d r = rfc-text o blank 0 t w d r
