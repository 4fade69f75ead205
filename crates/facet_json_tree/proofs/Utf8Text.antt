-- The text of a tree is UTF-8, where the indent and the texts within the tree are.
use Rattle.std.proofs.Common.{◌≡◌, ℕ, suc, Bool, true, false, cond, List, [], ◌∷◌, ◌++◌, Some, None, codes, Result, Ok, Err, refl, sym, subst, arith}
use Rattle.std.specs.Prelude.{IsUtf8, IfOk}
use Rattle.std.specs.Char.{encode_utf8}
use Rattle.std.specs.Str.{is_utf8}
use Rattle.std.proofs.lemmas.Str.{IsUtf8-append, IsUtf8-encode, IsUtf8-from_is_utf8, is_utf8-from_IsUtf8}
use Rattle.facet_format.specs.Number.{float}
use Rattle.facet_format.specs.NumberValue.{Number, number, value_by}
use Rattle.facet_format.specs.NumberParts.{is_number, parts}
use Rattle.facet_format.specs.NumberValue as numbers
use Rattle.facet_format.proofs.NumberText.{number-IsUtf8}
use Rattle.facet_format.proofs.AsciiTexts.{ascii-before}
use Rattle.facet_json_grammar.specs.Quoted.{quoted}
use Rattle.facet_json_grammar.specs.Text.{Options, text, items_text, members_text, new_line, separator, line_at_end, colon_text}
use Rattle.facet_json_grammar.specs.Tree.{Tree, null, unit, bool, char, i64, u64, i128, u128, decimal, bytes, raw, list, pairs, Trees, no_trees, tree, Pairs, no_pairs, pair}
use Rattle.facet_json_grammar.specs.Tree as trees
use Rattle.facet_json_grammar.specs.AsRead.{WellFormed, ItemsWellFormed, MembersWellFormed, RawParts, RawItems, RawMembers}
use Rattle.facet_json_tree.specs.Write.{IsOfRust}
use Rattle.facet_json_tree.proofs.Utf8Parts.{ascii-IsUtf8, decimal-IsUtf8, signed-IsUtf8, quoted-IsUtf8, bytes-IsUtf8, new_line-IsUtf8, separator-IsUtf8, line_at_end-IsUtf8, colon-IsUtf8, bool-IsUtf8}

-- a text with a value is a number
pub valued-is_number : (t : List ℕ) (value : Number) → number t float ≡ Some value → is_number t float ≡ true
unfolding number
valued-is_number t value e = by (is_number t float) e
  where
    by : (b : Bool) → cond b (value_by float (parts t) t) None ≡ Some value → b ≡ true
    by true _ = refl
    by false none = absurd (cc)

abbrev IsText : List ℕ → Type 0
IsText t = is_utf8 t ≡ true

mutual
  unfolding text items_text members_text WellFormed ItemsWellFormed MembersWellFormed RawParts RawItems RawMembers

  text-utf8 : (o : Options) (depth : ℕ) (t : Tree) → IsUtf8 o.indent → WellFormed t → RawParts IsText t → IsUtf8 (text o depth t)
  text-utf8 o depth null indent well texts = ascii-IsUtf8 (codes "null") refl
  text-utf8 o depth unit indent well texts = ascii-IsUtf8 (codes "null") refl
  text-utf8 o depth (bool b) indent well texts = bool-IsUtf8 b
  text-utf8 o depth (char c) indent well texts = quoted-IsUtf8 (encode_utf8 c) (IsUtf8-encode c well)
  text-utf8 o depth (i64 n) indent well texts = signed-IsUtf8 n
  text-utf8 o depth (u64 n) indent well texts = decimal-IsUtf8 n
  text-utf8 o depth (i128 n) indent well texts = signed-IsUtf8 n
  text-utf8 o depth (u128 n) indent well texts = decimal-IsUtf8 n
  text-utf8 o depth (decimal t) indent well texts = number-IsUtf8 t float (valued-is_number t (numbers.decimal t) well)
  text-utf8 o depth (trees.text t) indent well texts = quoted-IsUtf8 t (IsUtf8-from_is_utf8 t well)
  text-utf8 o depth (bytes b) indent well texts = bytes-IsUtf8 o.bytes_format b well
  text-utf8 o depth (raw t) indent well texts = IsUtf8-from_is_utf8 t texts
  text-utf8 o depth (list items) indent well texts = ascii-before 91 _ (omega arith) (items-utf8 o depth true items indent well texts)
  text-utf8 o depth (pairs members) indent well texts = ascii-before 123 _ (omega arith) (members-utf8 o depth true members indent well texts)

  items-utf8 : (o : Options) (depth : ℕ) (first : Bool) (items : Trees) → IsUtf8 o.indent → ItemsWellFormed items → RawItems IsText items
      → IsUtf8 (items_text o depth first items)
  items-utf8 o depth first no_trees indent well texts =
      IsUtf8-append (line_at_end o depth first) (93 ∷ []) (line_at_end-IsUtf8 o depth first indent) (ascii-IsUtf8 (93 ∷ []) refl)
  items-utf8 o depth first (tree t others) indent well texts =
      let before = IsUtf8-append (separator first) (new_line o (suc depth)) (separator-IsUtf8 first) (new_line-IsUtf8 o (suc depth) indent) in
      let item = IsUtf8-append (separator first ++ new_line o (suc depth)) (text o (suc depth) t) before
      (text-utf8 o (suc depth) t indent well.0 texts.0) in
      IsUtf8-append _ _ item (items-utf8 o depth false others indent well.1 texts.1)

  members-utf8 : (o : Options) (depth : ℕ) (first : Bool) (members : Pairs) → IsUtf8 o.indent → MembersWellFormed members
      → RawMembers IsText members → IsUtf8 (members_text o depth first members)
  members-utf8 o depth first no_pairs indent well texts =
      IsUtf8-append (line_at_end o depth first) (125 ∷ []) (line_at_end-IsUtf8 o depth first indent) (ascii-IsUtf8 (125 ∷ []) refl)
  members-utf8 o depth first (pair key t others) indent well texts =
      let before = IsUtf8-append (separator first) (new_line o (suc depth)) (separator-IsUtf8 first) (new_line-IsUtf8 o (suc depth) indent) in
      let name = IsUtf8-append (separator first ++ new_line o (suc depth)) (quoted key) before
      (quoted-IsUtf8 key (IsUtf8-from_is_utf8 key well.0)) in
      let named = IsUtf8-append (separator first ++ new_line o (suc depth) ++ quoted key) (colon_text o) name (colon-IsUtf8 o) in
      let value = IsUtf8-append (separator first ++ new_line o (suc depth) ++ quoted key ++ colon_text o) (text o (suc depth) t) named
      (text-utf8 o (suc depth) t indent well.1 texts.0) in
      IsUtf8-append _ _ value (members-utf8 o depth false others indent well.2 texts.1)

-- The text of a tree that Rust holds is UTF-8.
text-IsUtf8 : (o : Options) (t : Tree) → IsUtf8 o.indent → IsOfRust t → IsUtf8 (text o 0 t)
text-IsUtf8 o t indent h = text-utf8 o 0 t indent h.0 h.1

-- The same of a text that is answered.
pub answered-utf8 : {V E : Type 0} (items : V → List ℕ) (r : Result V E) (o : Options) (t : Tree) → IsUtf8 o.indent → IsOfRust t
    → IfOk r (λ v. items v ≡ text o 0 t) → IfOk r (λ v. is_utf8 (items v) ≡ true)
answered-utf8 items (Ok v) o t indent h is = is_utf8-from_IsUtf8 (items v) (subst IsUtf8 (sym is) (text-IsUtf8 o t indent h))
answered-utf8 items (Err e) o t indent h is = tt
