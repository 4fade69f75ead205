-- A tree reads as one tree.
use Rattle.std.proofs.Common.{◌≡◌, ℕ, List, refl, ap, ap₂}
use Rattle.facet_json_token.specs.Gap.{plain}
use Rattle.facet_json_token.specs.Tokens.{ended}
use Rattle.facet_json_grammar.specs.Document.{IsDocument, IsWholeDocument}
use Rattle.facet_json_grammar.specs.Node.{Node}
use Rattle.facet_json_grammar.specs.Text.{BytesFormat}
use Rattle.facet_json_grammar.specs.Tree.{Tree, list, pairs, Trees, tree, Pairs, pair}
use Rattle.facet_json_grammar.proofs.Spelling.OneSpelling.{one_document}
use Rattle.facet_json_grammar.specs.AsRead.{null_is_null, unit_is_null, bool_is_itself, char_is_text, i64_is_whole, u64_is_whole, i128_is_whole, u128_is_whole, decimal_is_itself, text_is_itself, bytes_are_read, raw_is_read, list_is_list, pairs_are_pairs, ItemsReadAs, no_items, one_item, MembersReadAs, no_members, one_member}
use Rattle.facet_json_grammar.specs.ReadBack.{OneReading}

-- A whole document is a document.
whole-is_document : {buffer : List ℕ} {root : Node} {value : Tree} → IsWholeDocument buffer root value →
    IsDocument buffer plain root value
whole-is_document d = record { rest = ended; reads = d.reads }

-- A text is one whole document at most.
pub one_whole_document : (buffer : List ℕ) (a b : Node) (v w : Tree) → IsWholeDocument buffer a v → IsWholeDocument buffer b w →
    v ≡ w
one_whole_document buffer a b v w d e =
    (one_document buffer plain a b v w (whole-is_document d) (whole-is_document e)).1

mutual
  pub one_reading : OneReading
  one_reading format _ _ _ null_is_null null_is_null = refl
  one_reading format _ _ _ unit_is_null unit_is_null = refl
  one_reading format _ _ _ (bool_is_itself b) (bool_is_itself _) = refl
  one_reading format _ _ _ (char_is_text c) (char_is_text _) = refl
  one_reading format _ _ _ (i64_is_whole n) (i64_is_whole _) = refl
  one_reading format _ _ _ (u64_is_whole n) (u64_is_whole _) = refl
  one_reading format _ _ _ (i128_is_whole n) (i128_is_whole _) = refl
  one_reading format _ _ _ (u128_is_whole n) (u128_is_whole _) = refl
  one_reading format _ _ _ (decimal_is_itself t) (decimal_is_itself _) = refl
  one_reading format _ _ _ (text_is_itself t) (text_is_itself _) = refl
  one_reading format _ _ _ (bytes_are_read b) (bytes_are_read _) = refl
  one_reading format _ _ _ (raw_is_read t a v d) (raw_is_read _ b w e) = one_whole_document t a b v w d e
  one_reading format _ _ _ (list_is_list items values h) (list_is_list _ others g) =
      ap list (one_items format items values others h g)
  one_reading format _ _ _ (pairs_are_pairs members values h) (pairs_are_pairs _ others g) =
      ap pairs (one_members format members values others h g)

  one_items : (format : BytesFormat) (items values others : Trees) → ItemsReadAs format items values →
      ItemsReadAs format items others → values ≡ others
  one_items format _ _ _ no_items no_items = refl
  one_items format _ _ _ (one_item t value items values h hs) (one_item _ other _ others g gs) =
      ap₂ tree (one_reading format t value other h g) (one_items format items values others hs gs)

  one_members : (format : BytesFormat) (members values others : Pairs) → MembersReadAs format members values →
      MembersReadAs format members others → values ≡ others
  one_members format _ _ _ no_members no_members = refl
  one_members format _ _ _ (one_member key t value members values h hs) (one_member _ _ other _ others g gs) =
      ap₂ (pair key) (one_reading format t value other h g) (one_members format members values others hs gs)
