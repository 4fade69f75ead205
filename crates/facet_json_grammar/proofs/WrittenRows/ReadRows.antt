-- Single trees with what they read as, by computation.
-- In the texts of this file a quote stands after a backslash.
use Rattle.std.proofs.Common.{◌≡◌, ℕ, List, [], ◌∷◌, Some, pos, neg_ℤ, refl, codes}
use Rattle.std.specs.Char.{encode_utf8}
use Rattle.std.specs.Fmt.{digits}
use Rattle.facet_format.specs.Number.{unsigned}
use Rattle.facet_format.specs.NumberValue.{number}
use Rattle.facet_format.specs.NumberParts.{parts}
use Rattle.facet_format.specs.Span.{span_at}
use Rattle.facet_json_token.specs.Cut.{start_of, cut_here, cut}
use Rattle.facet_json_token.specs.GapLen.{gap_len_from}
use Rattle.facet_json_token.specs.Token as token
use Rattle.facet_json_token.specs.TokenList.{tokens_past}
use Rattle.facet_json_grammar.specs.Document.{IsWholeDocument}
use Rattle.facet_json_grammar.specs.Meaning.{tree_of}
use Rattle.facet_json_grammar.specs.Node.{Node, scalar}
use Rattle.facet_json_grammar.specs.Quoted.{escaped}
use Rattle.facet_json_grammar.specs.Text.{as_array, as_hex, default_options, text}
use Rattle.facet_json_grammar.specs.Tree.{Tree, null, unit, char, i64, u64, i128, u128, bytes, raw, list, pairs, no_trees, tree, no_pairs, pair}
use Rattle.facet_json_grammar.specs.Tree as trees
use Rattle.facet_json_grammar.proofs.Spelled.{node_within, spelled, whole_document}
use Rattle.facet_json_grammar.proofs.Spelling.SpelledIsSpells.{whole_document_is_found}
use Rattle.facet_json_grammar.specs.AsRead.{whole_number, ReadsAs, unit_is_null, char_is_text, i64_is_whole, u128_is_whole, bytes_are_read, raw_is_read, list_is_list, pairs_are_pairs, no_items, one_item, no_members, one_member}

-- Whole numbers within 64 bits stay numbers, a character is a text, the unit null, and bytes a list.
scalars_row : ReadsAs as_array
    (list
    (tree (i64 (neg_ℤ (pos 1)))
    (tree (i64 (pos 5))
    (tree (u128 18446744073709551616) (tree (char 0x78) (tree unit (tree (bytes (1 ∷ 255 ∷ [])) no_trees)))))))
    (list
    (tree (i64 (neg_ℤ (pos 1)))
    (tree (u64 5)
    (tree (trees.text (codes "18446744073709551616"))
    (tree (trees.text (codes "x")) (tree null (tree (list (tree (u64 1) (tree (u64 255) no_trees))) no_trees)))))))
unfolding encode_utf8 digits
scalars_row =
    list_is_list _ _
    (one_item _ _ _ _ (i64_is_whole (neg_ℤ (pos 1)))
    (one_item _ _ _ _ (i64_is_whole (pos 5))
    (one_item _ _ _ _ (u128_is_whole 18446744073709551616)
    (one_item _ _ _ _ (char_is_text 0x78)
    (one_item _ _ _ _ unit_is_null (one_item _ _ _ _ (bytes_are_read (1 ∷ 255 ∷ [])) no_items))))))

-- The least number of 64 bits stays one.
least_row : whole_number (neg_ℤ (pos 9223372036854775808)) ≡ i64 (neg_ℤ (pos 9223372036854775808))
least_row = refl

-- The next below is the text of its digits.
past_least_row : whole_number (neg_ℤ (pos 9223372036854775809)) ≡ trees.text (codes "-9223372036854775809")
unfolding digits
past_least_row = refl

-- Bytes that are written as hexadecimal digits are their text.
hexadecimal_row : ReadsAs (as_hex (Some 6) 2 2) (bytes (0 ∷ 255 ∷ [])) (trees.text (codes "0x00ff"))
hexadecimal_row = bytes_are_read (0 ∷ 255 ∷ [])

-- raw text with white space around it
abbrev one_spaced : List ℕ
one_spaced = codes " 1 "

abbrev one_node : Node
one_node = scalar (record { kind = token.number 1 2 unsigned; span = span_at 1 1 })

one_document : IsWholeDocument one_spaced one_node (u64 1)
unfolding whole_document spelled node_within tree_of tokens_past cut cut_here start_of gap_len_from parts number
one_document = (whole_document_is_found one_spaced one_node (u64 1)).0 refl

-- Raw text stays as it stands where it is written ..
raw_text_row : text default_options 0 (pairs (pair (codes "a") (raw one_spaced) no_pairs)) ≡ codes "{\"a\": 1 }"
unfolding text escaped
raw_text_row = refl

-- .. and is read as the document that it is.
raw_row : ReadsAs as_array (pairs (pair (codes "a") (raw one_spaced) no_pairs)) (pairs (pair (codes "a") (u64 1) no_pairs))
raw_row =
    pairs_are_pairs _ _
    (one_member (codes "a") _ _ _ _ (raw_is_read one_spaced one_node (u64 1) one_document) no_members)
