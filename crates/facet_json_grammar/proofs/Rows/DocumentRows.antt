-- Documents by computation: small inputs, and the tree of each, or none.
use Rattle.std.proofs.Common.{◌≡◌, ℕ, true, List, [], ◌∷◌, Option, Some, None, refl, ap, codes}
use Rattle.std.specs.Prelude.{pos, neg_ℤ}
use Rattle.std.specs.Fmt.{digits}
use Rattle.std.specs.Option.{option_map}
use lib.Utf8.{encode}
use Rattle.facet_format.specs.Bytes.{quote, backslash, lower_u}
use Rattle.facet_json_token.specs.Gap.{Mode, plain, jsonc}
use Rattle.facet_json_token.specs.GapLen.{gap_len_from}
use Rattle.facet_format.specs.NumberValue.{number}
use Rattle.facet_format.specs.NumberParts.{parts}
use Rattle.facet_json_token.specs.Cut.{start_of, cut_here, cut}
use Rattle.facet_json_token.specs.TokenList.{tokens_past}
use Rattle.facet_json_token.specs.Decode.{short_escape, code_unit}
use Rattle.facet_json_token.specs.Decoded.{utf8_at, unit_at, escape_at, piece_at, decoded_past}
use Rattle.facet_json_grammar.specs.Node.{Node}
use Rattle.facet_json_grammar.specs.Document.{IsDocument, IsWholeDocument}
use Rattle.facet_json_grammar.specs.Tree.{Tree, null, bool, u64, i64, text, decimal, list, pairs, no_trees, tree, no_pairs, pair}
use Rattle.facet_json_grammar.specs.Meaning.{tree_of}
use Rattle.facet_json_grammar.proofs.Spelled.{node_within, spelled, document, whole_document, read_by}
use Rattle.facet_json_grammar.proofs.Spelling.SpelledIsSpells.{document_is_found, whole_document_is_found}

-- the tree of the input's document, computed
abbrev read : List ℕ → Mode → Option Tree
read input mode = option_map (λ d. d.1) (document input mode)

-- The input has a document with this tree.
abbrev HasTree : List ℕ → Mode → Tree → Type 0
HasTree input mode value = (root : Node) × IsDocument input mode root value

-- The input has no document.
abbrev HasNone : List ℕ → Mode → Type 0
HasNone input mode = (root : Node) (value : Tree) → IsDocument input mode root value → ⊥

tree-found : (o : Option (Node × Tree)) (value : Tree) → option_map (λ d. d.1) o ≡ Some value →
    (root : Node) × (o ≡ Some (root, value))
tree-found None value e = cc
tree-found (Some (root, v)) value e =
    let same : v ≡ value = cc in
    (root, ap (λ x. Some (root, x)) same)

none-found : (o : Option (Node × Tree)) (root : Node) (value : Tree) → option_map (λ d. d.1) o ≡ None →
    o ≡ Some (root, value) → ⊥
none-found o root value e f = cc

-- What is computed is the document's tree.
has_tree : (input : List ℕ) (mode : Mode) (value : Tree) → read input mode ≡ Some value → HasTree input mode value
has_tree input mode value e =
    let found = tree-found (document input mode) value e in
    (found.0, (document_is_found input mode found.0 value).0 found.1)

-- Where nothing is computed there is no document.
has_none : (input : List ℕ) (mode : Mode) → read input mode ≡ None → HasNone input mode
has_none input mode e root value d =
    none-found (document input mode) root value e ((document_is_found input mode root value).1 d)

-- how a backslash is written in the rows
backslash_row : codes "\"\\u" ≡ quote ∷ backslash ∷ lower_u ∷ []
backslash_row = refl

-- A number is a document.
lone_number_row : HasTree (codes "1") plain (u64 1)
unfolding read_by spelled node_within tree_of tokens_past cut cut_here start_of gap_len_from parts number
lone_number_row = has_tree _ _ _ refl

-- White space around a value is nothing.
space_around_row : HasTree (codes " null ") plain null
unfolding read_by spelled node_within tree_of tokens_past cut cut_here start_of gap_len_from parts number
space_around_row = has_tree _ _ _ refl

-- An empty input has no document.
nothing_row : HasNone (codes "") plain
unfolding read_by spelled node_within tree_of tokens_past cut cut_here start_of gap_len_from parts number
nothing_row = has_none _ _ refl

-- White space alone has none.
only_space_row : HasNone (codes " ") plain
unfolding read_by spelled node_within tree_of tokens_past cut cut_here start_of gap_len_from parts number
only_space_row = has_none _ _ refl

-- What follows a value is not looked at.
what_follows_row : HasTree (codes "1 x") plain (u64 1)
unfolding read_by spelled node_within tree_of tokens_past cut cut_here start_of gap_len_from parts number
what_follows_row = has_tree _ _ _ refl

-- Not even after its last letter.
letters_after_row : HasTree (codes "truex") plain (bool true)
unfolding read_by spelled node_within tree_of tokens_past cut cut_here start_of gap_len_from parts number
letters_after_row = has_tree _ _ _ refl

-- Inside of a list it is.
letters_inside_row : HasNone (codes "[truex]") plain
unfolding read_by spelled node_within tree_of tokens_past cut cut_here start_of gap_len_from parts number
letters_inside_row = has_none _ _ refl

-- A list may be empty.
empty_list_row : HasTree (codes "[]") plain (list no_trees)
unfolding read_by spelled node_within tree_of tokens_past cut cut_here start_of gap_len_from parts number
empty_list_row = has_tree _ _ _ refl

-- Items are separated by commas.
two_items_row : HasTree (codes "[1,2]") plain (list (tree (u64 1) (tree (u64 2) no_trees)))
unfolding read_by spelled node_within tree_of tokens_past cut cut_here start_of gap_len_from parts number
two_items_row = has_tree _ _ _ refl

-- One comma may follow the last item.
trailing_comma_row : HasTree (codes "[1,]") plain (list (tree (u64 1) no_trees))
unfolding read_by spelled node_within tree_of tokens_past cut cut_here start_of gap_len_from parts number
trailing_comma_row = has_tree _ _ _ refl

-- A comma alone may not stand.
comma_alone_row : HasNone (codes "[,]") plain
unfolding read_by spelled node_within tree_of tokens_past cut cut_here start_of gap_len_from parts number
comma_alone_row = has_none _ _ refl

-- Nor may two.
two_commas_row : HasNone (codes "[1,,]") plain
unfolding read_by spelled node_within tree_of tokens_past cut cut_here start_of gap_len_from parts number
two_commas_row = has_none _ _ refl

-- Without a comma there is no second item.
no_comma_row : HasNone (codes "[1 2]") plain
unfolding read_by spelled node_within tree_of tokens_past cut cut_here start_of gap_len_from parts number
no_comma_row = has_none _ _ refl

-- A list is closed.
unclosed_row : HasNone (codes "[1") plain
unfolding read_by spelled node_within tree_of tokens_past cut cut_here start_of gap_len_from parts number
unclosed_row = has_none _ _ refl

-- By its own bracket.
wrong_bracket_row : HasNone (codes "[1}") plain
unfolding read_by spelled node_within tree_of tokens_past cut cut_here start_of gap_len_from parts number
wrong_bracket_row = has_none _ _ refl

-- Lists and objects stand in one another.
inside_row : HasTree (codes "[{},[1]]") plain (list (tree (pairs no_pairs) (tree (list (tree (u64 1) no_trees)) no_trees)))
unfolding read_by spelled node_within tree_of tokens_past cut cut_here start_of gap_len_from parts number
inside_row = has_tree _ _ _ refl

-- One comma may follow the last member.
comma_in_object_row : HasTree (codes "{\"a\":1,}") plain (pairs (pair (codes "a") (u64 1) no_pairs))
unfolding read_by spelled node_within tree_of tokens_past cut cut_here start_of gap_len_from parts number decoded_past piece_at utf8_at escape_at unit_at code_unit short_escape encode
comma_in_object_row = has_tree _ _ _ refl

-- A key has a value.
key_alone_row : HasNone (codes "{\"a\"}") plain
unfolding read_by spelled node_within tree_of tokens_past cut cut_here start_of gap_len_from parts number decoded_past piece_at utf8_at escape_at unit_at code_unit short_escape encode
key_alone_row = has_none _ _ refl

-- A key is a string.
number_as_key_row : HasNone (codes "{1:1}") plain
unfolding read_by spelled node_within tree_of tokens_past cut cut_here start_of gap_len_from parts number decoded_past piece_at utf8_at escape_at unit_at code_unit short_escape encode
number_as_key_row = has_none _ _ refl

-- Members with one key all stay.
same_keys_row : HasTree (codes "{\"a\":1,\"a\":2}") plain (pairs (pair (codes "a") (u64 1) (pair (codes "a") (u64 2) no_pairs)))
unfolding read_by spelled node_within tree_of tokens_past cut cut_here start_of gap_len_from parts number decoded_past piece_at utf8_at escape_at unit_at code_unit short_escape encode
same_keys_row = has_tree _ _ _ refl

-- In JSONC mode a comment is a gap.
comment_row : HasTree (codes "[1, /*c*/ 2]") jsonc (list (tree (u64 1) (tree (u64 2) no_trees)))
unfolding read_by spelled node_within tree_of tokens_past cut cut_here start_of gap_len_from parts number
comment_row = has_tree _ _ _ refl

-- In plain mode it is a fault.
comment_in_plain_row : HasNone (codes "[1, /*c*/ 2]") plain
unfolding read_by spelled node_within tree_of tokens_past cut cut_here start_of gap_len_from parts number
comment_in_plain_row = has_none _ _ refl

-- A comment may end with the input.
line_comment_row : HasTree (codes "1 // c") jsonc (u64 1)
unfolding read_by spelled node_within tree_of tokens_past cut cut_here start_of gap_len_from parts number
line_comment_row = has_tree _ _ _ refl

-- An escape stands for its character.
escape_row : HasTree (codes "[\"\\n\"]") plain (list (tree (text (10 ∷ [])) no_trees))
unfolding read_by spelled node_within tree_of tokens_past cut cut_here start_of gap_len_from parts number decoded_past piece_at utf8_at escape_at unit_at code_unit short_escape encode
escape_row = has_tree _ _ _ refl

-- A surrogate alone stands for none.
lone_surrogate_row : HasNone (codes "[\"\\ud800\"]") plain
unfolding read_by spelled node_within tree_of tokens_past cut cut_here start_of gap_len_from parts number decoded_past piece_at utf8_at escape_at unit_at code_unit short_escape encode
lone_surrogate_row = has_none _ _ refl

-- Two make one character.
surrogate_pair_row : HasTree (codes "\"\\ud83d\\ude00\"") plain (text (0xf0 ∷ 0x9f ∷ 0x98 ∷ 0x80 ∷ []))
unfolding read_by spelled node_within tree_of tokens_past cut cut_here start_of gap_len_from parts number decoded_past piece_at utf8_at escape_at unit_at code_unit short_escape encode
surrogate_pair_row = has_tree _ _ _ refl

-- Leading zeros may stand.
leading_zeros_row : HasTree (codes "[007,-1,1.]") plain (list (tree (u64 7) (tree (i64 (neg_ℤ (pos 1))) (tree (decimal (codes "1.")) no_trees))))
unfolding read_by spelled node_within tree_of tokens_past cut cut_here start_of gap_len_from parts number
leading_zeros_row = has_tree _ _ _ refl

-- A whole number past 64 bits is the text of its digits.
wide_row : HasTree (codes "0018446744073709551616") plain (text (codes "18446744073709551616"))
unfolding read_by spelled node_within tree_of tokens_past cut cut_here start_of gap_len_from parts number digits
wide_row = has_tree _ _ _ refl

-- Its minus stays.
negative_wide_row : HasTree (codes "-9223372036854775809") plain (text (codes "-9223372036854775809"))
unfolding read_by spelled node_within tree_of tokens_past cut cut_here start_of gap_len_from parts number digits
negative_wide_row = has_tree _ _ _ refl

-- Minus zero is zero.
minus_zero_row : HasTree (codes "-0") plain (i64 (pos 0))
unfolding read_by spelled node_within tree_of tokens_past cut cut_here start_of gap_len_from parts number
minus_zero_row = has_tree _ _ _ refl

-- No number lies past 128 bits.
past_128_bits_row : HasNone (codes "340282366920938463463374607431768211456") plain
unfolding read_by spelled node_within tree_of tokens_past cut cut_here start_of gap_len_from parts number
past_128_bits_row = has_none _ _ refl

-- the tree of the plain document that all of the input is, computed
abbrev read_whole : List ℕ → Option Tree
read_whole input = option_map (λ d. d.1) (whole_document input)

-- All of the input is a plain document with this tree.
abbrev IsWhole : List ℕ → Tree → Type 0
IsWhole input value = (root : Node) × IsWholeDocument input root value

-- It is none.
abbrev IsNotWhole : List ℕ → Type 0
IsNotWhole input = (root : Node) (value : Tree) → IsWholeDocument input root value → ⊥

is_whole : (input : List ℕ) (value : Tree) → read_whole input ≡ Some value → IsWhole input value
is_whole input value e =
    let found = tree-found (whole_document input) value e in
    (found.0, (whole_document_is_found input found.0 value).0 found.1)

is_not_whole : (input : List ℕ) → read_whole input ≡ None → IsNotWhole input
is_not_whole input e root value d =
    none-found (whole_document input) root value e ((whole_document_is_found input root value).1 d)

-- White space may stand around a document that is all of the input.
whole_row : IsWhole (codes " [1] ") (list (tree (u64 1) no_trees))
unfolding whole_document spelled node_within tree_of tokens_past cut cut_here start_of gap_len_from parts number
whole_row = is_whole _ _ refl

-- Nothing else may follow it.
not_whole_row : IsNotWhole (codes "[1] x")
unfolding whole_document spelled node_within tree_of tokens_past cut cut_here start_of gap_len_from parts number
not_whole_row = is_not_whole _ refl

-- Nor a second document.
two_documents_row : IsNotWhole (codes "1 2")
unfolding whole_document spelled node_within tree_of tokens_past cut cut_here start_of gap_len_from parts number
two_documents_row = is_not_whole _ refl

-- One comma may follow its last item.
whole_comma_row : IsWhole (codes "[1,]") (list (tree (u64 1) no_trees))
unfolding whole_document spelled node_within tree_of tokens_past cut cut_here start_of gap_len_from parts number
whole_comma_row = is_whole _ _ refl

-- An empty input is none.
nothing_whole_row : IsNotWhole (codes "")
unfolding whole_document spelled node_within tree_of tokens_past cut cut_here start_of gap_len_from parts number
nothing_whole_row = is_not_whole _ refl
