-- Single trees with their text, compact and indented, by computation.
-- In the texts of this file a quote or a backslash stands after a backslash of its own.
use Rattle.std.proofs.Common.{◌≡◌, ℕ, true, false, List, [], ◌∷◌, ◌++◌, Some, pos, neg_ℤ, refl, codes}
use Rattle.std.specs.Char.{encode_utf8}
use Rattle.std.specs.Fmt.{digits}
use Rattle.facet_format.specs.Bytes.{line_feed, delete}
use Rattle.facet_json_grammar.specs.Quoted.{escaped}
use Rattle.facet_json_grammar.specs.Tree.{Tree, unit, char, i64, u64, u128, decimal, text as text_value, bytes, list, pairs, no_trees, tree, no_pairs, pair}
use Rattle.facet_json_grammar.specs.Text.{as_array, as_hex, Options, default_options, text}

-- indented by two spaces
abbrev pretty : Options
pretty = record { pretty = true; indent = codes "  "; bytes_format = as_array }

-- compact, with bytes as hexadecimal digits: of more than six, this many at either end
abbrev hexadecimal : ℕ → ℕ → Options
hexadecimal head tail =
    record { pretty = false; indent = []; bytes_format = as_hex (Some 6) head tail }

-- lines, with a line feed between each and the next
abbrev lines : List (List ℕ) → List ℕ
lines [] = []
lines (l ∷ []) = l
lines (l ∷ m ∷ more) = l ++ line_feed ∷ lines (m ∷ more)

-- the bytes 0 to 9
abbrev ten_bytes : List ℕ
ten_bytes = 0 ∷ 1 ∷ 2 ∷ 3 ∷ 4 ∷ 5 ∷ 6 ∷ 7 ∷ 8 ∷ 9 ∷ []

-- Empty containers stay on their line, and so do bytes.
empty_containers_row :
    text pretty 0 (list (tree (list no_trees) (tree (pairs no_pairs) (tree (bytes (0 ∷ 127 ∷ [])) no_trees))))
    ≡ lines (codes "[" ∷ codes "  []," ∷ codes "  {}," ∷ codes "  [0,127]" ∷ codes "]" ∷ [])
unfolding text escaped encode_utf8 digits
empty_containers_row = refl

-- Of many bytes the first and the last stand, with the number of the others.
shortened_row : text (hexadecimal 2 2) 0 (bytes ten_bytes) ≡ codes "\"0x0001..<6 bytes>..0809\""
unfolding text digits
shortened_row = refl

-- Where the first are all, none is left for the end.
nothing_left_out_row : text (hexadecimal 32 32) 0 (bytes ten_bytes) ≡ codes "\"0x00010203040506070809..<0 bytes>..\""
unfolding text digits
nothing_left_out_row = refl

-- At the limit all stand.
at_the_limit_row : text (hexadecimal 2 2) 0 (bytes (1 ∷ 2 ∷ 3 ∷ 4 ∷ 5 ∷ 255 ∷ [])) ≡ codes "\"0x0102030405ff\""
unfolding text digits
at_the_limit_row = refl

-- Scalars, compact.
scalars_row :
    text default_options 0
    (list
    (tree (i64 (neg_ℤ (pos 1)))
    (tree (i64 (pos 5))
    (tree (u128 18446744073709551616) (tree (char 0x78) (tree unit (tree (bytes (1 ∷ 255 ∷ [])) no_trees)))))))
    ≡ codes "[-1,5,18446744073709551616,\"x\",null,[1,255]]"
unfolding text escaped encode_utf8 digits
scalars_row = refl

-- Members, indented.
members_row :
    text pretty 0
    (pairs (pair (codes "a") (list no_trees) (pair (codes "b") (list (tree (u64 1) no_trees)) no_pairs)))
    ≡ lines
    (codes "{" ∷ codes "  \"a\": []," ∷ codes "  \"b\": [" ∷ codes "    1" ∷ codes "  ]" ∷ codes "}" ∷ [])
unfolding text escaped encode_utf8 digits
members_row = refl

-- one member, whose value is a number
abbrev numbered : ℕ → Tree
numbered n = pairs (pair (codes "Number") (u64 n) no_pairs)

-- Containers within containers, indented.
nested_row :
    text pretty 0
    (pairs
    (pair (codes "List") (list (tree (numbered 10) (tree (numbered 20) (tree (numbered 30) no_trees)))) no_pairs))
    ≡ lines
    (codes "{"
    ∷ codes "  \"List\": ["
    ∷ codes "    {"
    ∷ codes "      \"Number\": 10"
    ∷ codes "    },"
    ∷ codes "    {"
    ∷ codes "      \"Number\": 20"
    ∷ codes "    },"
    ∷ codes "    {"
    ∷ codes "      \"Number\": 30"
    ∷ codes "    }"
    ∷ codes "  ]"
    ∷ codes "}"
    ∷ [])
unfolding text escaped encode_utf8 digits
nested_row = refl

-- An escape after a run of letters.
escape_after_run_row :
    text default_options 0 (text_value (codes "aaaaaaaaaaaaaaa" ++ delete ∷ [])) ≡ codes "\"aaaaaaaaaaaaaaa\\u007f\""
unfolding text escaped
escape_after_run_row = refl

-- Decimals as they stand.
decimals_row :
    text default_options 0 (list (tree (decimal (codes "1.")) (tree (decimal (codes "-.5")) no_trees)))
    ≡ codes "[1.,-.5]"
unfolding text digits
decimals_row = refl
