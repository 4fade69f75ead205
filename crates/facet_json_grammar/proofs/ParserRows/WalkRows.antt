-- Walks by computation: small inputs, and the events of each, with what is read after them.
use Rattle.std.proofs.Common.{◌≡◌, ℕ, true, List, [], ◌∷◌, Option, Some, refl, codes}
use Rattle.std.specs.Prelude.{ℕ, List, pos, neg_ℤ}
use Rattle.std.specs.Option.{option_map}
use Rattle.std.specs.Fmt.{digits}
use lib.Utf8.{encode}
use Rattle.facet_json_token.specs.Gap.{Mode, plain, jsonc}
use Rattle.facet_json_token.specs.GapLen.{gap_len_from}
use Rattle.facet_format.specs.NumberValue.{number}
use Rattle.facet_format.specs.NumberParts.{parts}
use Rattle.facet_json_token.specs.Cut.{start_of, cut_here, cut}
use Rattle.facet_format.specs.Span.{span_at}
use Rattle.facet_json_token.specs.Tokens.{Tokens}
use Rattle.facet_json_token.specs.TokenList.{tokens_past}
use Rattle.facet_json_token.specs.Tokens as tokens
use Rattle.facet_json_token.specs.Token as token
use Rattle.facet_json_token.specs.Decode.{short_escape, code_unit}
use Rattle.facet_json_token.specs.Decoded.{utf8_at, unit_at, escape_at, piece_at, decoded_past}
use Rattle.facet_json_grammar.specs.Meaning.{tree_of}
use Rattle.facet_json_grammar.proofs.Spelled.{node_within, spelled, document, read_by}
use Rattle.facet_format.specs.Event.{EventKind, Passed, object, array, borrowed, owned, struct_start, struct_end, sequence_start, sequence_end, field_key, scalar, null, bool, i64, u64, decimal, text}
use Rattle.facet_json_grammar.specs.Walk.{walk}
use Rattle.facet_json_grammar.specs.Place as place
use Rattle.facet_json_grammar.specs.Future.{Future, gives, finished, stuck, reads_by}
use Rattle.facet_json_grammar.specs.Now.{future_of, fresh}

-- the walk of the input's document
abbrev walk_of : List ℕ → Mode → Option (List Passed)
walk_of input mode = option_map (λ d. walk input d.0) (document input mode)

-- an event of one token, with its offset and length
abbrev at : EventKind → ℕ → ℕ → Passed
at kind offset len = record { event = record { kind = kind; span = span_at offset len }; last = span_at offset len }

-- a key, with the offset of its colon
abbrev key : List ℕ → ℕ → ℕ → ℕ → Passed
key name offset len mark = record { event = record { kind = field_key (borrowed name); span = span_at offset len }; last = span_at mark 1 }

-- what a fresh parser gives out
abbrev given : List ℕ → Mode → Future
given input mode = future_of (fresh input mode)

-- A number alone.
lone_number_row : walk_of (codes "1") plain ≡ Some (at (scalar (u64 1)) 0 1 ∷ [])
unfolding read_by spelled node_within tree_of tokens_past cut cut_here start_of gap_len_from parts number walk
lone_number_row = refl

-- A comma gives no event, nor does one after the last item.
trailing_comma_row : walk_of (codes "[1,]") plain ≡ Some (at (sequence_start array) 0 1 ∷ at (scalar (u64 1)) 1 1 ∷ at sequence_end 3 1 ∷ [])
unfolding read_by spelled node_within tree_of tokens_past cut cut_here start_of gap_len_from parts number walk
trailing_comma_row = refl

-- A key's last token is its colon.
member_row : walk_of (codes "{\"a\":1,}") plain ≡ Some (at (struct_start object) 0 1 ∷ key (codes "a") 1 3 4 ∷ at (scalar (u64 1)) 5 1 ∷ at struct_end 7 1 ∷ [])
unfolding read_by spelled node_within tree_of tokens_past cut cut_here start_of gap_len_from parts number decoded_past piece_at utf8_at escape_at unit_at code_unit short_escape encode walk
member_row = refl

-- Containers in one another.
inside_row : walk_of (codes "[{},[]]") plain ≡ Some (at (sequence_start array) 0 1 ∷ at (struct_start object) 1 1 ∷ at struct_end 2 1 ∷ at (sequence_start array) 4 1 ∷ at sequence_end 5 1 ∷ at sequence_end 6 1 ∷ [])
unfolding read_by spelled node_within tree_of tokens_past cut cut_here start_of gap_len_from parts number walk
inside_row = refl

-- A text without escapes is borrowed, one with escapes is made.
texts_row : walk_of (codes "[\"a\",\"\\n\"]") plain ≡ Some (at (sequence_start array) 0 1 ∷ at (scalar (text (borrowed (codes "a")))) 1 3 ∷ at (scalar (text (owned (10 ∷ [])))) 5 4 ∷ at sequence_end 9 1 ∷ [])
unfolding read_by spelled node_within tree_of tokens_past cut cut_here start_of gap_len_from parts number decoded_past piece_at utf8_at escape_at unit_at code_unit short_escape encode walk
texts_row = refl

-- A whole number past 64 bits is the text of its digits.
wide_number_row : walk_of (codes "018446744073709551616") plain ≡ Some (at (scalar (text (owned (codes "18446744073709551616")))) 0 21 ∷ [])
unfolding read_by spelled node_within tree_of tokens_past cut cut_here start_of gap_len_from parts number digits walk
wide_number_row = refl

-- Other numbers and literals.
scalars_row : walk_of (codes "[-1,1.,null,true]") plain ≡ Some (at (sequence_start array) 0 1 ∷ at (scalar (i64 (neg_ℤ (pos 1)))) 1 2 ∷ at (scalar (decimal (borrowed (codes "1.")))) 4 2 ∷ at (scalar null) 7 4 ∷ at (scalar (bool true)) 12 4 ∷ at sequence_end 16 1 ∷ [])
unfolding read_by spelled node_within tree_of tokens_past cut cut_here start_of gap_len_from parts number walk
scalars_row = refl

-- ---- what is given out

-- The events of the document, and then the end, whatever follows.
finished_row : given (codes "[1,] x") plain ≡ gives (at (sequence_start array) 0 1) (gives (at (scalar (u64 1)) 1 1) (gives (at sequence_end 3 1) finished))
unfolding reads_by tokens_past cut cut_here start_of gap_len_from parts number
finished_row = refl

-- In JSONC mode a comment may stand between a key and its colon.
comment_row : given (codes "{\"a\"/**/:1}") jsonc ≡ gives (at (struct_start object) 0 1) (gives (key (codes "a") 1 3 8) (gives (at (scalar (u64 1)) 9 1) (gives (at struct_end 10 1) finished)))
unfolding reads_by tokens_past cut cut_here start_of gap_len_from parts number decoded_past piece_at utf8_at escape_at unit_at code_unit short_escape encode
comment_row = refl

-- An input may end within a list.
ended_row : given (codes "[1") plain ≡ gives (at (sequence_start array) 0 1) (gives (at (scalar (u64 1)) 1 1) (stuck place.after_item tokens.ended))
unfolding reads_by tokens_past cut cut_here start_of gap_len_from parts number
ended_row = refl

-- A key without its colon gives no event.
key_alone_row : given (codes "{\"a\"") plain ≡ gives (at (struct_start object) 0 1) (stuck place.after_key tokens.ended)
unfolding reads_by tokens_past cut cut_here start_of gap_len_from parts number decoded_past piece_at utf8_at escape_at unit_at code_unit short_escape encode
key_alone_row = refl

-- what is left of a list's first comma, where nothing else follows it
abbrev comma_at : ℕ → Tokens → Tokens
comma_at offset rest = tokens.next (record { kind = token.comma; span = span_at offset 1 }) rest

-- A comma alone is no item, and it is no end of the list.
comma_alone_row : given (codes "[,]") plain ≡ gives (at (sequence_start array) 0 1) (stuck place.before_item (comma_at 1 (tokens.next (record { kind = token.array_end; span = span_at 2 1 }) tokens.ended)))
unfolding reads_by tokens_past cut cut_here start_of gap_len_from parts number
comma_alone_row = refl

-- A string without a text is stuck, whatever may stand there.
meaningless_row : given (codes "[1 \"\\ud800\"") plain ≡ gives (at (sequence_start array) 0 1) (gives (at (scalar (u64 1)) 1 1) (stuck place.after_item (tokens.next (record { kind = token.string 4 10 true; span = span_at 3 8 }) tokens.ended)))
unfolding reads_by tokens_past cut cut_here start_of gap_len_from parts number decoded_past piece_at utf8_at escape_at unit_at code_unit short_escape encode
meaningless_row = refl
