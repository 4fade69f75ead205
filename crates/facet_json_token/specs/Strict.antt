-- What RFC 8259 has in strings and numbers beyond what makes them tokens, told before they are decoded (sections 6 and 7).
use Rattle.std.specs.Prelude.{ℕ, ◌+◌, Bool, true, false, cond, not, ◌==◌, ◌&&◌, ◌||◌, nat_le, List, [], ◌∷◌, Option, Some, None, get_or, slice_range}
use Rattle.std.specs.Option.{option_map}
use Rattle.facet_format.specs.Bytes.{quote, backslash, slash, lower_b, lower_f, lower_n, lower_r, lower_t, lower_u}
use Rattle.facet_format.specs.Span.{span_at}
use Rattle.facet_json_token.specs.GapLen.{one_more}
use Rattle.facet_json_token.specs.Token.{Kind, Token, Fault, string, number, unexpected_char}
use Rattle.facet_json_token.specs.RfcNumberTest.{is_rfc_number}

-- one of the nine that RFC 8259 has after a backslash
abbrev pub is_named : ℕ → Bool
is_named b =
    (b == quote) || (b == backslash) || (b == slash) || (b == lower_b) || (b == lower_f) || (b == lower_n) || (b == lower_r) || (b == lower_t) || (b == lower_u)

-- whether this byte may stand in a string's content, where a backslash escapes it or not: unescaped from 0x20 on; escaped where it is one
-- of the nine that RFC 8259 names, or none of ASCII
abbrev pub may_stand : Bool → ℕ → Bool
may_stand false b = nat_le 0x20 b
may_stand true b = nat_le 0x80 b || is_named b

-- how many bytes of a content stand before the first that may not, where the first one is escaped or not
abbrev pub wrong_at : Bool → List ℕ → Option ℕ
wrong_at escaped [] = None
wrong_at escaped (b ∷ bytes) = cond (may_stand escaped b) (one_more (wrong_at (not escaped && (b == backslash)) bytes)) (Some 0)

-- what is wrong with a content that starts there: its first byte that may not stand there
abbrev pub content_fault : ℕ → List ℕ → Option Fault
content_fault start content =
    option_map (λ n. record { kind = unexpected_char (get_or content n 0); span = span_at (start + n) 1 }) (wrong_at false content)

-- what is wrong with a token of the buffer, though it is one: a question mark over all of a number
abbrev pub strict_fault_of : List ℕ → Token → Kind → Option Fault
strict_fault_of buffer t (string start finish has_escapes) = content_fault start (slice_range buffer start finish)
strict_fault_of buffer t (number start finish hint) =
    cond (is_rfc_number (slice_range buffer start finish)) None (Some (record { kind = unexpected_char 0x3f; span = t.span }))
strict_fault_of buffer t _ = None

abbrev pub strict_fault : List ℕ → Token → Option Fault
strict_fault buffer t = strict_fault_of buffer t t.kind
