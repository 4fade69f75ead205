-- Texts without an escape and numbers that a language has: what is told of their bytes is what RFC 8259 asks of them.
use Rattle.std.proofs.Common.{◌≡◌, ℕ, Bool, true, false, not, ◌==◌, ◌&&◌, nat_le, List, [], ◌∷◌, None, slice_range, refl}
use Rattle.std.specs.List.{list_all}
use Rattle.std.proofs.lemmas.Bool.{and_parts, not-true}
use Rattle.facet_format.specs.Bytes.{backslash}
use Rattle.facet_format.specs.Number.{Hint}
use Rattle.facet_format.specs.Span.{Span}
use Rattle.facet_json_token.specs.Token.{string, number}
use Rattle.facet_json_token.specs.RfcNumber.{IsRfcNumber}
use Rattle.facet_json_token.specs.Strict.{wrong_at}
use Rattle.facet_json_token.proofs.RfcNumbers.{is_rfc-complete}
use Rattle.facet_json_grammar.specs.Language.{Language, lenient, strict}
use Rattle.facet_json_grammar.specs.StrictTokens.{Allows}
use Rattle.facet_json_reader.specs.PlaceViews.{least_of}
use Rattle.facet_json_reader.specs.Values.{AreUnescaped}

-- A byte from 0x20 on that is no backslash may stand there, whatever follows it.
right-byte : (b : ℕ) (bytes : List ℕ) → (b == backslash) ≡ false → nat_le 0x20 b ≡ true → wrong_at false bytes ≡ None →
    wrong_at false (b ∷ bytes) ≡ None
right-byte b bytes plain least more = rw (least, plain, more) refl

-- Unescaped bytes from 0x20 on may all stand there.
unescaped-right : (bytes : List ℕ) → AreUnescaped 0x20 bytes → wrong_at false bytes ≡ None
unescaped-right [] e = refl
unescaped-right (b ∷ bytes) e =
    let first = and_parts (not (b == backslash) && nat_le 0x20 b) (list_all (λ c. not (c == backslash) && nat_le 0x20 c) bytes) e in
    let both = and_parts (not (b == backslash)) (nat_le 0x20 b) first.0 in
    right-byte b bytes (not-true (b == backslash) both.0) both.1 (unescaped-right bytes first.1)

-- A text of such bytes is allowed.
pub unescaped-allowed : (language : Language) (buffer : List ℕ) (start finish : ℕ) → AreUnescaped (least_of language) (slice_range buffer start finish) →
    (s : Span) (mark : Bool) → Allows language buffer (record { kind = string start finish mark; span = s })
unescaped-allowed (lenient mode) buffer start finish e s mark = tt
unescaped-allowed (strict mode) buffer start finish e s mark = rw (unescaped-right (slice_range buffer start finish) e) refl

-- A number of RFC 8259 is allowed.
pub rfc_number-allowed : (language : Language) (buffer : List ℕ) (start finish : ℕ) (hint : Hint) (s : Span) →
    IsRfcNumber (slice_range buffer start finish) → Allows language buffer (record { kind = number start finish hint; span = s })
rfc_number-allowed (lenient mode) buffer start finish hint s n = tt
rfc_number-allowed (strict mode) buffer start finish hint s n = rw (is_rfc-complete (slice_range buffer start finish) n) refl
