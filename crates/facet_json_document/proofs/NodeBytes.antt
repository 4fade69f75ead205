-- What a node's bytes tell: whether they are a text in quotes, which text that is, and which number they are.
use Rattle.std.proofs.Common.{◌≡◌, ℕ, Bool, true, false, cond, List, length, Option, Some, None, not, ◌&&◌, refl, ap, ◌∙◌, leb-true, le-leb}
use Rattle.std.specs.Prelude.{nat_le, ◌==◌}
use Rattle.std.specs.Str.{IsUtf8, is_utf8}
use Rattle.std.proofs.lemmas.Bool.{and_parts, and_from}
use Rattle.std.proofs.lemmas.Str.{IsUtf8-from_is_utf8, is_utf8-from_IsUtf8}
use Rattle.facet_format.specs.Number.{Hint, unsigned, signed, float}
use Rattle.facet_format.specs.NumberParts.{parts, parts_len, parts_hint, is_bare, begins_number, is_number, same_hint}
use Rattle.facet_format.specs.NumberValue.{Number, number, value_by}
use Rattle.facet_format.specs.NumberValue as numbers
use Rattle.facet_format.proofs.NumberText.{number-IsUtf8}
use Rattle.facet_json_document.specs.Nodes.{small_if_any, value_kind}
use Rattle.facet_json_document.specs.OwnNumber.{is_small, own_number}
use Rattle.facet_json_document.specs.declared.document.node.ValueKind.TheVariants as kinds
use Rattle.facet_json_document.specs.QuotedText.{quoted, IsQuotedText, is_quoted_text}

is_false : (b : Bool) → not b ≡ true → b ≡ false
is_false true e = cc
is_false false e = refl

pub quoted-tested : (bytes : List ℕ) → IsQuotedText bytes → is_quoted_text bytes ≡ true
quoted-tested bytes q =
    and_from (nat_le 2 (length bytes)) _ (le-leb 2 (length bytes) q.long)
    (and_from (is_utf8 (quoted bytes)) _ (is_utf8-from_IsUtf8 (quoted bytes) q.utf8) (ap not q.plain))

pub quoted-told : (bytes : List ℕ) → is_quoted_text bytes ≡ true → IsQuotedText bytes
quoted-told bytes e =
    let first = and_parts (nat_le 2 (length bytes)) _ e in
    let rest = and_parts (is_utf8 (quoted bytes)) _ first.1 in
    record {
      long = leb-true 2 (length bytes) first.0;
      utf8 = IsUtf8-from_is_utf8 (quoted bytes) rest.0;
      plain = is_false _ rest.1;
    }

-- A number is read with the hint that its own bytes have.
same-hint : (a b : Hint) → same_hint a b ≡ true → a ≡ b
same-hint unsigned unsigned e = refl
same-hint signed signed e = refl
same-hint float float e = refl
same-hint _ _ e = cc

pub own-hint : (text : List ℕ) (hint : Hint) → is_number text hint ≡ true → parts_hint (parts text) ≡ hint
own-hint text hint e =
    let p = parts text in
    let a = and_parts (begins_number text && not (is_bare p) && (parts_len p == length text)) (same_hint (parts_hint p) hint) e in
    same-hint (parts_hint p) hint a.1

pub valued : (text : List ℕ) (hint : Hint) (n : Number) → number text hint ≡ Some n → is_number text hint ≡ true
unfolding number
valued text hint n e = by (is_number text hint) e
  where
    by : (b : Bool) → cond b (value_by hint (parts text) text) None ≡ Some n → b ≡ true
    by true _ = refl
    by false none = absurd (cc)

-- So it is the number that its bytes are.
pub own-read : (text : List ℕ) (hint : Hint) (n : Number) → number text hint ≡ Some n → own_number text ≡ Some n
own-read text hint n e = ap (number text) (own-hint text hint (valued text hint n e)) ∙ e

-- A small number is a number.
pub small-kind : (o : Option Number) → is_small o ≡ true → value_kind (small_if_any o) ≡ kinds.Number
small-kind None small = cc
small-kind (Some (numbers.u64 n)) small = refl
small-kind (Some (numbers.i64 n)) small = refl
small-kind (Some (numbers.decimal digits)) small = refl
small-kind (Some (numbers.u128 n)) small = cc
small-kind (Some (numbers.i128 n)) small = cc

-- Its bytes are text.
pub small-utf8 : (text : List ℕ) → is_small (own_number text) ≡ true → IsUtf8 text
small-utf8 text small = by (own_number text) refl small
  where
    by : (o : Option Number) → own_number text ≡ o → is_small o ≡ true → IsUtf8 text
    by None e small = cc
    by (Some n) e small = number-IsUtf8 text (parts_hint (parts text)) (valued text (parts_hint (parts text)) n e)
