-- What a token that is read says of its kind: a meaning where it needs one, and a name.
use Rattle.std.proofs.Common.{◌≡◌, ◌∙◌, ℕ, true, false, List, Option, Some, None, Ok, refl, sym}
use Rattle.std.specs.Prelude.{IsSome, IfSome}
use Rattle.std.specs.declared.alloc.Global.{Global}
use Rattle.std.specs.declared.borrow.CowStr.{CowStr}
use Rattle.facet_json_reader.specs.declared.materialized.TokenKind.{TokenKind}
use Rattle.facet_json_reader.specs.declared.materialized.TokenKind.TheVariants as kinds
use Rattle.facet_json_reader.specs.declared.refusal.Name.{Name}
use Rattle.facet_json_reader.specs.declared.refusal.Expected.{Expected}
use Rattle.facet_format.specs.Complaint.{refusal_at, unexpected_token}
use Rattle.facet_format.specs.NumberValue.{Number}
use Rattle.facet_format.specs.Span.{Span}
use Rattle.facet_json_token.specs.Token.{Kind}
use Rattle.facet_json_token.specs.Token as token
use Rattle.facet_json_token.specs.Tokens.{Tokens, next}
use Rattle.facet_json_grammar.specs.Meaning.{meaning_of}
use Rattle.facet_json_grammar.specs.Place.{Place, kind_name, expected_at, goes_on}
use Rattle.facet_json_grammar.specs.Refusal.{needs_meaning, misplaced}
use Rattle.facet_json_reader.specs.PlaceViews.{name_text, expected_text}
use Rattle.facet_json_reader.specs.TokenViews.{number_at, number_in, holds_made_text, IsReadAs, IsUnmade}
use Rattle.facet_json_reader.specs.Views.{IsNamed, IsNameOf, StopsAt}

-- A number of the buffer is read as itself.
pub number_read : (buffer : List ℕ) (k : Kind) (kind : TokenKind) (n : Number) → number_at buffer k ≡ Some n →
    number_in kind ≡ Some n → holds_made_text kind ≡ false → IsReadAs buffer k kind
number_read buffer k (kinds.U64 m) n e i f = e ∙ sym i
number_read buffer k (kinds.I64 m) n e i f = e ∙ sym i
number_read buffer k (kinds.U128 m) n e i f = e ∙ sym i
number_read buffer k (kinds.I128 m) n e i f = e ∙ sym i
number_read buffer k (kinds.Decimal d) n e i f = (e ∙ sym i, f)
number_read buffer k _ n e i f = cc

-- A token that is read has a meaning where it needs one.
pub read_means : (buffer : List ℕ) (k : Kind) (kind : TokenKind) → IsReadAs buffer k kind →
    needs_meaning k ≡ true → IsSome (meaning_of buffer k)
read_means buffer (token.string a b h) (kinds.String s) r n = let means = r.1.means in rw means refl
read_means buffer (token.number a b h) (kinds.U64 m) r n = rw r refl
read_means buffer (token.number a b h) (kinds.I64 m) r n = rw r refl
read_means buffer (token.number a b h) (kinds.U128 m) r n = rw r refl
read_means buffer (token.number a b h) (kinds.I128 m) r n = rw r refl
read_means buffer (token.number a b h) (kinds.Decimal d) r n = let is = r.0 in rw is refl
read_means buffer _ kinds.Eof r n = absurd r
read_means buffer _ _ r n = cc

-- A token that is read is called so.
pub read-named : (buffer : List ℕ) (o : Option Kind) (read : TokenKind) (name : Name) → IfSome o (λ k. IsReadAs buffer k read) →
    ((b : List ℕ) (k : Kind) → IsReadAs b k read → name_text name ≡ kind_name b k) →
    IfSome o (λ k. IsNamed buffer k name)
read-named buffer None read name r called = tt
read-named buffer (Some k) read name r called = record { name_is = called buffer k r; has_meaning = read_means buffer k read r }

-- A token that is called so, at a place where no document goes on with it.
pub named-stops : (buffer : List ℕ) (place : Place) (kind : Kind) (s : Span) (rest : Tokens) (name : Name)
    (expected : Expected) → IsNamed buffer kind name → expected_text expected ≡ expected_at place kind →
    goes_on place kind ≡ false →
    StopsAt buffer place (next (record { kind = kind; span = s }) rest) (refusal_at (unexpected_token (name_text name) (expected_text expected)) s)
named-stops buffer place kind s rest name expected named e never =
    let called = named.name_is in
    rw (called, e) (misplaced place (record { kind = kind; span = s }) rest named.has_meaning never)

-- A key that is read has a meaning.
pub key_means : (buffer : List ℕ) (kind : Kind) (s : Span) (o : Option (CowStr Global)) →
    IsNameOf buffer kind s (Ok o) → IsSome (meaning_of buffer kind)
key_means buffer kind s None u = u.means
key_means buffer kind s (Some t) text = let means = text.means in rw means refl

-- A key that is not read lacks memory for its text.
pub key-none : (buffer : List ℕ) (kind : Kind) (s : Span) (o : Option (CowStr Global)) →
    ((t : CowStr Global) → o ≡ Some t → ⊥) → IsNameOf buffer kind s (Ok o) → IsUnmade buffer kind
key-none buffer kind s None isnt u = u
key-none buffer kind s (Some t) isnt text = absurd (isnt t refl)
