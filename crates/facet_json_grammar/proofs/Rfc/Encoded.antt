-- Texts in UTF-8, part by part.
use Rattle.std.proofs.Common.{◌≡◌, ℕ, ◌<◌, Bool, true, nat_lt, List, [], ◌∷◌, ◌++◌, refl, ap, ◌∙◌, arith, ltb-true}
use Rattle.std.specs.List.{list_all}
use Rattle.std.specs.Str.{all_scalars, encode_utf8_all}
use Rattle.std.proofs.lemmas.Bool.{and_parts, and_from}
use Rattle.std.proofs.lemmas.Str.{encodes-append, encode_ascii}
use lib.Utf8.{scalar, low_scalar}
use Rattle.facet_json_grammar.specs.RfcText.{InUtf8}

abbrev pub is_ascii : ℕ → Bool
is_ascii c = nat_lt c 0x80

scalars-append : (a b : List ℕ) → all_scalars a ≡ true → all_scalars b ≡ true → all_scalars (a ++ b) ≡ true
scalars-append [] b p q = q
scalars-append (c ∷ a) b p q =
    let parts = and_parts (scalar c) (all_scalars a) p in and_from (scalar c) _ parts.0 (scalars-append a b parts.1 q)

-- ASCII is its own UTF-8.
pub ascii : {P : List ℕ → Type 0} (bytes : List ℕ) → list_all is_ascii bytes ≡ true → P bytes → InUtf8 P bytes
ascii bytes small such =
    let own = by bytes small in record { characters = bytes; are_scalars = own.0; encoded = own.1; such = such }
  where
    by : (cs : List ℕ) → list_all is_ascii cs ≡ true → (all_scalars cs ≡ true) × (encode_utf8_all cs ≡ cs)
    by [] e = (refl, refl)
    by (c ∷ cs) e =
        let parts = and_parts (is_ascii c) (list_all is_ascii cs) e in
        let low : c < 0x80 = ltb-true c 0x80 parts.0 in
        let others = by cs parts.1 in (
          and_from (scalar c) _ (low_scalar c (omega arith)) others.0,
          ap (λ l. l ++ encode_utf8_all cs) (encode_ascii c low) ∙ ap (λ l. c ∷ l) others.1,
        )

-- So ASCII is what it is in UTF-8.
pub ascii-itself : (cs : List ℕ) → list_all is_ascii cs ≡ true → encode_utf8_all cs ≡ cs
unfolding ascii
ascii-itself cs small = (ascii {P = λ l. Unit {0}} cs small tt).encoded

-- What follows from such characters is so in UTF-8.
pub mapped : {P Q : List ℕ → Type 0} {bytes : List ℕ} → ((cs : List ℕ) → P cs → Q cs) → InUtf8 P bytes → InUtf8 Q bytes
mapped f p = record { characters = p.characters; are_scalars = p.are_scalars; encoded = p.encoded; such = f p.characters p.such }

-- Two parts, one after the other.
pub joined : {P Q R : List ℕ → Type 0} {x y : List ℕ} → ((a b : List ℕ) → P a → Q b → R (a ++ b)) →
    InUtf8 P x → InUtf8 Q y → InUtf8 R (x ++ y)
joined f p q = record {
  characters = p.characters ++ q.characters;
  are_scalars = scalars-append p.characters q.characters p.are_scalars q.are_scalars;
  encoded = encodes-append p.characters q.characters ∙ (λ i. p.encoded i ++ q.encoded i);
  such = f p.characters q.characters p.such q.such;
}

-- Three parts.
pub joined3 : {P Q R S : List ℕ → Type 0} {x y z : List ℕ} → ((a b c : List ℕ) → P a → Q b → R c → S (a ++ b ++ c)) →
    InUtf8 P x → InUtf8 Q y → InUtf8 R z → InUtf8 S (x ++ y ++ z)
joined3 {P} {Q} {R} {S} f p q r = joined {P = Pair} {R = S} (λ ab c s t. rw s.4 (f s.0 s.1 c s.2 s.3 t)) (joined {R = Pair} pair p q) r
  where
    Pair : List ℕ → Type 0
    Pair ab = (a : List ℕ) × (b : List ℕ) × P a × Q b × (ab ≡ a ++ b)

    pair : (a b : List ℕ) → P a → Q b → Pair (a ++ b)
    pair a b s t = (a, b, s, t, refl)
