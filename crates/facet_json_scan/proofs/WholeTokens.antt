-- A token that ends before the buffer does begins nothing longer.
use Rattle.std.proofs.Common.{◌≡◌, ◌≢◌, ℕ, ◌+◌, ◌<◌, Bool, true, false, eqb, List, [], ◌∷◌, ◌++◌, length, drop, slice_get, Option, Some, None, Ok, refl, sym, ap, ◌∙◌, subst, arith, length-append}
use Rattle.std.proofs.lemmas.Bool.{eqb-true}
use Rattle.std.proofs.lemmas.List.{length-drop}
use Rattle.facet_format.specs.declared.event.Span.{Span as RustSpan}
use Rattle.facet_format.specs.Views.{span_of}
use Rattle.facet_json_token.specs.declared.token.Token.{Token as RustToken}
use Rattle.facet_json_token.specs.declared.token.Token.TheVariants as code
use Rattle.facet_json_token.specs.declared.token.SpannedToken.{SpannedToken}
use Rattle.facet_json_token.specs.Views.{kind_of, with_span, token_answer, scanned}
use Rattle.facet_format.specs.Number.{Hint}
use Rattle.facet_format.specs.NumberParts.{parts, parts_len, parts_hint, is_bare}
use Rattle.facet_format.specs.Span.{stop, span_at}
use Rattle.facet_json_token.specs.Gap.{Mode, plain, jsonc}
use Rattle.facet_json_token.specs.Token.{Kind, Token}
use Rattle.facet_json_token.specs.Cut.{Cut, nothing_left, token, Start, punctuation, letter, opens_text, opens_number, opens_comment, opens_nothing, start_of, cut_by, cut_here, cut_word, cut_text, cut_number, cut_slash, common_len}
use Rattle.facet_json_token.specs.Open.{IsBeginning}
use Rattle.facet_json_token.proofs.FirstBytes.{cut_here-by}
use Rattle.facet_json_token.proofs.NumberCuts.{bare_minus-no_token}
use Rattle.facet_json_token.proofs.Offsets.{drop-at_byte}
use Rattle.facet_json_scan.proofs.Pieces.Beginnings.{BeginsBy, begins_by}
use Rattle.facet_json_scan.proofs.Pieces.PendingWord.{common_len-prefix}

module _ (t : Token) where
  -- what is no token
  word_no_token : (at n : ℕ) (bytes word : List ℕ) (kind : Kind) → (n ≡ length word → ⊥) → cut_word at bytes word kind n ≡ token t → ⊥
  word_no_token at n bytes word kind short cut = by (eqb n (length word)) refl (slice_get bytes n) refl
    where
      by : (is : Bool) → eqb n (length word) ≡ is → (next : Option ℕ) → slice_get bytes n ≡ next → ⊥
      by true is next got = short (eqb-true n (length word) is)
      by false is None got = let c = rw (is, got) at cut in cc
      by false is (Some b) got = let c = rw (is, got) at cut in cc

  number_ends : (at n : ℕ) (bytes : List ℕ) (hint : Hint) (bare : Bool) → cut_number at bytes n hint bare ≡ token t → stop t.span ≡ at + n
  number_ends at n bytes hint true cut = absurd (bare_minus-no_token at bytes t cut)
  number_ends at n bytes hint false cut = let same : span_at at n ≡ t.span = cc in sym (ap stop same)

  slash_no_token : (mode : Mode) (at : ℕ) (bytes : List ℕ) → cut_slash mode at bytes ≡ token t → ⊥
  slash_no_token plain at bytes cut = cc
  slash_no_token jsonc at [] cut = cc
  slash_no_token jsonc at (b ∷ bytes) cut = by (eqb b 0x2a) refl
    where
      by : (is : Bool) → eqb b 0x2a ≡ is → ⊥
      by true is = let c = rw is at cut in cc
      by false is = let c = rw is at cut in cc

  module _ (mode : Mode) (at b : ℕ) (rest : List ℕ) (short : stop t.span < at + length (b ∷ rest)) where
    shut_by : (s : Start) → BeginsBy s b rest → cut_by s mode at b rest ≡ token t → ⊥
    shut_by (punctuation kind) k cut = k
    shut_by (letter word kind) k cut =
        let all : common_len word (b ∷ rest) ≡ length (b ∷ rest) = ap (λ w. common_len w (b ∷ rest)) k.1 ∙ common_len-prefix (b ∷ rest) k.0 in
        word_no_token at (common_len word (b ∷ rest)) (b ∷ rest) word kind (λ same. more k.0 k.1 k.2 (sym all ∙ same)) cut
      where
        more : (others : List ℕ) → word ≡ (b ∷ rest) ++ others → others ≢ [] → length (b ∷ rest) ≡ length word → ⊥
        more [] is some same = some refl
        more (w ∷ others) is some same = omega (arith, ap length is, length-append (b ∷ rest) (w ∷ others), same)
    shut_by opens_text k cut = let c : cut_text at rest None ≡ token t = ap (cut_text at rest) (sym k) ∙ cut in cc
    shut_by opens_number k cut =
        let p = parts (b ∷ rest) in
        let ends = number_ends at (parts_len p) rest (parts_hint p) (is_bare p) cut in
        omega (arith, ends, k, short)
    shut_by opens_comment k cut = slash_no_token mode at rest cut
    shut_by opens_nothing k cut = k

-- It is cut as it stands.
pub token-shut : (mode : Mode) (buffer : List ℕ) (at b : ℕ) (t : Token) → slice_get buffer at ≡ Some b → at < length buffer →
    cut_here mode at (drop at buffer) ≡ token t → stop t.span < length buffer → IsBeginning mode (drop at buffer) → ⊥
token-shut mode buffer at b t here room is short i =
    let rest = drop (at + 1) buffer in
    let front = drop-at_byte buffer at b here in
    let long : at + length (b ∷ rest) ≡ length buffer = omega (arith, length-drop at buffer, ap length front) in
    shut_by t mode at b rest (omega (arith, short, long)) (start_of b) (begins_by mode b rest (subst (IsBeginning mode) front i))
    (cut_here-by mode buffer at b (start_of b) here refl ∙ is)

-- So is one that is answered.
token_of : (s : RustSpan) (u : RustToken) (c : Cut) → token_answer s u ≡ Some c → c ≢ nothing_left →
    (kind : Kind) × (c ≡ token (record { kind = kind; span = span_of s }))
token_of s code.Eof c e some = absurd (some cc)
token_of s u c e some = by (kind_of u) e
  where
    by : (k : Option Kind) → with_span (span_of s) k ≡ Some c → (kind : Kind) × (c ≡ token (record { kind = kind; span = span_of s }))
    by None is = cc
    by (Some kind) is = (kind, cc)

pub answer-shut : (mode : Mode) (buffer : List ℕ) (at b : ℕ) (t : SpannedToken) → slice_get buffer at ≡ Some b → at < length buffer →
    scanned (Ok t) ≡ Some (cut_here mode at (drop at buffer)) → cut_here mode at (drop at buffer) ≢ nothing_left →
    stop (span_of t.span) < length buffer → IsBeginning mode (drop at buffer) → ⊥
answer-shut mode buffer at b t here room is some short =
    let told = token_of t.span t.token (cut_here mode at (drop at buffer)) is some in
    token-shut mode buffer at b (record { kind = told.0; span = span_of t.span }) here room told.1 short
