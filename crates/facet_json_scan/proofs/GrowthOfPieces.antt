-- What is known of a buffer that is scanned stays known as it grows.
use Rattle.std.proofs.Common.{◌≡◌, ℕ, ◌≤◌, true, false, is_some, List, [], ◌++◌, length, drop, Option, Some, None, IfSome, refl, sym, ap, ◌∙◌, subst, arith, length-append, append_assoc}
use Rattle.std.specs.List.{All}
use Rattle.std.specs.Io.KnownBytes.{Consumes}
use Rattle.std.proofs.lemmas.List.{take-append-le}
use Rattle.std.proofs.lemmas.List.Elements.{All-weaker}
use Rattle.facet_json_token.specs.declared.token.Token.{Token as RustToken}
use Rattle.facet_json_token.specs.declared.token.Token.TheVariants as code
use Rattle.facet_json_token.specs.declared.token.SpannedToken.{SpannedToken}
use Rattle.facet_json_token.specs.declared.token.ScanError.{ScanError}
use Rattle.facet_json_token.specs.Gap.{Mode}
use Rattle.facet_json_token.specs.Tokens.{AreCuts}
use Rattle.facet_json_scan.specs.Scanner.{Scanner, idle, first_unread, first_byte_of, Describes, GoesOnFrom}
use Rattle.facet_json_scan.specs.ScannerViews.{NamesWithin}
use Rattle.facet_json_scan.specs.Listed.{tokens_of_list, rest_after, AreAllOf, StandsWithin}
use Rattle.facet_json_scan.specs.Inner.Stands.{Stands, IsScanned}

-- A scanner goes on from its first byte.
pub goes_on-first : (s : Scanner) (buffer : List ℕ) (p : ℕ) → GoesOnFrom s buffer p → first_unread s ≡ p
goes_on-first s buffer _ (GoesOnFrom.idles e) = ap (first_byte_of s.position) e
goes_on-first s buffer _ (GoesOnFrom.resumes start state e d) = ap (first_byte_of s.position) e

-- Before anything is read nothing is scanned.
pub stands-first : (buffer : List ℕ) (tokens : List SpannedToken) (s : Scanner) (mode : Mode) → buffer ≡ [] → tokens ≡ [] →
    s ≡ idle 0 mode → Stands buffer tokens s
stands-first buffer tokens s mode no_bytes no_tokens is = rw (no_bytes, no_tokens, is) first
  where
    first : Stands [] [] (idle 0 mode)
    first = record {
      start = 0;
      goes_on = GoesOnFrom.idles refl;
      within = omega arith;
      position_within = omega arith;
      fit = λ k d h. absurd (omega arith);
      so_far = λ more others are. are;
    }

names-grown : (m n : ℕ) (t : RustToken) → m ≤ n → NamesWithin m t → NamesWithin n t
names-grown m n (code.String start finish has_escapes) grows h = (h.0, omega (arith, h.1))
names-grown m n (code.Number start finish hint) grows h = (h.0, omega (arith, h.1))
names-grown m n (code.NeedMore consumed) grows h = omega arith
names-grown m n t grows h = h

-- Tokens that stand within stand within more.
pub fit-grown : (m n : ℕ) (tokens : List SpannedToken) → m ≤ n → All (StandsWithin m) tokens → All (StandsWithin n) tokens
fit-grown m n tokens grows h =
    All-weaker (StandsWithin m) (StandsWithin n) (λ t w. (omega (arith, w.0), names-grown m n t.token grows w.1)) tokens h

-- What is pending fits the longer buffer too.
goes_on-grown : (buffer more : List ℕ) (s : Scanner) (p : ℕ) → s.position ≤ length buffer → GoesOnFrom s buffer p →
    GoesOnFrom s (buffer ++ more) p
goes_on-grown buffer more s _ room (GoesOnFrom.idles e) = GoesOnFrom.idles e
goes_on-grown buffer more s _ room (GoesOnFrom.resumes start state e d) =
    GoesOnFrom.resumes start state e
    (subst (λ l. Describes s.mode state (drop start l)) (sym (take-append-le s.position buffer more room)) d)

pub stands-grown : (buffer more : List ℕ) (tokens : List SpannedToken) (s : Scanner) → Stands buffer tokens s →
    Stands (buffer ++ more) tokens s
stands-grown buffer more tokens s h = record {
  start = h.start;
  goes_on = goes_on-grown buffer more s h.start h.position_within h.goes_on;
  within = omega (arith, h.within, length-append buffer more);
  position_within = omega (arith, h.position_within, length-append buffer more);
  fit = fit-grown (length buffer) (length (buffer ++ more)) tokens (omega (arith, length-append buffer more)) h.fit;
  so_far = λ rest others are.
      let longer = append_assoc buffer more rest in
      subst (λ l. AreAllOf l s.mode (tokens_of_list tokens (Some others))) (sym longer)
      (h.so_far (more ++ rest) others (subst (λ l. AreCuts l s.mode h.start others) longer are));
}

-- What holds whatever bytes follow holds of the known bytes that begin with these.
pub consumes-prefix : (a b : Option (List ℕ)) (bytes : List ℕ) (P : List ℕ → Type 0) → Consumes a b bytes →
    ((more : List ℕ) → P (bytes ++ more)) → IfSome a P
consumes-prefix None b bytes P read all = tt
consumes-prefix (Some input) None bytes P read all = absurd read
consumes-prefix (Some input) (Some left) bytes P read all = subst P (sym read) (all left)

-- ---- a refusal, whatever follows

pub scanned-refused : (buffer items more : List ℕ) (mode asked : Mode) (tokens : List SpannedToken) (s : Scanner) (refusal : Option ScanError) →
    buffer ≡ items → mode ≡ asked → is_some refusal ≡ true → IsScanned buffer mode tokens s refusal →
    AreAllOf (items ++ more) asked (tokens_of_list tokens (rest_after refusal))
scanned-refused buffer items more mode asked tokens s None same is some h = cc
scanned-refused buffer items more mode asked tokens s (Some e) same is some h =
    subst (λ m. AreAllOf (items ++ more) m (tokens_of_list tokens (rest_after (Some e)))) is
    (subst (λ l. AreAllOf (l ++ more) mode (tokens_of_list tokens (rest_after (Some e)))) same (h.all more))

-- The buffer is scanned to its end.
pub scanned-stands : (buffer items : List ℕ) (mode asked : Mode) (tokens : List SpannedToken) (s : Scanner) (refusal : Option ScanError) →
    buffer ≡ items → mode ≡ asked → is_some refusal ≡ false → IsScanned buffer mode tokens s refusal →
    Stands items tokens s × (s.position ≡ length items) × (s.mode ≡ asked)
scanned-stands buffer items mode asked tokens s None same is some h =
    (subst (λ l. Stands l tokens s) same h.0, h.1 ∙ ap length same, h.2 ∙ is)
scanned-stands buffer items mode asked tokens s (Some e) same is some h = cc
