-- The tokens of a language: after a token stand those from its end on, and they are in order.
use Rattle.std.proofs.Common.{◌≡◌, ℕ, ◌+◌, ◌-◌, ◌<◌, ◌≤◌, Bool, true, false, List, [], ◌∷◌, length, drop, Option, Some, None, refl, sym, ap, ◌∙◌, arith, slice_range, suc, length-drop, cond, not, ◌&&◌, ◌==◌}
use Rattle.std.specs.Prelude.{get_or}
use Rattle.std.specs.Option.{option_map}
use Rattle.std.proofs.lemmas.List.{length-take}
use Rattle.facet_format.specs.Bytes.{backslash}
use Rattle.facet_format.specs.Span.{stop}
use Rattle.facet_json_token.specs.Gap.{Mode}
use Rattle.facet_json_token.specs.GapLen.{one_more}
use Rattle.facet_json_token.specs.Token.{Kind, Token, Fault}
use Rattle.facet_json_token.specs.Token as token
use Rattle.facet_json_token.specs.Tokens.{Tokens, ended, refused, next}
use Rattle.facet_json_token.specs.TokenList.{tokens_from}
use Rattle.facet_json_token.specs.Cut.{Cut, nothing_left, token as cut_token, fault, cut}
use Rattle.facet_json_token.proofs.TokensSteps.{tokens_from-others, tokens_from-token, tokens_from-fault, tokens_from-nothing}
use Rattle.facet_json_token.specs.RfcNumberTest.{is_rfc_number}
use Rattle.facet_json_token.specs.Strict.{may_stand, wrong_at, content_fault, strict_fault, strict_fault_of}
use Rattle.facet_json_grammar.specs.Language.{Language, lenient, strict, gaps}
use Rattle.facet_json_grammar.specs.StrictTokens.{strict_tokens, tokens_in, strict_cut, cut_in, Allows}
use Rattle.facet_json_grammar.specs.Refusal.{needs_meaning}
use Rattle.facet_json_grammar.proofs.InOrder.{InOrder, at_the_end, at_a_fault, at_a_token}
use Rattle.facet_json_grammar.proofs.TokensInOrder.{tokens-in_order}

module _ (buffer : List ℕ) where
  -- ---- what a strict token list begins with

  -- Where it begins with a token, so do the tokens that it is made of.
  pub record Begins (ts : Tokens) (t : Token) (others : Tokens) : Type 0 where
    pub rest : Tokens
    pub first : ts ≡ next t rest
    pub same : strict_tokens buffer rest ≡ others
    pub allowed : strict_fault buffer t ≡ None

  strict-token : (u t : Token) (us others : Tokens) (o : Option Fault) → strict_fault buffer u ≡ o →
      (elim o as (λ _. Tokens) [ None ↦ next u (strict_tokens buffer us) | Some f ↦ refused f ]) ≡ next t others → Begins (next u us) t others
  strict-token u t us others None a e =
      let first : u ≡ t = cc in
      let same : strict_tokens buffer us ≡ others = cc in
      record { rest = us; first = ap (λ x. next x us) first; same = same; allowed = ap (strict_fault buffer) (sym first) ∙ a }
  strict-token u t us others (Some f) a e = cc

  pub strict-begins : (ts : Tokens) (t : Token) (others : Tokens) → strict_tokens buffer ts ≡ next t others → Begins ts t others
  unfolding strict_tokens
  strict-begins ended t others e = cc
  strict-begins (refused f) t others e = cc
  strict-begins (next u us) t others e = strict-token u t us others (strict_fault buffer u) refl e

  -- ---- faults within the buffer

  wrong-step : (b : ℕ) (bytes : List ℕ) (n : ℕ) (allowed : Bool) (o : Option ℕ) → ((m : ℕ) → o ≡ Some m → m < length bytes) →
      cond allowed (one_more o) (Some 0) ≡ Some n → n < length (b ∷ bytes)
  wrong-step b bytes n false o h e = let zero_is : n ≡ 0 = cc in omega arith
  wrong-step b bytes n true None h e = cc
  wrong-step b bytes n true (Some m) h e =
      let more = h m refl in
      let is : n ≡ suc m = cc in omega arith

  wrong_at-within : (escaped : Bool) (bytes : List ℕ) (n : ℕ) → wrong_at escaped bytes ≡ Some n → n < length bytes
  wrong_at-within escaped [] n e = cc
  wrong_at-within escaped (b ∷ bytes) n e =
      wrong-step b bytes n (may_stand escaped b) _ (λ m. wrong_at-within (not escaped && (b == backslash)) bytes m) e

  slice-fits : (start finish n : ℕ) → n < length (slice_range buffer start finish) → suc (start + n) ≤ length buffer
  slice-fits start finish n h = omega (arith, h, length-take (finish - start) (drop start buffer), length-drop start buffer)

  content-within : (start finish : ℕ) (f : Fault) → content_fault start (slice_range buffer start finish) ≡ Some f → stop f.span ≤ length buffer
  content-within start finish f e = by (wrong_at false (slice_range buffer start finish)) refl e
    where
      by : (o : Option ℕ) → wrong_at false (slice_range buffer start finish) ≡ o →
          option_map (λ n. record { kind = token.unexpected_char (get_or (slice_range buffer start finish) n 0); span = record { offset = start + n; len = 1 } }) o ≡ Some f →
          stop f.span ≤ length buffer
      by None a g = cc
      by (Some n) a g =
          let fits = slice-fits start finish n (wrong_at-within false _ n a) in
          let is : record { kind = token.unexpected_char (get_or (slice_range buffer start finish) n 0); span = record { offset = start + n; len = 1 } } ≡ f = cc in
          let ends : stop f.span ≡ (start + n) + 1 = ap (λ (x : Fault). stop x.span) (sym is) in
          omega arith

  number-within : (t : Token) (f : Fault) (b : Bool) → stop t.span ≤ length buffer →
      cond b None (Some (record { kind = token.unexpected_char 0x3f; span = t.span })) ≡ Some f → stop f.span ≤ length buffer
  number-within t f true w e = cc
  number-within t f false w e =
      let is : record { kind = token.unexpected_char 0x3f; span = t.span } ≡ f = cc in
      let ends : stop f.span ≡ stop t.span = ap (λ (x : Fault). stop x.span) (sym is) in
      omega arith

  fault-within : (t : Token) (k : Kind) (f : Fault) → stop t.span ≤ length buffer → strict_fault_of buffer t k ≡ Some f → stop f.span ≤ length buffer
  fault-within t (token.string start finish has_escapes) f w e = content-within start finish f e
  fault-within t (token.number start finish hint) f w e = number-within t f (is_rfc_number (slice_range buffer start finish)) w e
  fault-within t token.object_start f w e = cc
  fault-within t token.object_end f w e = cc
  fault-within t token.array_start f w e = cc
  fault-within t token.array_end f w e = cc
  fault-within t token.colon f w e = cc
  fault-within t token.comma f w e = cc
  fault-within t token.null f w e = cc
  fault-within t token.true_literal f w e = cc
  fault-within t token.false_literal f w e = cc

  -- ---- in order

  in_order-step : (t : Token) (ts others : Tokens) (from : ℕ) (o : Option Fault) → from < stop t.span → stop t.span ≤ length buffer →
      strict_fault buffer t ≡ o → InOrder buffer (stop t.span) others →
      InOrder buffer from (elim o as (λ _. Tokens) [ None ↦ next t others | Some f ↦ refused f ])
  in_order-step t ts others from None b w e more = at_a_token from t others b w more
  in_order-step t ts others from (Some f) b w e more = at_a_fault from f (fault-within t t.kind f w e)

  strict-in_order : (ts : Tokens) (from : ℕ) → InOrder buffer from ts → InOrder buffer from (strict_tokens buffer ts)
  unfolding strict_tokens
  strict-in_order _ from (at_the_end _) = at_the_end from
  strict-in_order _ from (at_a_fault _ f w) = at_a_fault from f w
  strict-in_order _ from (at_a_token _ t ts b w more) =
      in_order-step t ts (strict_tokens buffer ts) from (strict_fault buffer t) b w refl (strict-in_order ts (stop t.span) more)

-- ---- in either language

-- After a token stand the tokens from its end on.
pub tokens_in-others : (language : Language) (buffer : List ℕ) (from : ℕ) (t : Token) (ts : Tokens) →
    tokens_in language buffer from ≡ next t ts → tokens_in language buffer (stop t.span) ≡ ts
tokens_in-others (lenient mode) buffer from t ts e = tokens_from-others buffer mode from t ts e
tokens_in-others (strict mode) buffer from t ts e =
    let b = strict-begins buffer (tokens_from buffer mode from) t ts e in
    ap (strict_tokens buffer) (tokens_from-others buffer mode from t b.rest b.first) ∙ b.same

-- Where a token of the language stands, that token stands, whatever the other tokens' texts are.
pub plain-first : (language : Language) (buffer : List ℕ) (from : ℕ) (t : Token) (ts : Tokens) → tokens_in language buffer from ≡ next t ts →
    tokens_from buffer (gaps language) from ≡ next t (tokens_from buffer (gaps language) (stop t.span))
plain-first (lenient mode) buffer from t ts e = e ∙ ap (next t) (sym (tokens_from-others buffer mode from t ts e))
plain-first (strict mode) buffer from t ts e =
    let b = strict-begins buffer (tokens_from buffer mode from) t ts e in
    b.first ∙ ap (next t) (sym (tokens_from-others buffer mode from t b.rest b.first))

-- The tokens from a position on lie after it.
pub tokens_in-in_order : (language : Language) (buffer : List ℕ) (position : ℕ) → position ≤ length buffer →
    InOrder buffer position (tokens_in language buffer position)
tokens_in-in_order (lenient mode) buffer position h = tokens-in_order buffer mode position h
tokens_in-in_order (strict mode) buffer position h = strict-in_order buffer _ position (tokens-in_order buffer mode position h)

-- ---- what is cut

module _ (buffer : List ℕ) where
  -- A token that is cut strictly is cut, and is allowed.
  pub strict_token-is : (c : Cut) (t : Token) → strict_cut buffer c ≡ cut_token t → (c ≡ cut_token t) × (strict_fault buffer t ≡ None)
  strict_token-is nothing_left t e = cc
  strict_token-is (fault f) t e = cc
  strict_token-is (cut_token u) t e = by (strict_fault buffer u) refl e
    where
      by : (o : Option Fault) → strict_fault buffer u ≡ o → (elim o as (λ _. Cut) [ None ↦ cut_token u | Some f ↦ fault f ]) ≡ cut_token t →
          (cut_token u ≡ cut_token t) × (strict_fault buffer t ≡ None)
      by None a k = let same : u ≡ t = cc in (k, ap (strict_fault buffer) (sym same) ∙ a)
      by (Some f) a k = cc

  -- A fault that is cut strictly is cut, or is a token's.
  pub data IsStrictFault (f : Fault) : Cut → Type 0 where
    is_cut : IsStrictFault f (fault f)
    of_token : (t : Token) → strict_fault buffer t ≡ Some f → IsStrictFault f (cut_token t)

  pub strict_fault-is : (c : Cut) (f : Fault) → strict_cut buffer c ≡ fault f → IsStrictFault f c
  strict_fault-is nothing_left f e = cc
  strict_fault-is (fault g) f e = let same : g ≡ f = cc in rw same is_cut
  strict_fault-is (cut_token u) f e = by (strict_fault buffer u) refl e
    where
      by : (o : Option Fault) → strict_fault buffer u ≡ o → (elim o as (λ _. Cut) [ None ↦ cut_token u | Some g ↦ fault g ]) ≡ fault f →
          IsStrictFault f (cut_token u)
      by None a k = cc
      by (Some g) a k = let same : g ≡ f = cc in of_token u (a ∙ ap Some same)

  strict_nothing-is : (c : Cut) → strict_cut buffer c ≡ nothing_left → c ≡ nothing_left
  strict_nothing-is nothing_left e = refl
  strict_nothing-is (fault g) e = cc
  strict_nothing-is (cut_token u) e = by (strict_fault buffer u) refl e
    where
      by : (o : Option Fault) → strict_fault buffer u ≡ o → (elim o as (λ _. Cut) [ None ↦ cut_token u | Some g ↦ fault g ]) ≡ nothing_left →
          cut_token u ≡ nothing_left
      by None a k = cc
      by (Some g) a k = cc

  allowed-next : (t : Token) (ts : Tokens) → strict_fault buffer t ≡ None → strict_tokens buffer (next t ts) ≡ next t (strict_tokens buffer ts)
  unfolding strict_tokens
  allowed-next t ts a = rw (a, strict_tokens) refl

  refused-next : (t : Token) (ts : Tokens) (f : Fault) → strict_fault buffer t ≡ Some f → strict_tokens buffer (next t ts) ≡ refused f
  unfolding strict_tokens
  refused-next t ts f a = rw (a, strict_tokens) refl

  strict-fault_there : (mode : Mode) (position : ℕ) (f : Fault) (c : Cut) → position ≤ length buffer → cut buffer position mode ≡ c → IsStrictFault f c →
      strict_tokens buffer (tokens_from buffer mode position) ≡ refused f
  unfolding strict_tokens
  strict-fault_there mode position f _ p e is_cut = ap (strict_tokens buffer) (tokens_from-fault buffer position mode f e)
  strict-fault_there mode position f _ p e (of_token t a) =
      ap (strict_tokens buffer) (tokens_from-token buffer position mode t p e) ∙ refused-next t (tokens_from buffer mode (stop t.span)) f a

  strict-ended : strict_tokens buffer ended ≡ ended
  unfolding strict_tokens
  strict-ended = refl

-- Where a token is cut, it is the first, and the others stand from its end on.
pub tokens_in-token : (language : Language) (buffer : List ℕ) (position : ℕ) (t : Token) → position ≤ length buffer →
    cut_in language buffer position ≡ cut_token t → tokens_in language buffer position ≡ next t (tokens_in language buffer (stop t.span))
tokens_in-token (lenient mode) buffer position t p e = tokens_from-token buffer position mode t p e
tokens_in-token (strict mode) buffer position t p e =
    let is = strict_token-is buffer (cut buffer position mode) t e in
    ap (strict_tokens buffer) (tokens_from-token buffer position mode t p is.0) ∙ allowed-next buffer t _ is.1

pub tokens_in-fault : (language : Language) (buffer : List ℕ) (position : ℕ) (f : Fault) → position ≤ length buffer →
    cut_in language buffer position ≡ fault f → tokens_in language buffer position ≡ refused f
tokens_in-fault (lenient mode) buffer position f p e = tokens_from-fault buffer position mode f e
tokens_in-fault (strict mode) buffer position f p e =
    strict-fault_there buffer mode position f (cut buffer position mode) p refl (strict_fault-is buffer (cut buffer position mode) f e)

pub tokens_in-nothing : (language : Language) (buffer : List ℕ) (position : ℕ) → cut_in language buffer position ≡ nothing_left →
    tokens_in language buffer position ≡ ended
tokens_in-nothing (lenient mode) buffer position e = tokens_from-nothing buffer position mode e
tokens_in-nothing (strict mode) buffer position e =
    ap (strict_tokens buffer) (tokens_from-nothing buffer position mode (strict_nothing-is buffer (cut buffer position mode) e)) ∙ strict-ended buffer

-- ---- what is allowed

-- A token that is cut and allowed is the first, and the others stand from its end on.
pub tokens_in-allowed : (language : Language) (buffer : List ℕ) (position : ℕ) (t : Token) → position ≤ length buffer →
    cut buffer position (gaps language) ≡ cut_token t → Allows language buffer t →
    tokens_in language buffer position ≡ next t (tokens_in language buffer (stop t.span))
tokens_in-allowed (lenient mode) buffer position t p e a = tokens_from-token buffer position mode t p e
tokens_in-allowed (strict mode) buffer position t p e a =
    ap (strict_tokens buffer) (tokens_from-token buffer position mode t p e) ∙ allowed-next buffer t (tokens_from buffer mode (stop t.span)) a

plain-fault : (buffer : List ℕ) (t : Token) (k : Kind) → needs_meaning k ≡ false → strict_fault_of buffer t k ≡ None
plain-fault buffer t (token.string start finish has_escapes) e = cc
plain-fault buffer t (token.number start finish hint) e = cc
plain-fault buffer t token.object_start e = refl
plain-fault buffer t token.object_end e = refl
plain-fault buffer t token.array_start e = refl
plain-fault buffer t token.array_end e = refl
plain-fault buffer t token.colon e = refl
plain-fault buffer t token.comma e = refl
plain-fault buffer t token.null e = refl
plain-fault buffer t token.true_literal e = refl
plain-fault buffer t token.false_literal e = refl

-- What needs no meaning is allowed.
pub allowed-plain : (language : Language) (buffer : List ℕ) (t : Token) → needs_meaning t.kind ≡ false → Allows language buffer t
allowed-plain (lenient mode) buffer t e = tt
allowed-plain (strict mode) buffer t e = plain-fault buffer t t.kind e
