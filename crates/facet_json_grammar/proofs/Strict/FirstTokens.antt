-- What stands in a plain text at a place: white space and the bytes of the first token, or white space alone.
use Rattle.std.proofs.Common.{◌≡◌, ℕ, ◌+◌, Bool, true, false, List, [], ◌∷◌, ◌++◌, take, drop, None, refl, sym, ap, ◌∙◌, subst, append_assoc, append-nil, take-append-drop}
use Rattle.std.proofs.lemmas.Bool.{and_from}
use Rattle.std.proofs.lemmas.List.{drop-drop}
use Rattle.facet_format.specs.Bytes.{is_space}
use Rattle.facet_format.specs.Span.{stop}
use Rattle.facet_json_token.specs.Gap.{plain, whole}
use Rattle.facet_json_token.specs.GapLen.{piece_len, gap_len, gap_len_from}
use Rattle.facet_json_token.specs.Token.{comma, Token}
use Rattle.facet_json_token.specs.Cut.{Cut, nothing_left, token, fault, past_gap, cut}
use Rattle.facet_json_token.specs.Shape.{IsShape}
use Rattle.facet_json_token.specs.Tokens.{Tokens, ended, next}
use Rattle.facet_json_token.specs.TokenList.{tokens_from}
use Rattle.facet_json_token.proofs.Gaps.{gap_len-none, gap_len-some}
use Rattle.facet_json_token.proofs.ShapeIsCut.{CutShape, here_shape}
use Rattle.facet_json_token.proofs.TokensSteps.{by_first, tokens_by_first, tokens_from-others}
use Rattle.facet_json_token.specs.Strict.{strict_fault}
use Rattle.facet_json_grammar.specs.StrictDocument.{begins_closing, AreStrict, none_left, one_more}
use Rattle.facet_json_grammar.specs.RfcText.{InUtf8, AreSpaces, Spaced}
use Rattle.facet_json_grammar.proofs.Rfc.Encoded.{joined}
use Rattle.facet_json_grammar.proofs.Rfc.Lists.{unspaced, spaced_before}
use Rattle.facet_json_grammar.proofs.Rfc.Structural.{blank_text}

-- ---- gaps

-- A gap of plain text is white space.
plain_gap-blank : (left : List ℕ) → AreSpaces (take (gap_len plain whole left) left)
unfolding gap_len_from
plain_gap-blank [] = refl
plain_gap-blank (b ∷ left) = by (plain_gap-blank left) (is_space b) refl
  where
    by : AreSpaces (take (gap_len plain whole left) left) → (blank : Bool) → is_space b ≡ blank →
        AreSpaces (take (gap_len plain whole (b ∷ left)) (b ∷ left))
    by more true e =
        let one : piece_len plain whole (b ∷ left) ≡ 1 = rw e refl in
        rw (gap_len-some plain whole b left 0 one) (and_from (is_space b) _ e more)
    by more false e =
        let none : piece_len plain whole (b ∷ left) ≡ 0 = rw e refl in
        rw (gap_len-none plain whole (b ∷ left) none) refl

-- ---- the first token

-- What is cut first is the first token, or nothing where no token comes.
by_first-token : (buffer : List ℕ) (c : Cut) (t : Token) (rest : Tokens) → by_first buffer plain c ≡ next t rest → c ≡ token t
by_first-token buffer (token u) t rest e = cc
by_first-token buffer nothing_left t rest e = cc
by_first-token buffer (fault f) t rest e = cc

by_first-ended : (buffer : List ℕ) (c : Cut) → by_first buffer plain c ≡ ended → c ≡ nothing_left
by_first-ended buffer (token u) e = cc
by_first-ended buffer nothing_left e = refl
by_first-ended buffer (fault f) e = cc

-- The first of strict tokens, and the others.
strict-first : (buffer : List ℕ) {ts : Tokens} (t : Token) (rest : Tokens) → ts ≡ next t rest → AreStrict buffer ts →
    (strict_fault buffer t ≡ None) × (t.kind ≡ comma → begins_closing rest ≡ false) × AreStrict buffer rest
strict-first buffer t rest e none_left = cc
strict-first buffer t rest e (one_more u others right led more) =
    let same : t ≡ u = cc in
    let after : rest ≡ others = cc in
    rw (same, after) (right, led, more)

module _ (buffer : List ℕ) where
  -- These tokens come from the position on, and are strict.
  pub record Come (from : ℕ) (ts : Tokens) : Type 0 where
    pub are : tokens_from buffer plain from ≡ ts
    pub strict : AreStrict buffer ts

  -- The token stands first after the position and white space, and others come behind it.
  pub record IsFirst (from : ℕ) (t : Token) (rest : Tokens) : Type 0 where
    pub at : ℕ
    pub gap : List ℕ
    pub bytes : List ℕ
    pub blank : AreSpaces gap
    pub here : drop at buffer ≡ bytes ++ drop (stop t.span) buffer
    pub shape : IsShape at bytes (drop (stop t.span) buffer) t.kind
    pub all : drop from buffer ≡ gap ++ bytes ++ drop (stop t.span) buffer
    pub right : strict_fault buffer t ≡ None
    pub led : t.kind ≡ comma → begins_closing rest ≡ false
    pub others : Come (stop t.span) rest

  -- A gap, and what stands after it.
  past_gap-split : (from : ℕ) →
      drop from buffer ≡ take (gap_len plain whole (drop from buffer)) (drop from buffer) ++ drop (past_gap buffer from plain) buffer
  past_gap-split from =
      let n = gap_len plain whole (drop from buffer) in
      sym (take-append-drop n (drop from buffer)) ∙ ap (λ l. take n (drop from buffer) ++ l) (drop-drop n from buffer)

  is_cut : (from : ℕ) → tokens_from buffer plain from ≡ by_first buffer plain (cut buffer from plain)
  is_cut from = tokens_by_first buffer plain from (cut buffer from plain) refl

  cut-shape : (from : ℕ) (c : Cut) → cut buffer from plain ≡ c → CutShape (past_gap buffer from plain) (drop (past_gap buffer from plain) buffer) c
  unfolding cut
  cut-shape from c e =
      let at = past_gap buffer from plain in subst (CutShape at (drop at buffer)) e (here_shape plain at (drop at buffer))

  -- The first token that comes stands there.
  pub first-token : (from : ℕ) (t : Token) (rest : Tokens) → Come from (next t rest) → IsFirst from t rest
  first-token from t rest come =
      let at = past_gap buffer from plain in
      let len = t.span.len in
      let left = drop at buffer in
      let stands = cut-shape from (token t) (by_first-token buffer _ t rest (sym (is_cut from) ∙ come.are)) in
      let ends : drop len left ≡ drop (stop t.span) buffer =
      drop-drop len at buffer ∙ ap (λ o. drop (o + len) buffer) (sym stands.starts) in
      let here : left ≡ take len left ++ drop (stop t.span) buffer =
      sym (take-append-drop len left) ∙ ap (λ l. take len left ++ l) ends in
      let strict = strict-first buffer t rest refl come.strict in
      record {
        at = at;
        gap = take (gap_len plain whole (drop from buffer)) (drop from buffer);
        bytes = take len left;
        blank = plain_gap-blank (drop from buffer);
        here = here;
        shape = subst (λ l. IsShape at (take len left) l t.kind) ends stands.shape;
        all =
            past_gap-split from ∙ ap (λ l. take (gap_len plain whole (drop from buffer)) (drop from buffer) ++ l) here
            ∙ sym (append_assoc _ (take len left) (drop (stop t.span) buffer));
        right = strict.0;
        led = strict.1;
        others = record { are = tokens_from-others buffer plain from t rest come.are; strict = strict.2 };
      }

  -- Where no token comes, white space alone is left.
  pub ended-blank : (from : ℕ) → Come from ended → AreSpaces (drop from buffer)
  ended-blank from come =
      let none = cut-shape from nothing_left (by_first-ended buffer _ (sym (is_cut from) ∙ come.are)) in
      rw (past_gap-split from, none, append-nil) (plain_gap-blank (drop from buffer))

  -- ---- parts of the text

  -- From the position on such characters stand, in UTF-8, and the tokens come behind them.
  pub record StandBefore (P : List ℕ → Type 0) (from : ℕ) (rest : Tokens) : Type 0 where
    pub to : ℕ
    pub bytes : List ℕ
    pub such : InUtf8 P bytes
    pub whole : drop from buffer ≡ bytes ++ drop to buffer
    pub others : Come to rest

  -- The first token's bytes, with the white space before them.
  pub first-stands : {P : List ℕ → Type 0} {from : ℕ} {t : Token} {rest : Tokens} (first : IsFirst from t rest) → InUtf8 P first.bytes →
      StandBefore (Spaced P) from rest
  first-stands {P} {from} {t} {rest} first such = record {
    to = stop t.span;
    bytes = first.gap ++ first.bytes;
    such = joined {P = AreSpaces} {Q = P} {R = Spaced P} (λ a b blank p. spaced_before a b blank (unspaced b p))
        (blank_text first.gap first.blank) such;
    whole = first.all;
    others = first.others;
  }

  -- One part and the next.
  pub stand-joined : {P Q R : List ℕ → Type 0} {from : ℕ} {ts rest : Tokens} → ((a b : List ℕ) → P a → Q b → R (a ++ b)) →
      (first : StandBefore P from ts) → StandBefore Q first.to rest → StandBefore R from rest
  stand-joined f first second = record {
    to = second.to;
    bytes = first.bytes ++ second.bytes;
    such = joined f first.such second.such;
    whole = first.whole ∙ ap (λ l. first.bytes ++ l) second.whole ∙ sym (append_assoc first.bytes second.bytes (drop second.to buffer));
    others = second.others;
  }
