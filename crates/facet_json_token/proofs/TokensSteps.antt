-- The tokens from a position on, by what is cut there.
use Rattle.std.proofs.Common.{◌≡◌, ℕ, zero, suc, ◌+◌, ◌-◌, ◌≤◌, List, [], ◌∷◌, length, drop, inl, inr, refl, sym, ap, ◌∙◌, arith, length-drop}
use Rattle.std.proofs.lemmas.Bool.{cases_lt}
use Rattle.std.proofs.lemmas.List.{drop-drop, drop_all}
use Rattle.facet_json_token.specs.Gap.{Mode}
use Rattle.facet_json_token.specs.Token.{Token, Fault}
use Rattle.facet_format.specs.Span.{stop}
use Rattle.facet_json_token.specs.Cut.{Cut, nothing_left, token, fault, cut_here, past_gap, cut}
use Rattle.facet_json_token.specs.Tokens.{Tokens, ended, refused, next}
use Rattle.facet_json_token.specs.TokenList.{tokens_past, tokens_from}
use Rattle.facet_json_token.proofs.CutBounds.{TokenFits, cut-token_fits, drop_next}

-- The tokens after k more bytes of the token before.
tokens_past-skip : (buffer : List ℕ) (mode : Mode) (k at to : ℕ) (left : List ℕ) → k ≤ length left → at + k ≡ to →
    tokens_past buffer mode k at left ≡ tokens_past buffer mode 0 to (drop k left)
unfolding tokens_past
tokens_past-skip buffer mode zero at to left h e =
    let same : at ≡ to = omega arith in ap (λ n. tokens_past buffer mode 0 n left) same
tokens_past-skip buffer mode (suc k) at to [] h e = absurd (omega arith)
tokens_past-skip buffer mode (suc k) at to (b ∷ left) h e =
    tokens_past-skip buffer mode k (suc at) to left (omega arith) (omega arith)

-- Nothing is left at the end of the buffer.
pub cut-end : (buffer : List ℕ) (position : ℕ) (mode : Mode) → length buffer ≤ position →
    cut buffer position mode ≡ nothing_left
unfolding cut cut_here
cut-end buffer position mode h =
    let at = past_gap buffer position mode in
    ap (cut_here mode at) (drop_all at buffer (omega arith))

-- what follows by what is cut, where bytes are left
abbrev pub follow : List ℕ → Mode → ℕ → List ℕ → Cut → Tokens
follow buffer mode at left nothing_left = ended
follow buffer mode at left (fault f) = refused f
follow buffer mode at left (token t) = next t (tokens_past buffer mode (stop t.span - suc at) (suc at) left)

-- Where bytes are left, what is cut says how the tokens go on.
tokens_past-here : (buffer : List ℕ) (mode : Mode) (at b : ℕ) (left : List ℕ) →
    tokens_past buffer mode 0 at (b ∷ left) ≡ follow buffer mode at left (cut buffer at mode)
unfolding tokens_past
tokens_past-here buffer mode at b left = refl

-- At the end of the buffer no byte is left.
nothing_behind : (buffer : List ℕ) (position : ℕ) → drop position buffer ≡ [] → length buffer ≤ position
nothing_behind buffer position e = omega (arith, length-drop position buffer, ap length e)

-- The step at a token, where these bytes are left.
next_at : (buffer : List ℕ) (mode : Mode) (position : ℕ) (t : Token) (left : List ℕ) → TokenFits buffer position t →
    cut buffer position mode ≡ token t → drop position buffer ≡ left →
    tokens_past buffer mode 0 position left ≡ next t (tokens_from buffer mode (stop t.span))
next_at buffer mode position t [] fits e here = absurd (omega (arith, nothing_behind buffer position here))
next_at buffer mode position t (b ∷ left) fits e here =
    let k = stop t.span - suc position in
    let behind : drop (suc position) buffer ≡ left = drop_next buffer left position b here in
    let room : k ≤ length left = omega (arith, length-drop (suc position) buffer, ap length behind) in
    let to : suc position + k ≡ stop t.span = omega arith in
    let rest : drop k left ≡ drop (stop t.span) buffer =
    ap (drop k) (sym behind) ∙ drop-drop k (suc position) buffer ∙ ap (λ n. drop n buffer) to in
    tokens_past-here buffer mode position b left ∙ ap (follow buffer mode position left) e
    ∙ ap (next t) (tokens_past-skip buffer mode k (suc position) (stop t.span) left room to
    ∙ ap (tokens_past buffer mode 0 (stop t.span)) rest)

-- Where a token is cut, it is the first, and the others are those from its end on.
pub tokens_from-token : (buffer : List ℕ) (position : ℕ) (mode : Mode) (t : Token) → position ≤ length buffer →
    cut buffer position mode ≡ token t →
    tokens_from buffer mode position ≡ next t (tokens_from buffer mode (stop t.span))
tokens_from-token buffer position mode t h e =
    next_at buffer mode position t (drop position buffer) (cut-token_fits buffer position mode t h e) e refl

-- The step at a fault, where these bytes are left.
refused_at : (buffer : List ℕ) (mode : Mode) (position : ℕ) (f : Fault) (left : List ℕ) →
    cut buffer position mode ≡ fault f → drop position buffer ≡ left →
    tokens_past buffer mode 0 position left ≡ refused f
refused_at buffer mode position f [] e here =
    let none : cut buffer position mode ≡ nothing_left =
    cut-end buffer position mode (nothing_behind buffer position here) in cc
refused_at buffer mode position f (b ∷ left) e here =
    tokens_past-here buffer mode position b left ∙ ap (follow buffer mode position left) e

-- Where a fault is cut, it ends the tokens.
pub tokens_from-fault : (buffer : List ℕ) (position : ℕ) (mode : Mode) (f : Fault) →
    cut buffer position mode ≡ fault f → tokens_from buffer mode position ≡ refused f
tokens_from-fault buffer position mode f e = refused_at buffer mode position f (drop position buffer) e refl

-- The step where nothing is left.
ended_at : (buffer : List ℕ) (mode : Mode) (position : ℕ) (left : List ℕ) → cut buffer position mode ≡ nothing_left →
    tokens_past buffer mode 0 position left ≡ ended
unfolding tokens_past
ended_at buffer mode position [] e = refl
ended_at buffer mode position (b ∷ left) e =
    tokens_past-here buffer mode position b left ∙ ap (follow buffer mode position left) e

-- Where nothing is left, the tokens end.
pub tokens_from-nothing : (buffer : List ℕ) (position : ℕ) (mode : Mode) → cut buffer position mode ≡ nothing_left →
    tokens_from buffer mode position ≡ ended
tokens_from-nothing buffer position mode e = ended_at buffer mode position (drop position buffer) e

-- ---- by what is cut first

-- Where a token is cut, the position lies within the buffer.
pub cut-token_within : (buffer : List ℕ) (position : ℕ) (mode : Mode) (t : Token) → cut buffer position mode ≡ token t →
    position ≤ length buffer
cut-token_within buffer position mode t e =
    elim (cases_lt position (length buffer)) [
      | inl h ↦ omega arith
      | inr h ↦ let none : cut buffer position mode ≡ nothing_left = cut-end buffer position mode h in cc
    ]

-- the tokens by what is cut first
abbrev pub by_first : List ℕ → Mode → Cut → Tokens
by_first buffer mode nothing_left = ended
by_first buffer mode (fault f) = refused f
by_first buffer mode (token t) = next t (tokens_from buffer mode (stop t.span))

-- What is cut first says what the tokens are.
pub tokens_by_first : (buffer : List ℕ) (mode : Mode) (position : ℕ) (c : Cut) → cut buffer position mode ≡ c →
    tokens_from buffer mode position ≡ by_first buffer mode c
tokens_by_first buffer mode position nothing_left e = tokens_from-nothing buffer position mode e
tokens_by_first buffer mode position (fault f) e = tokens_from-fault buffer position mode f e
tokens_by_first buffer mode position (token t) e =
    tokens_from-token buffer position mode t (cut-token_within buffer position mode t e) e

-- The tokens after the first are those from its end on.
after_first : (buffer : List ℕ) (mode : Mode) (c : Cut) (t : Token) (others : Tokens) → by_first buffer mode c ≡ next t others →
    tokens_from buffer mode (stop t.span) ≡ others
after_first buffer mode (token u) t others e = cc
after_first buffer mode nothing_left t others e = cc
after_first buffer mode (fault f) t others e = cc

pub tokens_from-others : (buffer : List ℕ) (mode : Mode) (position : ℕ) (t : Token) (others : Tokens) →
    tokens_from buffer mode position ≡ next t others → tokens_from buffer mode (stop t.span) ≡ others
tokens_from-others buffer mode position t others e =
    let c = cut buffer position mode in
    after_first buffer mode c t others (sym (tokens_by_first buffer mode position c refl) ∙ e)
