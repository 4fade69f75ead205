-- The tokens of an input stand in order, and within it.
use Rattle.std.proofs.Common.{◌≡◌, ℕ, zero, suc, ◌+◌, ◌-◌, ◌<◌, ◌≤◌, List, [], ◌∷◌, length, drop, arith, length-drop}
use Rattle.facet_json_token.specs.Gap.{Mode}
use Rattle.facet_json_token.specs.Token.{Token, Fault}
use Rattle.facet_format.specs.Span.{stop}
use Rattle.facet_json_token.specs.Cut.{Cut, nothing_left, token, fault, cut}
use Rattle.facet_json_token.specs.Tokens.{Tokens, ended, refused, next}
use Rattle.facet_json_token.specs.TokenList.{tokens_past, tokens_from}
use Rattle.facet_json_grammar.proofs.InOrder.{InOrder, at_the_end, at_a_fault, at_a_token}
use Rattle.facet_json_token.proofs.CutBounds.{CutFits, cut-fits}

-- What lies after an offset lies after smaller ones.
pub in_order-weaker : (buffer : List ℕ) (ts : Tokens) (from less : ℕ) → less ≤ from → InOrder buffer from ts → InOrder buffer less ts
in_order-weaker buffer _ from less h (at_the_end _) = at_the_end less
in_order-weaker buffer _ from less h (at_a_fault _ f w) = at_a_fault less f w
in_order-weaker buffer _ from less h (at_a_token _ t ts b w more) = at_a_token less t ts (omega arith) w more

-- What is cut at a place of the buffer, with the tokens after it.
cut_in_order : (buffer : List ℕ) (position : ℕ) (c : Cut) (others : Token → Tokens) → CutFits buffer position c →
    ((t : Token) → position < stop t.span → InOrder buffer (stop t.span) (others t)) →
    InOrder buffer position (elim c as (λ _. Tokens) [ nothing_left ↦ ended | fault f ↦ refused f | token t ↦ next t (others t) ])
cut_in_order buffer position nothing_left others f w = at_the_end position
cut_in_order buffer position (token t) others f w =
    let behind : position < stop t.span = omega (arith, f.behind, f.some) in
    at_a_token position t (others t) behind f.within (w t behind)
cut_in_order buffer position (fault x) others f w = at_a_fault position x f.within

past_token : (buffer : List ℕ) (mode : Mode) (at : ℕ) (left : List ℕ) (t : Token) → at < stop t.span →
    InOrder buffer (suc at + (stop t.span - suc at)) (tokens_past buffer mode (stop t.span - suc at) (suc at) left) →
    InOrder buffer (stop t.span) (tokens_past buffer mode (stop t.span - suc at) (suc at) left)
past_token buffer mode at left t behind more = in_order-weaker buffer _ _ (stop t.span) (omega arith) more

past_in_order : (buffer : List ℕ) (mode : Mode) (inside at : ℕ) (left : List ℕ) → at + length left ≤ length buffer →
    InOrder buffer (at + inside) (tokens_past buffer mode inside at left)
unfolding tokens_past
past_in_order buffer mode inside at [] h = at_the_end (at + inside)
past_in_order buffer mode (suc inside) at (b ∷ left) h =
    let there : at + suc inside ≡ suc at + inside = omega arith in
    rw there (past_in_order buffer mode inside (suc at) left (omega arith))
past_in_order buffer mode zero at (b ∷ left) h =
    let here : at + 0 ≡ at = omega arith in
    rw here (cut_in_order buffer at (cut buffer at mode) (λ t. tokens_past buffer mode (stop t.span - suc at) (suc at) left) (cut-fits buffer at mode (omega arith)) (λ t behind. past_token buffer mode at left t behind (past_in_order buffer mode (stop t.span - suc at) (suc at) left (omega arith))))

-- The tokens from a position on lie after it.
pub tokens-in_order : (buffer : List ℕ) (mode : Mode) (position : ℕ) → position ≤ length buffer →
    InOrder buffer position (tokens_from buffer mode position)
tokens-in_order buffer mode position h =
    in_order-weaker buffer _ (position + 0) position (omega arith) (past_in_order buffer mode 0 position (drop position buffer) (omega (arith, length-drop position buffer)))

-- ---- within the buffer

-- Every token and the fault after the last are within the buffer.
pub data AreWithin (buffer : List ℕ) : Tokens → Type 0 where
  end_within : AreWithin buffer ended
  fault_within : (f : Fault) → stop f.span ≤ length buffer → AreWithin buffer (refused f)
  token_within : (t : Token) (ts : Tokens) → stop t.span ≤ length buffer → AreWithin buffer ts → AreWithin buffer (next t ts)

-- Tokens in order are.
pub in_order-within : (buffer : List ℕ) (from : ℕ) (ts : Tokens) → InOrder buffer from ts → AreWithin buffer ts
in_order-within buffer from _ (at_the_end _) = end_within
in_order-within buffer from _ (at_a_fault _ f w) = fault_within f w
in_order-within buffer from _ (at_a_token _ t ts b w more) = token_within t ts w (in_order-within buffer (stop t.span) ts more)
