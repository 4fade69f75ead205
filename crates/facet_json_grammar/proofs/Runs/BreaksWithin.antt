-- What breaks off is refused within the buffer, where its tokens lie within it.
use Rattle.std.proofs.Common.{ℕ, ◌≤◌, List, length, arith}
use Rattle.std.specs.Prelude.{IfSome}
use Rattle.facet_format.specs.Complaint.{Refusal}
use Rattle.facet_format.specs.Span.{stop}
use Rattle.facet_json_token.specs.Token.{Token, Fault}
use Rattle.facet_json_token.specs.Tokens.{Tokens, refused, next}
use Rattle.facet_json_grammar.specs.Run.{Run, one_token, brackets, RunsInside, nothing, separator, a_run, BreaksOff, ends_inside, fault_inside, crossed, nested}
use Rattle.facet_json_grammar.proofs.TokensInOrder.{AreWithin, fault_within, token_within}

module _ (buffer : List ℕ) where
  others-within : (t : Token) (ts : Tokens) → AreWithin buffer (next t ts) → AreWithin buffer ts
  others-within t ts (token_within _ _ h w) = w

  token-within : (t : Token) (ts : Tokens) → AreWithin buffer (next t ts) → stop t.span ≤ length buffer
  token-within t ts (token_within _ _ h w) = h

  fault-within : (f : Fault) → AreWithin buffer (refused f) → stop f.span ≤ length buffer
  fault-within f (fault_within _ h) = h

  mutual
    after-run : (ts rest : Tokens) (last : Token) → Run ts last rest → AreWithin buffer ts → AreWithin buffer rest
    after-run _ _ _ (one_token t rest e) w = others-within t rest w
    after-run _ _ _ (brackets kind first last inner rest e inside f) w =
        others-within last rest (after-runs inner (next last rest) inside (others-within first inner w))

    after-runs : (ts rest : Tokens) → RunsInside ts rest → AreWithin buffer ts → AreWithin buffer rest
    after-runs _ _ (nothing rest) w = w
    after-runs _ _ (separator t ts rest e more) w = after-runs ts rest more (others-within t ts w)
    after-runs _ _ (a_run ts others rest last run more) w = after-runs others rest more (after-run ts others last run w)

  pub break-within : (ts : Tokens) (refusal : Refusal) → BreaksOff buffer ts refusal → AreWithin buffer ts →
      IfSome refusal.span (λ s. stop s ≤ length buffer)
  break-within _ _ (ends_inside kind first inner e inside) w = omega arith
  break-within _ _ (fault_inside kind first inner f e inside) w =
      fault-within f (after-runs inner (refused f) inside (others-within first inner w))
  break-within _ _ (crossed kind first last inner rest e inside f) w =
      token-within last rest (after-runs inner (next last rest) inside (others-within first inner w))
  break-within _ _ (nested kind first inner others refusal e inside b) w =
      break-within others refusal b (after-runs inner others inside (others-within first inner w))
