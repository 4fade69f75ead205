-- Tokens begin with one run at most, or break off in one way, and an opening bracket begins one of both.
use Rattle.std.proofs.Common.{◌≡◌, ◌⊎◌, inl, inr, ℕ, true, List, [], ◌∷◌, refl, sym, ap, subst, ◌∙◌}
use Rattle.facet_format.specs.Complaint.{Refusal}
use Rattle.facet_format.specs.Event.{ContainerKind, object, array}
use Rattle.facet_json_token.specs.Token.{Kind, Token}
use Rattle.facet_json_token.specs.Tokens.{Tokens, next}
use Rattle.facet_json_grammar.specs.Node.{is_scalar}
use Rattle.facet_json_grammar.specs.Run.{opening, Run, one_token, brackets, BreaksOff}
use Rattle.facet_json_grammar.specs.RunLaws.{OneRun, RunsOrBreaksOff, NoRunBreaksOff, OneBreak}
use Rattle.facet_json_grammar.specs.Inner.PassedRun.{Outcome, closes, stops, passed}
use Rattle.facet_json_grammar.proofs.Runs.RunsPassed.{IsStopped, break-stops, closed-passed}
use Rattle.facet_json_grammar.proofs.Runs.PassedRuns.{IsOutcome, is-outcome}

-- An opening bracket opens one kind.
one_kind : (a b : ContainerKind) → opening a ≡ opening b → a ≡ b
one_kind object object e = refl
one_kind array array e = refl
one_kind object array e = cc
one_kind array object e = cc

-- It is no scalar.
no_scalar : (kind : ContainerKind) (k : Kind) → k ≡ opening kind → is_scalar k ≡ true → ⊥
no_scalar object k e s = cc
no_scalar array k e s = cc

module _ (buffer : List ℕ) where
  -- A run that begins with a bracket is passed up to its end.
  run-closes : (kind : ContainerKind) (first last : Token) (inner rest : Tokens) → first.kind ≡ opening kind →
      Run (next first inner) last rest → passed buffer (kind ∷ []) first inner ≡ closes last rest
  unfolding passed
  run-closes kind first _ _ _ e (one_token _ _ s) = absurd (no_scalar kind first.kind e s)
  run-closes kind first last inner rest e (brackets opened _ _ _ _ f inside g) =
      let same = one_kind opened kind (sym f ∙ e) in
      ap (λ k. passed buffer (k ∷ []) first inner) (sym same) ∙ closed-passed buffer opened [] first last inner rest inside g

  -- Tokens that break off begin with an opening bracket, and are stopped there.
  stopped_here : (kind : ContainerKind) (first : Token) (inner : Tokens) (refusal : Refusal) → first.kind ≡ opening kind →
      IsStopped buffer (next first inner) refusal → passed buffer (kind ∷ []) first inner ≡ stops refusal
  stopped_here kind first inner refusal e s =
      let opened = s.opens in
      let here = s.here in
      let token_same : s.first ≡ first = cc in
      let inner_same : s.inner ≡ inner = cc in
      let same = one_kind s.kind kind (sym opened ∙ ap (λ (t : Token). t.kind) token_same ∙ e) in
      ap (λ k. passed buffer (k ∷ []) first inner) (sym same) ∙ ap (λ t. passed buffer (s.kind ∷ []) t inner) (sym token_same)
      ∙ ap (passed buffer (s.kind ∷ []) s.first) (sym inner_same) ∙ s.stopped []

-- ---- the laws

scalar_run : (t b : Token) (rest s : Tokens) → is_scalar t.kind ≡ true → Run (next t rest) b s → (t ≡ b) × (rest ≡ s)
scalar_run t _ rest _ e (one_token _ _ _) = (refl, refl)
scalar_run t _ rest _ e (brackets kind _ _ _ _ f inside g) = absurd (no_scalar kind t.kind f e)

same_end : (a b : Token) (r s : Tokens) → closes a r ≡ closes b s → (a ≡ b) × (r ≡ s)
same_end a b r s e = (cc, cc)

pub one_run : OneRun
one_run _ r s a b (one_token t rest e) q = scalar_run t b rest s e q
one_run _ r s a b (brackets kind first last inner rest f inside g) q =
    let here = run-closes [] kind first last inner rest f (brackets kind first last inner rest f inside g) in
    same_end last b rest s (sym here ∙ run-closes [] kind first b inner s f q)

-- What begins with an opening bracket has the outcome that is computed.
by_outcome : (buffer : List ℕ) (ts : Tokens) (o : Outcome) → IsOutcome buffer ts o →
    ((last : Token) × (rest : Tokens) × Run ts last rest) ⊎ ((refusal : Refusal) × BreaksOff buffer ts refusal)
by_outcome buffer ts (closes last rest) run = inl (last, rest, run)
by_outcome buffer ts (stops refusal) b = inr (refusal, b)

pub runs_or_breaks_off : RunsOrBreaksOff
runs_or_breaks_off buffer kind first inner e = by_outcome buffer (next first inner) _ (is-outcome buffer kind first inner e)

pub no_run_breaks_off : NoRunBreaksOff
no_run_breaks_off buffer ts rest last refusal run b =
    let s = break-stops buffer ts refusal b in
    let closed = run-closes buffer s.kind s.first last s.inner rest s.opens (subst (λ us. Run us last rest) s.here run) in
    let stopped = s.stopped [] in
    cc

pub one_break : OneBreak
one_break buffer ts a b p q =
    let s = break-stops buffer ts a p in
    let here = subst (λ us. BreaksOff buffer us b) s.here q in
    let other = stopped_here buffer s.kind s.first s.inner b s.opens (break-stops buffer (next s.first s.inner) b here) in
    let stopped = s.stopped [] in
    cc
