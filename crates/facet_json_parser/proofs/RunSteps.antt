-- Where passing a run stands after each token, and how it ends.
use Rattle.std.proofs.Common.{◌≡◌, ◌⊎◌, ◌≤◌, ◌<◌, ◌∙◌, inl, inr, ℕ, true, List, [], ◌∷◌, length, Some, Ok, Err, refl, sym, ap}
use Rattle.facet_json_token.specs.declared.token.Token.TheVariants as code
use Rattle.facet_json_token.specs.declared.token.SpannedToken.{SpannedToken}
use Rattle.facet_json_token.specs.declared.fault.Fault.{Fault}
use Rattle.facet_format.specs.Complaint.{Refusal}
use Rattle.facet_format.specs.Cursor.{no_memory_at}
use Rattle.facet_format.specs.Event.{ContainerKind}
use Rattle.facet_format.specs.Span.{Span, span_at, stop}
use Rattle.facet_format.specs.Views.{span_of}
use Rattle.facet_json_token.specs.Gap.{Mode}
use Rattle.facet_json_token.specs.Token.{Kind, Token}
use Rattle.facet_json_token.specs.Tokens.{Tokens, ended, refused, next}
use Rattle.facet_json_token.specs.TokenList.{tokens_from}
use Rattle.facet_json_token.specs.Cut.{cut}
use Rattle.facet_json_token.specs.Views.{kind_of, cut_of, told_refusal}
use Rattle.facet_json_grammar.specs.Language.{lenient}
use Rattle.facet_json_grammar.specs.Node.{is_scalar}
use Rattle.facet_json_grammar.specs.Run.{opening, one_token}
use Rattle.facet_json_grammar.specs.Inner.PassedRun.{leaves, crosses, passing, closes, stops, passed}
use Rattle.facet_json_grammar.proofs.Runs.RunsPassed.{passed-next}
use Rattle.facet_json_grammar.proofs.Runs.PassedRuns.{is-outcome}
use Rattle.facet_json_reader.proofs.CutsAtPlaces.{IsCut, ends, stands, is_cut, Refuses, is_refused}
use Rattle.facet_json_parser.specs.RunViews.{EndsRun, IsRunRefused, breaks_off, without_memory, value_expected}
pub use Rattle.facet_json_parser.specs.Inner.Leads.{run_goes_on, run_opening, run_tokens, whole, RunComesTo}

module _ (buffer : List ℕ) (mode : Mode) where
  pub leads-first : (stack : List ContainerKind) (kind : ContainerKind) (first : Span) → stack ≡ kind ∷ [] →
      RunComesTo buffer mode stack first (whole buffer mode kind first)
  leads-first stack kind first e =
      record { kind = opening kind; same = ap (λ brackets. run_goes_on buffer mode brackets (run_opening buffer mode kind first)) e }

  -- ---- the end

  -- Where no bracket is open any more, the run has ended.
  pub leads-ends : (stack : List ContainerKind) (kind : ContainerKind) (first s : Span) → stack ≡ [] →
      RunComesTo buffer mode stack s (whole buffer mode kind first) → EndsRun buffer mode (run_tokens buffer mode kind first) s
  unfolding passed
  leads-ends stack kind first s e l =
      let last : Token = record { kind = l.kind; span = s } in
      let here : closes last (tokens_from buffer mode (stop s)) ≡ whole buffer mode kind first =
      sym (ap (λ brackets. run_goes_on buffer mode brackets last) e) ∙ l.same in
      record { last = last; is_last = refl; run = rw (← here) at (is-outcome buffer kind (run_opening buffer mode kind first) (tokens_from buffer mode (stop first)) refl) }

  -- A scalar ends its own run.
  pub scalar-ends : (kind : Kind) (s : Span) → is_scalar kind ≡ true →
      EndsRun buffer mode (next (record { kind = kind; span = s }) (tokens_from buffer mode (stop s))) s
  scalar-ends kind s e = record {
    last = record { kind = kind; span = s };
    is_last = refl;
    run = one_token (record { kind = kind; span = s }) (tokens_from buffer mode (stop s)) e;
  }

  -- ---- refusals

  pub unopened : (kind : ContainerKind) (first last : Span) (refusal : Refusal) → refusal ≡ no_memory_at last →
      IsRunRefused buffer last (run_tokens buffer mode kind first) refusal
  unopened kind first last refusal e = rw e (without_memory kind (run_opening buffer mode kind first) (tokens_from buffer mode (stop first)) refl)

  -- Where all is stopped, the run breaks off.
  stopped : (kind : ContainerKind) (first last : Span) (refusal : Refusal) → stops refusal ≡ whole buffer mode kind first →
      IsRunRefused buffer last (run_tokens buffer mode kind first) refusal
  stopped kind first last refusal e =
      breaks_off (run_tokens buffer mode kind first) refusal (rw (← e) at (is-outcome buffer kind (run_opening buffer mode kind first) (tokens_from buffer mode (stop first)) refl))

  module _ (kind : ContainerKind) (first last : Span) (innermost : ContainerKind) (around stack : List ContainerKind) (s : Span)
      (is_stack : stack ≡ innermost ∷ around) (l : RunComesTo buffer mode stack s (whole buffer mode kind first)) where
    -- what follows, by the tokens that do
    by_tokens : (ts : Tokens) → tokens_from buffer mode (stop s) ≡ ts →
        passed buffer (innermost ∷ around) (record { kind = l.kind; span = s }) ts ≡ whole buffer mode kind first
    by_tokens ts e =
        ap (passed buffer (innermost ∷ around) (record { kind = l.kind; span = s })) (sym e)
        ∙ ap (λ brackets. run_goes_on buffer mode brackets (record { kind = l.kind; span = s })) (sym is_stack) ∙ l.same

    -- A fault breaks the run off.
    pub fault-stops : (e : Fault) (refusal : Refusal) → stop s ≤ length buffer → cut_of (Err e) ≡ Some (cut buffer (stop s) mode) →
        refusal ≡ told_refusal e → IsRunRefused buffer last (run_tokens buffer mode kind first) refusal
    unfolding passed
    fault-stops e refusal within h p =
        let f : Refuses buffer (stop s) (lenient mode) e = is_refused buffer (stop s) (lenient mode) e within h in
        stopped kind first last refusal (ap stops (p ∙ f.passed_on) ∙ by_tokens (refused f.what) f.tokens)

    -- So does the end.
    end-stops : (refusal : Refusal) → tokens_from buffer mode (stop s) ≡ ended → refusal ≡ value_expected (span_at (length buffer) 0) →
        IsRunRefused buffer last (run_tokens buffer mode kind first) refusal
    unfolding passed
    end-stops refusal none e = stopped kind first last refusal (ap stops e ∙ by_tokens ended none)

    module _ (t : SpannedToken) (within : stop s ≤ length buffer) (answer : cut_of (Ok t) ≡ Some (cut buffer (stop s) mode)) where
      -- A token is passed, and leaves these brackets open.
      pub record GoesOn (brackets : List ContainerKind) : Type 0 where
        pub past : stop s < stop (span_of t.span)
        pub ends : stop (span_of t.span) ≤ length buffer
        pub leads : RunComesTo buffer mode brackets (span_of t.span) (whole buffer mode kind first)

      goes-on : (brackets : List ContainerKind) → IsCut buffer (stop s) (lenient mode) t → (t.token ≡ code.Eof → ⊥) →
          ((k : Kind) → kind_of t.token ≡ Some k → passing innermost around (span_of t.span) k ≡ leaves brackets) → GoesOn brackets
      goes-on brackets (ends is_end none) no_end e = absurd (no_end is_end)
      goes-on brackets (stands c) no_end e = record {
        past = c.past;
        ends = c.within;
        leads = record {
          kind = c.kind;
          same = sym (passed-next buffer innermost around _ (record { kind = c.kind; span = span_of t.span }) _ _ (e c.kind c.is_kind)) ∙ by_tokens _ c.tokens;
        };
      }

      pub token-goes_on : (brackets : List ContainerKind) → (t.token ≡ code.Eof → ⊥) →
          ((k : Kind) → kind_of t.token ≡ Some k → passing innermost around (span_of t.span) k ≡ leaves brackets) → GoesOn brackets
      token-goes_on brackets no_end e = goes-on brackets (is_cut buffer (stop s) (lenient mode) t within answer) no_end e

      stops-there : (refusal : Refusal) → IsCut buffer (stop s) (lenient mode) t →
          (t.token ≡ code.Eof → refusal ≡ value_expected (span_at (length buffer) 0)) →
          ((k : Kind) → kind_of t.token ≡ Some k →
          (refusal ≡ no_memory_at last) ⊎ (passing innermost around (span_of t.span) k ≡ crosses refusal)) →
          IsRunRefused buffer last (run_tokens buffer mode kind first) refusal
      stops-there refusal (ends is_end none) at_end e = end-stops refusal none (at_end is_end)
      stops-there refusal (stands c) at_end e = elim (e c.kind c.is_kind) [
        | inl no_memory ↦ unopened kind first last refusal no_memory
        | inr crossed ↦ stopped kind first last refusal
            (sym (passed-next buffer innermost around _ (record { kind = c.kind; span = span_of t.span }) _ _ crossed) ∙ by_tokens _ c.tokens)
      ]

      -- Or it is refused, or the end is.
      pub token-stops : (refusal : Refusal) → (t.token ≡ code.Eof → span_of t.span ≡ span_at (length buffer) 0) →
          (t.token ≡ code.Eof → refusal ≡ value_expected (span_of t.span)) →
          ((k : Kind) → kind_of t.token ≡ Some k →
          (refusal ≡ no_memory_at last) ⊎ (passing innermost around (span_of t.span) k ≡ crosses refusal)) →
          IsRunRefused buffer last (run_tokens buffer mode kind first) refusal
      token-stops refusal span at_end e =
          stops-there refusal (is_cut buffer (stop s) (lenient mode) t within answer) (λ is_end. at_end is_end ∙ ap value_expected (span is_end)) e
