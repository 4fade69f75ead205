-- Tokens that open and close nothing are passed, and a run goes on after them.
use Rattle.std.proofs.Common.{◌≡◌, ℕ, ◌+◌, ◌≤◌, ◌<◌, List, ◌∷◌, length, drop, get_or, Some, slice_get, refl, sym, ap, ◌∙◌, arith}
use Rattle.facet_format.specs.Event.{ContainerKind}
use Rattle.facet_format.specs.Span.{Span, stop, span_at}
use Rattle.facet_json_token.specs.Gap.{Mode}
use Rattle.facet_json_token.specs.Cut.{cut, cut_here, past_gap, token_at}
use Rattle.facet_json_token.specs.Shape.{IsStructural}
use Rattle.facet_json_token.specs.Token.{Kind, Token}
use Rattle.facet_json_token.specs.Tokens.{next}
use Rattle.facet_json_token.specs.TokenList.{tokens_from}
use Rattle.facet_json_token.proofs.CutBounds.{past_gap-bound}
use Rattle.facet_json_token.proofs.Gaps.{past_gap-again, cut-past_gap}
use Rattle.facet_json_token.proofs.InSight.{structural-is_cut}
use Rattle.facet_json_token.proofs.Offsets.{slice_get-from_read}
use Rattle.facet_json_token.proofs.TokensSteps.{tokens_by_first, tokens_from-token}
use Rattle.facet_json_grammar.specs.Inner.PassedRun.{leaves, passing, passed, Outcome}
use Rattle.facet_json_grammar.proofs.Runs.RunsPassed.{passed-next, passed-any}
use Rattle.facet_json_reader.proofs.TokensThere.{tokens-past_gap, there-fits}
use Rattle.facet_json_parser.specs.Inner.Quiet.{RunLeadsOn, EndsGap}
use Rattle.facet_json_parser.proofs.RunSteps.{RunComesTo, run_goes_on}

-- It opens and closes nothing.
abbrev pub IsQuiet : Kind → Type 0
IsQuiet kind = (innermost : ContainerKind) (around : List ContainerKind) (s : Span) → passing innermost around s kind ≡ leaves (innermost ∷ around)

module _ (buffer : List ℕ) (mode : Mode) where
  pub leads_on-twice : (from by to : ℕ) → RunLeadsOn buffer mode from by → RunLeadsOn buffer mode by to → RunLeadsOn buffer mode from to
  leads_on-twice from by to a b = record {
    past = omega (arith, a.past, b.past);
    ends = b.ends;
    same = λ kind around last. a.same kind around last ∙ b.same kind around last;
  }

  pub leads_on-nowhere : (at : ℕ) → at ≤ length buffer → RunLeadsOn buffer mode at at
  leads_on-nowhere at h = record { past = omega arith; ends = h; same = λ kind around last. refl }

  tokens-same : (from to : ℕ) → cut buffer to mode ≡ cut buffer from mode → tokens_from buffer mode from ≡ tokens_from buffer mode to
  tokens-same from to e = tokens_by_first buffer mode from (cut buffer from mode) refl ∙ sym (tokens_by_first buffer mode to (cut buffer from mode) e)

  pub gap-leads_on : (from at : ℕ) → from ≤ length buffer → at ≡ past_gap buffer from mode → RunLeadsOn buffer mode from at
  gap-leads_on from at h e =
      let tokens = tokens-same from at (ap (λ (p : ℕ). cut buffer p mode) e ∙ cut-past_gap buffer from mode) in
      record {
        past = omega (arith, e);
        ends = omega (arith, e, past_gap-bound buffer from mode h);
        same = λ kind around last. ap (passed buffer (kind ∷ around) last) tokens;
      }

  -- The gap after a gap is empty.
  at_gap : (at : ℕ) → EndsGap buffer mode at → at ≡ past_gap buffer at mode
  at_gap at g = g.gap ∙ sym (past_gap-again buffer g.from mode) ∙ ap (λ (p : ℕ). past_gap buffer p mode) (sym g.gap)

  -- A token that comes first is passed, if it is quiet.
  first-leads_on : (at to : ℕ) (t : Token) → at ≤ to → to ≤ length buffer → IsQuiet t.kind →
      tokens_from buffer mode at ≡ next t (tokens_from buffer mode to) → RunLeadsOn buffer mode at to
  first-leads_on at to t past ends quiet tokens = record {
    past = past;
    ends = ends;
    same = λ kind around last.
        ap (passed buffer (kind ∷ around) last) tokens
        ∙ passed-next buffer kind around last t (tokens_from buffer mode to) (leaves (kind ∷ around)) (quiet kind around t.span)
        ∙ passed-any buffer kind around t last (tokens_from buffer mode to);
  }

  -- A quiet token is passed where it stands.
  pub token-leads_on : (at len to : ℕ) (kind : Kind) → EndsGap buffer mode at → at ≤ length buffer → to ≡ at + len → IsQuiet kind →
      cut_here mode at (drop at buffer) ≡ token_at kind at len → RunLeadsOn buffer mode at to
  token-leads_on at len to kind g room e quiet is =
      let t : Token = record { kind = kind; span = span_at at len } in
      let fits = there-fits mode buffer at len kind room is in
      let tokens = tokens-past_gap buffer mode at at len kind room (at_gap at g) is in
      let ends : stop (span_at at len) ≡ to = omega (arith, e) in
      first-leads_on at to t (omega (arith, e)) (omega (arith, e, fits.within)) quiet
      (tokens ∙ ap (λ (p : ℕ). next t (tokens_from buffer mode p)) ends)

  -- So is a separator.
  pub separator-leads_on : (at b : ℕ) (kind : Kind) → IsStructural b kind → slice_get buffer at ≡ Some b → at < length buffer → IsQuiet kind →
      RunLeadsOn buffer mode at (at + 1)
  separator-leads_on at b kind is here room quiet =
      let t : Token = record { kind = kind; span = span_at at 1 } in
      first-leads_on at (at + 1) t (omega arith) (omega (arith, room)) quiet
      (tokens_from-token buffer at mode t (omega (arith, room)) (sym (structural-is_cut buffer at b kind here is mode)))

  -- So is a comma or a colon that was read there.
  pub read-leads_on : (at b read : ℕ) (kind : Kind) → IsStructural b kind → (at < length buffer) × ((d : ℕ) → read ≡ get_or buffer at d) → read ≡ b → IsQuiet kind →
      RunLeadsOn buffer mode at (at + 1)
  read-leads_on at b read kind is there same quiet = separator-leads_on at b kind is (slice_get-from_read buffer at read b there same) there.0 quiet

  -- What a run comes to stays so after quiet tokens.
  pub leads-on : (stack around : List ContainerKind) (innermost : ContainerKind) (s : Span) (at : ℕ) (o : Outcome) →
      stack ≡ innermost ∷ around → RunComesTo buffer mode stack s o → RunLeadsOn buffer mode (stop s) at → RunComesTo buffer mode stack (span_at at 0) o
  leads-on stack around innermost s at o e l on =
      let before : Token = record { kind = l.kind; span = s } in
      let after : Token = record { kind = l.kind; span = span_at at 0 } in
      let here : stop (span_at at 0) ≡ at = omega arith in
      record {
        kind = l.kind;
        same = ap (λ (brackets : List ContainerKind). run_goes_on buffer mode brackets after) e
            ∙ ap (λ (p : ℕ). passed buffer (innermost ∷ around) after (tokens_from buffer mode p)) here
            ∙ sym (on.same innermost around after)
            ∙ passed-any buffer innermost around after before (tokens_from buffer mode (stop s))
            ∙ ap (λ (brackets : List ContainerKind). run_goes_on buffer mode brackets before) (sym e) ∙ l.same;
      }
