-- A run is passed to its last token, and one that breaks off is stopped so.
use Rattle.std.proofs.Common.{◌≡◌, ℕ, true, List, ◌∷◌, length, codes, refl, ap, ◌∙◌}
use Rattle.facet_format.specs.Complaint.{unexpected_eof, Refusal, refusal_at}
use Rattle.facet_format.specs.Event.{ContainerKind, object, array}
use Rattle.facet_format.specs.Span.{Span, span_at}
use Rattle.facet_json_token.specs.Token.{Kind, Token, Fault}
use Rattle.facet_json_token.specs.Token as token
use Rattle.facet_json_token.specs.Tokens.{Tokens, ended, refused, next}
use Rattle.facet_json_grammar.specs.Node.{is_scalar}
use Rattle.facet_json_grammar.specs.Place.{complaint_of_fault}
use Rattle.facet_json_grammar.specs.Run.{opening, closing, other, is_separator, Run, one_token, brackets, RunsInside, nothing, separator, a_run, BreaksOff, ends_inside, fault_inside, crossed, nested}
use Rattle.facet_json_grammar.specs.Inner.PassedRun.{Passing, leaves, crosses, not_closing, passing, Outcome, stops, passed}

-- ---- what each token does

pub passing-scalar : (kind : ContainerKind) (around : List ContainerKind) (s : Span) (k : Kind) → is_scalar k ≡ true →
    passing kind around s k ≡ leaves (kind ∷ around)
passing-scalar kind around s token.null e = refl
passing-scalar kind around s token.true_literal e = refl
passing-scalar kind around s token.false_literal e = refl
passing-scalar kind around s (token.string start finish has_escapes) e = refl
passing-scalar kind around s (token.number start finish hint) e = refl
passing-scalar kind around s _ e = cc

pub passing-separator : (kind : ContainerKind) (around : List ContainerKind) (s : Span) (k : Kind) → is_separator k ≡ true →
    passing kind around s k ≡ leaves (kind ∷ around)
passing-separator kind around s token.comma e = refl
passing-separator kind around s token.colon e = refl
passing-separator kind around s _ e = cc

pub passing-opening : (kind opened : ContainerKind) (around : List ContainerKind) (s : Span) →
    passing kind around s (opening opened) ≡ leaves (opened ∷ kind ∷ around)
passing-opening kind object around s = refl
passing-opening kind array around s = refl

pub passing-closing : (kind : ContainerKind) (around : List ContainerKind) (s : Span) →
    passing kind around s (closing kind) ≡ leaves around
passing-closing object around s = refl
passing-closing array around s = refl

pub passing-crossed : (kind : ContainerKind) (around : List ContainerKind) (s : Span) →
    passing kind around s (closing (other kind)) ≡ crosses (not_closing kind s)
passing-crossed object around s = refl
passing-crossed array around s = refl

-- ---- one token after another

module _ (buffer : List ℕ) where
  -- what follows by what a token does
  abbrev pub after : Token → Tokens → Passing → Outcome
  after t rest (leaves stack) = passed buffer stack t rest
  after t rest (crosses refusal) = stops refusal

  pub passed-next : (kind : ContainerKind) (around : List ContainerKind) (last t : Token) (rest : Tokens) (p : Passing) →
      passing kind around t.span t.kind ≡ p → passed buffer (kind ∷ around) last (next t rest) ≡ after t rest p
  unfolding passed
  passed-next kind around last t rest (leaves stack) e = rw (e, passed) refl
  passed-next kind around last t rest (crosses refusal) e = rw (e, passed) refl

  -- Where a bracket is open, the token before doesn't matter.
  pub passed-any : (kind : ContainerKind) (around : List ContainerKind) (last t : Token) (ts : Tokens) →
      passed buffer (kind ∷ around) last ts ≡ passed buffer (kind ∷ around) t ts
  unfolding passed
  passed-any kind around last t ended = refl
  passed-any kind around last t (refused f) = refl
  passed-any kind around last t (next u rest) = refl

  -- ---- runs

  -- The closing bracket is passed, and is the last token.
  close-passed : (kind : ContainerKind) (around : List ContainerKind) (before last : Token) (rest : Tokens) → last.kind ≡ closing kind →
      passed buffer (kind ∷ around) before (next last rest) ≡ passed buffer around last rest
  close-passed kind around before last rest e =
      passed-next kind around before last rest _ (ap (passing kind around last.span) e ∙ passing-closing kind around last.span)

  mutual
    -- Within a bracket a run is passed.
    run-passed : (kind : ContainerKind) (around : List ContainerKind) (before : Token) (ts rest : Tokens) (last : Token) →
        Run ts last rest → passed buffer (kind ∷ around) before ts ≡ passed buffer (kind ∷ around) last rest
    run-passed kind around before _ _ _ (one_token t rest e) =
        passed-next kind around before t rest _ (passing-scalar kind around t.span t.kind e)
    run-passed kind around before _ _ _ (brackets opened first last inner rest e inside f) =
        passed-next kind around before first inner _ (ap (passing kind around first.span) e ∙ passing-opening kind opened around first.span)
        ∙ inside-passed opened (kind ∷ around) first inner _ inside ∙ close-passed opened (kind ∷ around) first last rest f

    -- So are runs, commas and colons.
    inside-passed : (kind : ContainerKind) (around : List ContainerKind) (before : Token) (ts rest : Tokens) → RunsInside ts rest →
        passed buffer (kind ∷ around) before ts ≡ passed buffer (kind ∷ around) before rest
    inside-passed kind around before _ _ (nothing rest) = refl
    inside-passed kind around before _ _ (separator t ts rest e more) =
        passed-next kind around before t ts _ (passing-separator kind around t.span t.kind e)
        ∙ passed-any kind around t before ts ∙ inside-passed kind around before ts rest more
    inside-passed kind around before _ _ (a_run ts others rest last run more) =
        run-passed kind around before ts others last run ∙ passed-any kind around last before others
        ∙ inside-passed kind around before others rest more

  -- From an opening bracket on all is passed up to the one that closes it.
  pub closed-passed : (kind : ContainerKind) (around : List ContainerKind) (first last : Token) (inner rest : Tokens) →
      RunsInside inner (next last rest) → last.kind ≡ closing kind →
      passed buffer (kind ∷ around) first inner ≡ passed buffer around last rest
  closed-passed kind around first last inner rest inside e =
      inside-passed kind around first inner _ inside ∙ close-passed kind around first last rest e

  -- ---- breaking off

  -- The tokens begin with an opening bracket, after which all is stopped, whatever is open around it.
  pub record IsStopped (ts : Tokens) (refusal : Refusal) : Type 0 where
    pub kind : ContainerKind
    pub first : Token
    pub inner : Tokens
    pub here : ts ≡ next first inner
    pub opens : first.kind ≡ opening kind
    pub stopped : (around : List ContainerKind) → passed buffer (kind ∷ around) first inner ≡ stops refusal

  passed-ended : (kind : ContainerKind) (around : List ContainerKind) (last : Token) →
      passed buffer (kind ∷ around) last ended ≡ stops (refusal_at (unexpected_eof (codes "value")) (span_at (length buffer) 0))
  unfolding passed
  passed-ended kind around last = refl

  passed-refused : (kind : ContainerKind) (around : List ContainerKind) (last : Token) (f : Fault) →
      passed buffer (kind ∷ around) last (refused f) ≡ stops (refusal_at (complaint_of_fault f.kind) f.span)
  unfolding passed
  passed-refused kind around last f = refl

  -- Tokens that break off are stopped so.
  pub break-stops : (ts : Tokens) (refusal : Refusal) → BreaksOff buffer ts refusal → IsStopped ts refusal
  break-stops _ _ (ends_inside kind first inner e inside) = record {
    kind = kind;
    first = first;
    inner = inner;
    here = refl;
    opens = e;
    stopped = λ around. inside-passed kind around first inner ended inside ∙ passed-ended kind around first;
  }
  break-stops _ _ (fault_inside kind first inner f e inside) = record {
    kind = kind;
    first = first;
    inner = inner;
    here = refl;
    opens = e;
    stopped = λ around. inside-passed kind around first inner (refused f) inside ∙ passed-refused kind around first f;
  }
  break-stops _ _ (crossed kind first last inner rest e inside f) = record {
    kind = kind;
    first = first;
    inner = inner;
    here = refl;
    opens = e;
    stopped = λ around. inside-passed kind around first inner (next last rest) inside
        ∙ passed-next kind around first last rest _ (ap (passing kind around last.span) f ∙ passing-crossed kind around last.span);
  }
  break-stops _ _ (nested kind first inner others refusal e inside b) =
      let s = break-stops others refusal b in
      record {
        kind = kind;
        first = first;
        inner = inner;
        here = refl;
        opens = e;
        stopped = λ around. inside-passed kind around first inner others inside
            ∙ ap (passed buffer (kind ∷ around) first) s.here
            ∙ passed-next kind around first s.first s.inner _ (ap (passing kind around s.first.span) s.opens ∙ passing-opening kind s.kind around s.first.span)
            ∙ s.stopped (kind ∷ around);
      }
