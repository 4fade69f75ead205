-- Where brackets are open, what is passed up to the last that closes them are runs, commas and colons; and what is stopped breaks off.
use Rattle.std.proofs.Common.{◌≡◌, ℕ, true, List, [], ◌∷◌, length, codes, refl, ap, ◌∙◌}
use Rattle.facet_format.specs.Complaint.{unexpected_eof, Refusal, refusal_at}
use Rattle.facet_format.specs.Event.{ContainerKind, object, array}
use Rattle.facet_format.specs.Span.{span_at}
use Rattle.facet_json_token.specs.Token.{Kind, Token, Fault}
use Rattle.facet_json_token.specs.Token as token
use Rattle.facet_json_token.specs.Tokens.{Tokens, ended, refused, next}
use Rattle.facet_json_grammar.specs.Node.{is_scalar}
use Rattle.facet_json_grammar.specs.Place.{complaint_of_fault}
use Rattle.facet_json_grammar.specs.Run.{opening, closing, other, is_separator, Run, one_token, brackets, RunsInside, nothing, separator, a_run, BreaksOff, ends_inside, fault_inside, crossed, nested}
use Rattle.facet_json_grammar.specs.Inner.PassedRun.{not_closing, passing, Outcome, closes, stops, passed}
use Rattle.facet_json_grammar.proofs.Runs.RunsPassed.{passing-scalar, passing-separator, passing-opening, passing-closing, passing-crossed, passed-next}

-- ---- what a token is within an open bracket

data IsInside (kind : ContainerKind) (k : Kind) : Type 0 where
  is_scalar_here : is_scalar k ≡ true → IsInside kind k
  is_separator_here : is_separator k ≡ true → IsInside kind k
  opens_here : (opened : ContainerKind) → k ≡ opening opened → IsInside kind k
  closes_here : k ≡ closing kind → IsInside kind k
  crosses_here : k ≡ closing (other kind) → IsInside kind k

is_inside : (kind : ContainerKind) (k : Kind) → IsInside kind k
is_inside kind token.object_start = opens_here object refl
is_inside kind token.array_start = opens_here array refl
is_inside object token.object_end = closes_here refl
is_inside array token.object_end = crosses_here refl
is_inside object token.array_end = crosses_here refl
is_inside array token.array_end = closes_here refl
is_inside kind token.comma = is_separator_here refl
is_inside kind token.colon = is_separator_here refl
is_inside kind token.null = is_scalar_here refl
is_inside kind token.true_literal = is_scalar_here refl
is_inside kind token.false_literal = is_scalar_here refl
is_inside kind (token.string start finish has_escapes) = is_scalar_here refl
is_inside kind (token.number start finish hint) = is_scalar_here refl

-- ---- brackets that are open

-- Within these brackets, of which the first is the innermost: runs, commas and colons, the bracket that closes it, and so on up to
-- the last token, which closes the outermost.
data Closes : List ContainerKind → Token → Tokens → Token → Tokens → Type 0 where
  all_closed : (last : Token) (rest : Tokens) → Closes [] last rest last rest
  closes_one : (kind : ContainerKind) (around : List ContainerKind) (before mark last : Token) (ts others rest : Tokens) →
      RunsInside ts (next mark others) → mark.kind ≡ closing kind → Closes around mark others last rest →
      Closes (kind ∷ around) before ts last rest

-- Within these brackets the tokens break off.
data Breaks (buffer : List ℕ) : List ContainerKind → Tokens → Refusal → Type 0 where
  at_end : (kind : ContainerKind) (around : List ContainerKind) (ts : Tokens) → RunsInside ts ended →
      Breaks buffer (kind ∷ around) ts (refusal_at (unexpected_eof (codes "value")) (span_at (length buffer) 0))
  at_fault : (kind : ContainerKind) (around : List ContainerKind) (ts : Tokens) (f : Fault) → RunsInside ts (refused f) →
      Breaks buffer (kind ∷ around) ts (refusal_at (complaint_of_fault f.kind) f.span)
  at_cross : (kind : ContainerKind) (around : List ContainerKind) (ts rest : Tokens) (mark : Token) → RunsInside ts (next mark rest) →
      mark.kind ≡ closing (other kind) → Breaks buffer (kind ∷ around) ts (not_closing kind mark.span)
  further_in : (kind : ContainerKind) (around : List ContainerKind) (ts others : Tokens) (refusal : Refusal) → RunsInside ts others →
      BreaksOff buffer others refusal → Breaks buffer (kind ∷ around) ts refusal
  further_out : (kind : ContainerKind) (around : List ContainerKind) (ts others : Tokens) (mark : Token) (refusal : Refusal) →
      RunsInside ts (next mark others) → mark.kind ≡ closing kind → Breaks buffer around others refusal →
      Breaks buffer (kind ∷ around) ts refusal

-- ---- after more tokens inside

inside-append : (a b c : Tokens) → RunsInside a b → RunsInside b c → RunsInside a c
inside-append _ _ c (nothing _) more = more
inside-append _ b c (separator t ts _ e inside) more = separator t ts c e (inside-append ts b c inside more)
inside-append _ b c (a_run ts others _ last run inside) more = a_run ts others c last run (inside-append others b c inside more)

module _ (buffer : List ℕ) where
  -- What is found after more tokens inside is found before them.
  closes-before : (kind : ContainerKind) (around : List ContainerKind) (before behind last : Token) (ts others rest : Tokens) → RunsInside ts others →
      Closes (kind ∷ around) behind others last rest → Closes (kind ∷ around) before ts last rest
  closes-before kind around before behind last ts others rest inside (closes_one _ _ _ mark _ _ more _ here e outer) =
      closes_one kind around before mark last ts more rest (inside-append ts others (next mark more) inside here) e outer

  breaks-before : (kind : ContainerKind) (around : List ContainerKind) (ts others : Tokens) (refusal : Refusal) → RunsInside ts others →
      Breaks buffer (kind ∷ around) others refusal → Breaks buffer (kind ∷ around) ts refusal
  breaks-before kind around ts others _ inside (at_end _ _ _ here) = at_end kind around ts (inside-append ts others ended inside here)
  breaks-before kind around ts others _ inside (at_fault _ _ _ f here) =
      at_fault kind around ts f (inside-append ts others (refused f) inside here)
  breaks-before kind around ts others _ inside (at_cross _ _ _ rest mark here e) =
      at_cross kind around ts rest mark (inside-append ts others (next mark rest) inside here) e
  breaks-before kind around ts others _ inside (further_in _ _ _ more refusal here b) =
      further_in kind around ts more refusal (inside-append ts others more inside here) b
  breaks-before kind around ts others _ inside (further_out _ _ _ more mark refusal here e b) =
      further_out kind around ts more mark refusal (inside-append ts others (next mark more) inside here) e b

  -- What breaks off within an opened bracket and those around it, breaks off before that bracket within those.
  break_opened : (kind opened : ContainerKind) (around : List ContainerKind) (first : Token) (inner : Tokens) (refusal : Refusal) →
      first.kind ≡ opening opened → Breaks buffer (opened ∷ kind ∷ around) inner refusal →
      Breaks buffer (kind ∷ around) (next first inner) refusal
  break_opened kind opened around first inner _ o (at_end _ _ _ here) =
      further_in kind around _ _ _ (nothing _) (ends_inside opened first inner o here)
  break_opened kind opened around first inner _ o (at_fault _ _ _ f here) =
      further_in kind around _ _ _ (nothing _) (fault_inside opened first inner f o here)
  break_opened kind opened around first inner _ o (at_cross _ _ _ rest mark here e) =
      further_in kind around _ _ _ (nothing _) (crossed opened first mark inner rest o here e)
  break_opened kind opened around first inner _ o (further_in _ _ _ others refusal here b) =
      further_in kind around _ _ _ (nothing _) (nested opened first inner others refusal o here b)
  break_opened kind opened around first inner _ o (further_out _ _ _ others mark refusal here e b) =
      let run = brackets opened first mark inner others o here e in
      breaks-before kind around _ others refusal (a_run _ others others mark run (nothing others)) b

  -- What closes an opened bracket and those around it closes those.
  close_opened : (kind opened : ContainerKind) (around : List ContainerKind) (before first last : Token) (inner rest : Tokens) →
      first.kind ≡ opening opened → Closes (opened ∷ kind ∷ around) first inner last rest →
      Closes (kind ∷ around) before (next first inner) last rest
  close_opened kind opened around before first last inner rest o (closes_one _ _ _ mark _ _ others _ here e outer) =
      let run = brackets opened first mark inner others o here e in
      closes-before kind around before mark last _ others rest (a_run _ others others mark run (nothing others)) outer

  -- ---- what is passed

  -- How the outcome came about.
  abbrev Comes : List ContainerKind → Token → Tokens → Outcome → Type 0
  Comes stack before ts (closes last rest) = Closes stack before ts last rest
  Comes stack before ts (stops refusal) = Breaks buffer stack ts refusal

  comes-before : (kind : ContainerKind) (around : List ContainerKind) (before behind : Token) (ts others : Tokens) (o : Outcome) →
      RunsInside ts others → Comes (kind ∷ around) behind others o → Comes (kind ∷ around) before ts o
  comes-before kind around before behind ts others (closes last rest) inside c = closes-before kind around before behind last ts others rest inside c
  comes-before kind around before behind ts others (stops refusal) inside c = breaks-before kind around ts others refusal inside c

  comes_opened : (kind opened : ContainerKind) (around : List ContainerKind) (before first : Token) (inner : Tokens) (o : Outcome) →
      first.kind ≡ opening opened → Comes (opened ∷ kind ∷ around) first inner o → Comes (kind ∷ around) before (next first inner) o
  comes_opened kind opened around before first inner (closes last rest) e c = close_opened kind opened around before first last inner rest e c
  comes_opened kind opened around before first inner (stops refusal) e c = break_opened kind opened around first inner refusal e c

  comes_closed : (kind : ContainerKind) (around : List ContainerKind) (before mark : Token) (others : Tokens) (o : Outcome) →
      mark.kind ≡ closing kind → Comes around mark others o → Comes (kind ∷ around) before (next mark others) o
  comes_closed kind around before mark others (closes last rest) e c = closes_one kind around before mark last _ others rest (nothing _) e c
  comes_closed kind around before mark others (stops refusal) e c = further_out kind around _ others mark refusal (nothing _) e c

  comes-token : (kind : ContainerKind) (around : List ContainerKind) (before t : Token) (rest : Tokens) → IsInside kind t.kind →
      ((stack : List ContainerKind) → Comes stack t rest (passed buffer stack t rest)) →
      Comes (kind ∷ around) before (next t rest) (passed buffer (kind ∷ around) before (next t rest))
  comes-token kind around before t rest (is_scalar_here e) later =
      let step = passed-next buffer kind around before t rest _ (passing-scalar kind around t.span t.kind e) in
      rw step (comes-before kind around before t _ rest _ (a_run _ rest rest t (one_token t rest e) (nothing rest)) (later (kind ∷ around)))
  comes-token kind around before t rest (is_separator_here e) later =
      let step = passed-next buffer kind around before t rest _ (passing-separator kind around t.span t.kind e) in
      rw step (comes-before kind around before t _ rest _ (separator t rest rest e (nothing rest)) (later (kind ∷ around)))
  comes-token kind around before t rest (opens_here opened e) later =
      let step = passed-next buffer kind around before t rest _ (ap (passing kind around t.span) e ∙ passing-opening kind opened around t.span) in
      rw step (comes_opened kind opened around before t rest _ e (later (opened ∷ kind ∷ around)))
  comes-token kind around before t rest (closes_here e) later =
      let step = passed-next buffer kind around before t rest _ (ap (passing kind around t.span) e ∙ passing-closing kind around t.span) in
      rw step (comes_closed kind around before t rest _ e (later around))
  comes-token kind around before t rest (crosses_here e) later =
      let step = passed-next buffer kind around before t rest _ (ap (passing kind around t.span) e ∙ passing-crossed kind around t.span) in
      rw step (at_cross kind around _ rest t (nothing _) e)

  comes : (stack : List ContainerKind) (before : Token) (ts : Tokens) → Comes stack before ts (passed buffer stack before ts)
  unfolding passed
  comes [] before ts = all_closed before ts
  comes (kind ∷ around) before ended = at_end kind around ended (nothing ended)
  comes (kind ∷ around) before (refused f) = at_fault kind around (refused f) f (nothing (refused f))
  comes (kind ∷ around) before (next t rest) = comes-token kind around before t rest (is_inside kind t.kind) (λ stack. comes stack t rest)

  -- ---- from an opening bracket on

  -- After an opening bracket stands the rest of a run, or it breaks off.
  abbrev pub IsOutcome : Tokens → Outcome → Type 0
  IsOutcome ts (closes last rest) = Run ts last rest
  IsOutcome ts (stops refusal) = BreaksOff buffer ts refusal

  run_closed : (kind : ContainerKind) (first last : Token) (inner rest : Tokens) → first.kind ≡ opening kind →
      Closes (kind ∷ []) first inner last rest → Run (next first inner) last rest
  run_closed kind first _ inner _ o (closes_one _ _ _ mark _ _ others _ here e (all_closed _ _)) = brackets kind first mark inner others o here e

  break_off : (kind : ContainerKind) (first : Token) (inner : Tokens) (refusal : Refusal) → first.kind ≡ opening kind →
      Breaks buffer (kind ∷ []) inner refusal → BreaksOff buffer (next first inner) refusal
  break_off kind first inner _ o (at_end _ _ _ here) = ends_inside kind first inner o here
  break_off kind first inner _ o (at_fault _ _ _ f here) = fault_inside kind first inner f o here
  break_off kind first inner _ o (at_cross _ _ _ rest mark here e) = crossed kind first mark inner rest o here e
  break_off kind first inner _ o (further_in _ _ _ others refusal here b) = nested kind first inner others refusal o here b
  break_off kind first inner _ o (further_out _ _ _ others mark refusal here e b) = elim b [ ]

  outcome_by : (kind : ContainerKind) (first : Token) (inner : Tokens) (o : Outcome) → first.kind ≡ opening kind →
      Comes (kind ∷ []) first inner o → IsOutcome (next first inner) o
  outcome_by kind first inner (closes last rest) e c = run_closed kind first last inner rest e c
  outcome_by kind first inner (stops refusal) e c = break_off kind first inner refusal e c

  -- What is computed from an opening bracket on is right.
  pub is-outcome : (kind : ContainerKind) (first : Token) (inner : Tokens) → first.kind ≡ opening kind →
      IsOutcome (next first inner) (passed buffer (kind ∷ []) first inner)
  is-outcome kind first inner e = outcome_by kind first inner _ e (comes (kind ∷ []) first inner)
