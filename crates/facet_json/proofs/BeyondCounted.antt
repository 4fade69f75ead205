-- The first bracket beyond, as the code counts, is the one that has so many around it, and none before it has.
use Rattle.std.proofs.Common.{◌≡◌, ◌≢◌, ◌≤◌, ◌<◌, ◌+◌, ℕ, zero, suc, List, [], ◌∷◌, ◌++◌, None, Some, refl, sym, ap, ap₂, ◌∙◌, subst, arith}
use Rattle.facet_format.specs.Span.{Span}
use Rattle.facet_json_token.specs.Token.{Token, Fault}
use Rattle.facet_json_token.specs.Tokens.{Tokens, ended, refused, next}
use Rattle.facet_json_grammar.specs.Begun.{tokens_before}
use Rattle.facet_json.specs.Nesting.{Bracket, opens, closes, neither, bracket_of, opening, closing, openings, closings, OpensAt, StandsBeyond}
use Rattle.facet_json.specs.Inner.Nested.{beyond_at, tokens_beyond}

-- After these tokens no more are open than may be, where so many were open before and so many more may be.
abbrev FewOpen : ℕ → ℕ → List Token → Type 0
FewOpen around room front = around + openings front ≤ closings front + (around + room)

-- After these tokens some are open.
abbrev SomeOpen : ℕ → List Token → Type 0
SomeOpen around front = closings front < around + openings front

-- The bracket beyond among tokens where some are open before, and so many more may be.
record BeyondFrom (around room : ℕ) (ts : Tokens) (span : Span) : Type 0 where
  pub here : OpensAt ts span
  pub full : around + openings here.before ≡ closings here.before + (around + room)
  pub first : (front back : List Token) → here.before ≡ front ++ back → FewOpen around room front
  pub within : (t : Token) (front back : List Token) → here.before ≡ (t ∷ front) ++ back → SomeOpen around (t ∷ front)

-- A bracket leads from one such place to another, where some are open.
record Leads (bracket : Bracket) (around room next_around next_room : ℕ) : Type 0 where
  pub counts : around + opening bracket ≡ closing bracket + next_around
  pub keeps : around + room ≡ next_around + next_room
  pub goes_on : 0 < next_around

leads-opens : (b : Bracket) (around room : ℕ) → b ≡ opens → Leads b around (suc room) (suc around) room
leads-opens b around room is =
    subst (λ x. Leads x around (suc room) (suc around) room) (sym is) (record { counts = omega (arith); keeps = omega (arith); goes_on = omega (arith) })

leads-closes : (b : Bracket) (around room : ℕ) → b ≡ closes → Leads b (suc (suc around)) room (suc around) (suc room)
leads-closes b around room is =
    subst (λ x. Leads x (suc (suc around)) room (suc around) (suc room)) (sym is)
    (record { counts = omega (arith); keeps = omega (arith); goes_on = omega (arith) })

leads-neither : (b : Bracket) (around room : ℕ) → b ≡ neither → Leads b (suc around) room (suc around) room
leads-neither b around room is =
    subst (λ x. Leads x (suc around) room (suc around) room) (sym is) (record { counts = omega (arith); keeps = omega (arith); goes_on = omega (arith) })

module _ {A : Type 0} (x y : A) (xs ys : List A) (e : x ∷ xs ≡ y ∷ ys) where
  same-head : x ≡ y
  same-head = cc

  same-tail : xs ≡ ys
  same-tail = cc

-- ---- one token

module _ (t : Token) (ts : Tokens) (around room next_around next_room : ℕ) (span : Span)
    (leads : Leads (bracket_of t.kind) around room next_around next_room) where
  few-sooner : (front : List Token) → FewOpen next_around next_room front → FewOpen around room (t ∷ front)
  few-sooner front few = omega (arith, leads.counts, leads.keeps, few)

  few-later : (front : List Token) → FewOpen around room (t ∷ front) → FewOpen next_around next_room front
  few-later front few = omega (arith, leads.counts, leads.keeps, few)

  some-sooner : (front : List Token) → SomeOpen next_around front → SomeOpen around (t ∷ front)
  some-sooner front some = omega (arith, leads.counts, some)

  some-later : (front : List Token) → SomeOpen around (t ∷ front) → SomeOpen next_around front
  some-later front some = omega (arith, leads.counts, some)

  module _ (b : BeyondFrom next_around next_room ts span) where
    first-sooner : (front back : List Token) → t ∷ b.here.before ≡ front ++ back → FewOpen around room front
    first-sooner [] back e = omega (arith)
    first-sooner (x ∷ front) back e =
        subst (λ y. FewOpen around room (y ∷ front)) (same-head t x b.here.before (front ++ back) e)
        (few-sooner front (b.first front back (same-tail t x b.here.before (front ++ back) e)))

    within-sooner : (x : Token) (front back : List Token) → t ∷ b.here.before ≡ (x ∷ front) ++ back → SomeOpen around (x ∷ front)
    within-sooner x [] back e =
        subst (λ y. SomeOpen around (y ∷ [])) (same-head t x b.here.before back e) (some-sooner [] (omega (arith, leads.goes_on)))
    within-sooner x (y ∷ front) back e =
        subst (λ z. SomeOpen around (z ∷ y ∷ front)) (same-head t x b.here.before (y ∷ front ++ back) e)
        (some-sooner (y ∷ front) (b.within y front back (same-tail t x b.here.before (y ∷ front ++ back) e)))

    beyond-sooner : BeyondFrom around room (next t ts) span
    beyond-sooner = record {
      here = record {
        before = t ∷ b.here.before;
        bracket = b.here.bracket;
        rest = b.here.rest;
        comes = ap (next t) b.here.comes;
        there = b.here.there;
        is_opening = b.here.is_opening;
      };
      full = omega (arith, b.full, leads.counts, leads.keeps);
      first = first-sooner;
      within = within-sooner;
    }

  beyond-later : (b : BeyondFrom around room (next t ts) span) (others : List Token) → b.here.before ≡ t ∷ others →
      ts ≡ tokens_before others (next b.here.bracket b.here.rest) → BeyondFrom next_around next_room ts span
  beyond-later b others is comes = record {
    here = record { before = others; bracket = b.here.bracket; rest = b.here.rest; comes = comes; there = b.here.there; is_opening = b.here.is_opening };
    full = omega (arith, subst (λ l. around + openings l ≡ closings l + (around + room)) is b.full, leads.counts, leads.keeps);
    first = λ front back e. few-later front (b.first (t ∷ front) back (is ∙ ap (λ l. t ∷ l) e));
    within = λ y front back e. some-later (y ∷ front) (b.within t (y ∷ front) back (is ∙ ap (λ l. t ∷ l) e));
  }

-- ---- what the code counts is beyond

module _ (t : Token) (ts : Tokens) (span : Span) where
  beyond-here : (around room : ℕ) → bracket_of t.kind ≡ opens → room ≡ 0 → t.span ≡ span → BeyondFrom around room (next t ts) span
  beyond-here around room is none there = record {
    here = record { before = []; bracket = t; rest = ts; comes = refl; there = there; is_opening = is };
    full = omega (arith, none);
    first = nowhere;
    within = λ x front back e. absurd (cc);
  } where
    nowhere : (front back : List Token) → [] ≡ front ++ back → FewOpen around room front
    nowhere [] back e = omega (arith)
    nowhere (x ∷ front) back e = absurd (cc)

  counted-at : ((around room : ℕ) → tokens_beyond ts around room ≡ Some span → BeyondFrom around room ts span) → (bracket : Bracket) →
      bracket_of t.kind ≡ bracket → (around room : ℕ) → beyond_at bracket t.span (tokens_beyond ts) around room ≡ Some span →
      BeyondFrom around room (next t ts) span
  counted-at again opens is around zero e = beyond-here around zero is refl (cc)
  counted-at again opens is around (suc room) e =
      beyond-sooner t ts around (suc room) (suc around) room span (leads-opens _ around room is) (again (suc around) room e)
  counted-at again closes is zero room e = absurd (cc)
  counted-at again closes is (suc zero) room e = absurd (cc)
  counted-at again closes is (suc (suc around)) room e =
      beyond-sooner t ts (suc (suc around)) room (suc around) (suc room) span (leads-closes _ around room is) (again (suc around) (suc room) e)
  counted-at again neither is zero room e = absurd (cc)
  counted-at again neither is (suc around) room e =
      beyond-sooner t ts (suc around) room (suc around) room span (leads-neither _ around room is) (again (suc around) room e)

counted : (ts : Tokens) (span : Span) (around room : ℕ) → tokens_beyond ts around room ≡ Some span → BeyondFrom around room ts span
unfolding tokens_beyond
counted ended span around room e = absurd (cc)
counted (refused f) span around room e = absurd (cc)
counted (next t ts) span around room e = counted-at t ts span (counted ts span) (bracket_of t.kind) refl around room e

-- ---- what is beyond the code counts

-- no tokens begin with these
before-some : (before : List Token) (bracket : Token) (rest ts : Tokens) → ts ≡ tokens_before before (next bracket rest) → ts ≢ ended
before-some [] bracket rest ts e is = absurd (cc)
before-some (x ∷ before) bracket rest ts e is = absurd (cc)

before-sound : (before : List Token) (bracket : Token) (rest ts : Tokens) (f : Fault) → ts ≡ tokens_before before (next bracket rest) → ts ≢ refused f
before-sound [] bracket rest ts f e is = absurd (cc)
before-sound (x ∷ before) bracket rest ts f e is = absurd (cc)

module _ (t : Token) (ts : Tokens) (span : Span) where
  computed-here : (around room : ℕ) (b : BeyondFrom around room (next t ts) span) → b.here.before ≡ [] →
      beyond_at (bracket_of t.kind) t.span (tokens_beyond ts) around room ≡ Some span
  computed-here around room b is =
      let comes = b.here.comes ∙ ap (λ l. tokens_before l (next b.here.bracket b.here.rest)) is in
      let same : t ≡ b.here.bracket = cc in
      let none : room ≡ 0 = omega (arith, subst (λ l. around + openings l ≡ closings l + (around + room)) is b.full) in
      let opening : bracket_of t.kind ≡ opens = ap (λ x. bracket_of x.kind) same ∙ b.here.is_opening in
      ap₂ (λ k r. beyond_at k t.span (tokens_beyond ts) around r) opening none ∙ ap (λ x. Some x.span) same ∙ ap Some b.here.there

  computed-at : ((around room : ℕ) → BeyondFrom around room ts span → tokens_beyond ts around room ≡ Some span) → (bracket : Bracket) →
      bracket_of t.kind ≡ bracket → (around room : ℕ) (b : BeyondFrom around room (next t ts) span) (others : List Token) →
      b.here.before ≡ t ∷ others → ts ≡ tokens_before others (next b.here.bracket b.here.rest) →
      around + opening bracket ≤ closing bracket + (around + room) → closing bracket < around + opening bracket →
      beyond_at bracket t.span (tokens_beyond ts) around room ≡ Some span
  computed-at again opens is around zero b others e comes few some = absurd (omega (arith, few))
  computed-at again opens is around (suc room) b others e comes few some =
      again (suc around) room (beyond-later t ts around (suc room) (suc around) room span (leads-opens _ around room is) b others e comes)
  computed-at again closes is zero room b others e comes few some = absurd (omega (arith, some))
  computed-at again closes is (suc zero) room b others e comes few some = absurd (omega (arith, some))
  computed-at again closes is (suc (suc around)) room b others e comes few some =
      again (suc around) (suc room)
      (beyond-later t ts (suc (suc around)) room (suc around) (suc room) span (leads-closes _ around room is) b others e comes)
  computed-at again neither is zero room b others e comes few some = absurd (omega (arith, some))
  computed-at again neither is (suc around) room b others e comes few some =
      again (suc around) room (beyond-later t ts (suc around) room (suc around) room span (leads-neither _ around room is) b others e comes)

  computed-next : ((around room : ℕ) → BeyondFrom around room ts span → tokens_beyond ts around room ≡ Some span) →
      (around room : ℕ) (b : BeyondFrom around room (next t ts) span) (before : List Token) → b.here.before ≡ before →
      beyond_at (bracket_of t.kind) t.span (tokens_beyond ts) around room ≡ Some span
  computed-next again around room b [] is = computed-here around room b is
  computed-next again around room b (x ∷ others) is =
      let comes = b.here.comes ∙ ap (λ l. tokens_before l (next b.here.bracket b.here.rest)) is in
      let same : t ≡ x = cc in
      let behind : ts ≡ tokens_before others (next b.here.bracket b.here.rest) = cc in
      let begins = is ∙ ap (λ y. y ∷ others) (sym same) in
      let few = b.first (t ∷ []) others begins in
      let some = b.within t [] others begins in
      computed-at again (bracket_of t.kind) refl around room b others begins behind (omega (arith, few)) (omega (arith, some))

computed : (ts : Tokens) (span : Span) (around room : ℕ) → BeyondFrom around room ts span → tokens_beyond ts around room ≡ Some span
unfolding tokens_beyond
computed ended span around room b = absurd (before-some b.here.before b.here.bracket b.here.rest ended b.here.comes refl)
computed (refused f) span around room b = absurd (before-sound b.here.before b.here.bracket b.here.rest (refused f) f b.here.comes refl)
computed (next t ts) span around room b = computed-next t ts span (computed ts span) around room b b.here.before refl

-- ---- an input

module _ (ts : Tokens) (limit : ℕ) (span : Span) where
  pub beyond-counted : tokens_beyond ts 0 limit ≡ Some span → StandsBeyond limit ts span
  beyond-counted e =
      let b = counted ts span 0 limit e in
      record {
        here = b.here;
        around = omega (arith, b.full);
        first = λ front back is. omega (arith, b.first front back is);
        within = λ t front back is. omega (arith, b.within t front back is);
      }

  pub counted-beyond : StandsBeyond limit ts span → tokens_beyond ts 0 limit ≡ Some span
  counted-beyond b =
      computed ts span 0 limit (record {
        here = b.here;
        full = omega (arith, b.around);
        first = λ front back is. omega (arith, b.first front back is);
        within = λ t front back is. omega (arith, b.within t front back is);
      })

  -- Where the code finds none there is none, and where it finds one it is that one.
  pub none-beyond : None ≡ tokens_beyond ts 0 limit → StandsBeyond limit ts span → ⊥
  none-beyond none b = let found = none ∙ counted-beyond b in absurd (cc)

  pub one-beyond : (found : Span) → Some found ≡ tokens_beyond ts 0 limit → StandsBeyond limit ts span → found ≡ span
  one-beyond found one b = let same = one ∙ counted-beyond b in cc
