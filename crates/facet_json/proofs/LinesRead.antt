-- What the lines of bytes are where a text is read piece by piece.
use Rattle.std.proofs.Common.{◌≡◌, ◌≢◌, ◌+◌, ◌<◌, ℕ, List, [], ◌∷◌, ◌++◌, All, Option, true, false, cond, eqb, None, Some, IfSome, length, refl, sym, ap, subst, ◌∙◌, append_assoc, append-nil, length-append, ne_eqb, arith}
use Rattle.std.proofs.lemmas.List.Elements.{All-nil, All-cons, All-append, All-head, All-tail}
use Rattle.std.specs.Io.KnownBytes.{IsAtEnd}
use Rattle.std.specs.Io.BufRead.{drop_through}
use Rattle.std.proofs.BufReadLemmas.{drop_through-append}
use Rattle.facet_json.specs.declared.lines.LinePlace.TheVariants.{Between, Within, Past}
use Rattle.facet_json.specs.Lines.{begin, lines, ComeFirst, Lines, PassesLines, PassesBlank, PassesTo, RefusesLine, IsBlank}
use Rattle.facet_json.specs.LineViews.{TellsLine, IsReadFailure}
use Rattle.facet_json.specs.declared.lines.LineError.{LineError}
use Rattle.facet_json.specs.declared.lines.LineError.TheVariants.{TooLong, Memory, Io}
use Rattle.facet_json.specs.Inner.LinePlaces.{left_at}
use Rattle.facet_json.specs.Inner.LinePieces.{LineGrows, GoesPast}

-- The bytes before the first line feed, or all.
abbrev pub first_line : List ℕ → List ℕ
first_line [] = []
first_line (x ∷ xs) = cond (eqb x 10) [] (x ∷ first_line xs)

-- A byte is followed by the rest of its line, and the lines after that.
lines-first : (x : ℕ) (xs : List ℕ) → lines (x ∷ xs) ≡ first_line (x ∷ xs) ∷ lines (drop_through 10 (x ∷ xs))
lines-first x [] = elim (eqb x 10) as (λ b. cond b ([] ∷ []) (begin x []) ≡ cond b [] (x ∷ []) ∷ lines (cond b [] [])) [ true ↦ refl | false ↦ refl ]
lines-first x (y ∷ ys) =
    let ls = lines (y ∷ ys) in
    let next = lines-first y ys in
    elim (eqb x 10) as (λ b. cond b ([] ∷ ls) (begin x ls) ≡ cond b [] (x ∷ first_line (y ∷ ys)) ∷ lines (cond b (y ∷ ys) (drop_through 10 (y ∷ ys)))) [
      | true ↦ refl
      | false ↦ ap (begin x) next
    ]

first_line-append : (xs ys : List ℕ) → All (λ x. x ≢ 10) xs → first_line (xs ++ ys) ≡ xs ++ first_line ys
first_line-append [] ys h = refl
first_line-append (x ∷ xs) ys h =
    ap (λ b. cond b [] (x ∷ first_line (xs ++ ys))) (ne_eqb x 10 (All-head (λ y. y ≢ 10) x xs h))
    ∙ ap (λ l. x ∷ l) (first_line-append xs ys (All-tail (λ y. y ≢ 10) x xs h))

-- A line that begins with these bytes.
pub lines-begun : (xs ys : List ℕ) → All (λ x. x ≢ 10) xs → 0 < length xs → lines (xs ++ ys) ≡ (xs ++ first_line ys) ∷ lines (drop_through 10 ys)
lines-begun [] ys h some = absurd (omega (arith, some))
lines-begun (x ∷ xs) ys h some =
    lines-first x (xs ++ ys) ∙ ap (λ l. l ∷ lines (drop_through 10 (x ∷ xs ++ ys))) (first_line-append (x ∷ xs) ys h)
    ∙ ap (λ l. (x ∷ xs ++ first_line ys) ∷ lines l) (drop_through-append 10 (x ∷ xs) ys h)

-- A line with its line feed.
pub lines-feed : (xs ys : List ℕ) → All (λ x. x ≢ 10) xs → lines (xs ++ 10 ∷ ys) ≡ xs ∷ lines ys
lines-feed [] ys h = refl
lines-feed (x ∷ xs) ys h =
    lines-begun (x ∷ xs) (10 ∷ ys) h (omega arith) ∙ ap (λ l. l ∷ lines ys) (append-nil (x ∷ xs))

-- The last line, without one.
pub lines-last : (xs : List ℕ) → All (λ x. x ≢ 10) xs → 0 < length xs → lines xs ≡ xs ∷ []
lines-last xs h some =
    ap lines (sym (append-nil xs)) ∙ lines-begun xs [] h some ∙ ap (λ l. l ∷ []) (append-nil xs)

-- Lines that come first, and then others.
pub first-then : (a b c : Option (List (List ℕ))) (p q : List (List ℕ)) → ComeFirst a b p → ComeFirst b c q → ComeFirst a c (p ++ q)
first-then None b c p q h k = tt
first-then (Some x) None c p q h k = absurd h
first-then (Some x) (Some y) None p q h k = absurd k
first-then (Some x) (Some y) (Some z) p q h k = h ∙ ap (λ l. p ++ l) k ∙ sym (append_assoc p q z)

-- ---- a line is begun or gone on with

-- ---- a text grew

-- Nothing was passed where a text grew.
pub grown-within : (t u : List ℕ) (a b : Option (List ℕ)) → LineGrows [] a b t u → ComeFirst (left_at Within t a) (left_at Within u b) []
grown-within t u None b h = tt
grown-within t u (Some x) None h = absurd h.3
grown-within t u (Some x) (Some y) h =
    ap lines (ap (λ l. t ++ l) (h.3 ∙ ap (λ l. l ++ y) (append-nil h.0)) ∙ sym (append_assoc t h.0 y) ∙ ap (λ l. l ++ y) (sym h.1))

-- A text that grew has no line feed.
pub grown-one : (more : List ℕ) (t u : List ℕ) (a b : Option (List ℕ)) → All (λ x. x ≢ 10) t → LineGrows more a b t u → All (λ x. x ≢ 10) u
grown-one more t u a b all h = subst (All (λ x. x ≢ 10)) (sym h.1) (All-append (λ x. x ≢ 10) t h.0 all h.2)

-- The text is the next line, before its line feed.
pub fed-line : (t u : List ℕ) (a b : Option (List ℕ)) → All (λ x. x ≢ 10) t → LineGrows (10 ∷ []) a b t u
    → ComeFirst (left_at Within t a) (left_at Between u b) (u ∷ [])
fed-line t u None b all h = tt
fed-line t u (Some x) None all h = absurd h.3
fed-line t u (Some x) (Some y) all h =
    let whole : t ++ x ≡ u ++ 10 ∷ y =
    ap (λ l. t ++ l) (h.3 ∙ append_assoc h.0 (10 ∷ []) y) ∙ sym (append_assoc t h.0 (10 ∷ y)) ∙ ap (λ l. l ++ 10 ∷ y) (sym h.1) in
    ap lines whole ∙ lines-feed u y (grown-one (10 ∷ []) t u (Some x) (Some y) all h)

-- The text is the last line.
pub last-line : (t u : List ℕ) (a b : Option (List ℕ)) → All (λ x. x ≢ 10) t → 0 < length u → LineGrows [] a b t u → IfSome a (λ _. IsAtEnd b)
    → ComeFirst (left_at Within t a) (left_at Between u b) (u ∷ [])
last-line t u None b all some h end = tt
last-line t u (Some x) None all some h end = absurd h.3
last-line t u (Some x) (Some y) all some h end =
    let whole : t ++ x ≡ u =
    ap (λ l. t ++ l) (h.3 ∙ ap (λ l. l ++ y) (append-nil h.0) ∙ ap (λ l. h.0 ++ l) end ∙ append-nil h.0) ∙ sym h.1 in
    ap lines whole ∙ lines-last u (grown-one [] t u (Some x) (Some y) all h) some ∙ ap (λ l. u ∷ lines l) (sym end)

-- The next line is longer than the limit.
pub long-line : (limit : ℕ) (t u : List ℕ) (a b : Option (List ℕ)) → All (λ x. x ≢ 10) t → LineGrows [] a b t u → GoesPast limit a b u
    → (line : List ℕ) × (limit < length line) × ComeFirst (left_at Within t a) (left_at Past u b) (line ∷ [])
long-line limit t u None b all h past = (u ++ past.0, omega (arith, past.1, length-append u past.0), tt)
long-line limit t u (Some x) None all h past = absurd h.3
long-line limit t u (Some x) (Some y) all h past =
    let rest = past.3 in
    let begun = u ++ past.0 in
    let none = All-append (λ x. x ≢ 10) u past.0 (grown-one [] t u (Some x) (Some y) all h) past.2 in
    let whole : t ++ x ≡ begun ++ rest.0 =
    ap (λ l. t ++ l) (h.3 ∙ ap (λ l. l ++ y) (append-nil h.0)) ∙ sym (append_assoc t h.0 y) ∙ ap (λ l. l ++ y) (sym h.1)
    ∙ ap (λ l. u ++ l) rest.1 ∙ sym (append_assoc u past.0 rest.0) in
    let next : drop_through 10 y ≡ drop_through 10 rest.0 = ap (drop_through 10) rest.1 ∙ drop_through-append 10 past.0 rest.0 past.2 in (
      begun ++ first_line rest.0,
      omega (arith, past.1, length-append u past.0, length-append begun (first_line rest.0)),
      ap lines whole ∙ lines-begun begun rest.0 none (omega (arith, past.1, length-append u past.0)) ∙ ap (λ l. (begun ++ first_line rest.0) ∷ lines l) (sym next),
    )

-- ---- refusals

-- A failure came where blank lines alone were passed.
pub failure-refused : (old new : Lines) (e : LineError) → IsReadFailure e → PassesBlank old new → TellsLine old new e
failure-refused old new (TooLong n) failure passed = absurd failure
failure-refused old new Memory failure passed = passed
failure-refused old new (Io e) failure passed = passed

-- Nothing was passed.
pub none-blank : (old new : Lines) → ComeFirst old.left new.left [] → new.number ≡ old.number → new.limit ≡ old.limit → PassesBlank old new
none-blank old new first same limit = record {
  blank = [];
  all_blank = All-nil IsBlank;
  passed = record { first = first; counted = same ∙ omega arith; limit = limit };
}

-- One line was passed.
pub one-passed : (old new : Lines) (line : List ℕ) → ComeFirst old.left new.left (line ∷ []) → new.number ≡ old.number + 1 → new.limit ≡ old.limit → PassesLines old new (line ∷ [])
one-passed old new line first next limit = record { first = first; counted = next; limit = limit }

-- The one line that was passed is longer than the limit.
pub long-refused : (old new : Lines) → (line : List ℕ) × (new.limit < length line) × ComeFirst old.left new.left (line ∷ []) → new.number ≡ old.number + 1 → new.limit ≡ old.limit
    → RefusesLine old new
long-refused old new h next limit = record {
  line = h.0;
  passed = record { blank = []; all_blank = All-nil IsBlank; passed = one-passed old new h.0 h.2 next limit };
  longer = h.1;
}

-- ---- lines one after another

passes-then : (a b c : Lines) (p q : List (List ℕ)) → PassesLines a b p → PassesLines b c q → PassesLines a c (p ++ q)
passes-then a b c p q h k = record {
  first = first-then a.left b.left c.left p q h.first k.first;
  counted = omega (arith, h.counted, k.counted, length-append p q);
  limit = k.limit ∙ h.limit;
}

-- Blank lines, and then what is blank too.
pub blank-then : (a b c : Lines) → PassesBlank a b → PassesBlank b c → PassesBlank a c
blank-then a b c h k = record {
  blank = h.blank ++ k.blank;
  all_blank = All-append IsBlank h.blank k.blank h.all_blank k.all_blank;
  passed = passes-then a b c h.blank k.blank h.passed k.passed;
}

-- Blank lines, and then a line behind such.
pub blank-to : (a b c : Lines) (line : List ℕ) → PassesBlank a b → PassesTo b c line → PassesTo a c line
blank-to a b c line h k = record {
  blank = h.blank ++ k.blank;
  all_blank = All-append IsBlank h.blank k.blank h.all_blank k.all_blank;
  passed = subst (PassesLines a c) (sym (append_assoc h.blank k.blank (line ∷ []))) (passes-then a b c h.blank (k.blank ++ line ∷ []) h.passed k.passed);
}

-- The line that was passed is blank.
pub one-blank : (a b : Lines) (line : List ℕ) → PassesLines a b (line ∷ []) → IsBlank line → PassesBlank a b
one-blank a b line h is = record { blank = line ∷ []; all_blank = All-cons IsBlank line [] is (All-nil IsBlank); passed = h }

-- A refusal behind blank lines.
pub blank-refused : (a b c : Lines) (e : LineError) → PassesBlank a b → TellsLine b c e → TellsLine a c e
blank-refused a b c (TooLong n) h k =
    (record { line = k.0.line; passed = blank-to a b c k.0.line h k.0.passed; longer = k.0.longer }, k.1)
blank-refused a b c Memory h k = blank-then a b c h k
blank-refused a b c (Io e) h k = blank-then a b c h k
