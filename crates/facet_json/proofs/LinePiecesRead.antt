-- What pieces of a line do one after another, and what a buffer shows of one.
use Rattle.std.proofs.Common.{get_or, ◌≡◌, ◌≢◌, ◌-◌, ◌+◌, ◌<◌, ◌≤◌, ℕ, List, [], ◌∷◌, ◌++◌, All, Option, None, Some, IfSome, IsSomeAnd, length, take, drop, sym, ap, subst, ◌∙◌, append_assoc, append-nil, take-append-drop, length-take-le, arith}
use Rattle.std.proofs.lemmas.List.{take_more}
use Rattle.std.proofs.lemmas.List.Elements.{All-nil, All-append}
use Rattle.std.specs.Io.{StartsWith}
use Rattle.std.specs.Io.KnownBytes.{Keeps, Consumes}
use Rattle.std.specs.Io.BufRead.{drop_through}
use Rattle.std.proofs.BufReadLemmas.{drop_through-append}
use Rattle.std.proofs.KnownBytes.{Consumes-nil, Consumes-kept, Consumes-trans, starts_with_rest}
use Rattle.facet_json.specs.declared.line_pieces.Stop.{Stop}
use Rattle.facet_json.specs.declared.line_pieces.Stop.TheVariants.{LineFeed, End, TooLong}
use Rattle.facet_json.specs.Inner.LinePieces.{LineGrows, GoesPast, LineStops, KeepsNext, LeavesNext}

-- Nothing was read.
pub grows-nothing : (a b : Option (List ℕ)) (before after : List ℕ) → after ≡ before → Keeps a b → LineGrows [] a b before after
grows-nothing a b before after same kept =
    ([], same ∙ sym (append-nil before), All-nil (λ x. x ≢ 10), Consumes-kept a a b [] (Consumes-nil a) kept)

-- So much of what is shown was appended and passed.
pub grows-shown : (a b : Option (List ℕ)) (before after shown : List ℕ) (n : ℕ) → after ≡ before ++ take n shown → All (λ x. x ≢ 10) (take n shown)
    → Consumes a b (take n shown) → LineGrows [] a b before after
grows-shown a b before after shown n same all passed = (take n shown, same, all, subst (Consumes a b) (sym (append-nil (take n shown))) passed)

-- A text grew twice.
pub grows-then : (more : List ℕ) (a b c : Option (List ℕ)) (t u v : List ℕ) → LineGrows [] a b t u → LineGrows more b c u v → LineGrows more a c t v
grows-then more a b c t u v p q = (
  p.0 ++ q.0,
  q.1 ∙ ap (λ l. l ++ q.0) p.1 ∙ append_assoc t p.0 q.0,
  All-append (λ x. x ≢ 10) p.0 q.0 p.2 q.2,
  subst (Consumes a c) (ap (λ l. l ++ (q.0 ++ more)) (append-nil p.0) ∙ sym (append_assoc p.0 q.0 more)) (Consumes-trans a b c (p.0 ++ []) (q.0 ++ more) p.3 q.3),
)

known-then : (a b : Option (List ℕ)) (bs : List ℕ) (P : Type 0) → Consumes a b bs → IfSome b (λ _. P) → IfSome a (λ _. P)
known-then None b bs P p q = tt
known-then (Some x) None bs P p q = absurd p
known-then (Some x) (Some y) bs P p q = q

-- A text grew, and then stopped.
pub stops-then : (limit : ℕ) (a b c : Option (List ℕ)) (t u v : List ℕ) (s : Stop) → LineGrows [] a b t u → LineStops limit b c u v s → LineStops limit a c t v s
stops-then limit a b c t u v LineFeed p q = grows-then (10 ∷ []) a b c t u v p q
stops-then limit a b c t u v End p q = (grows-then [] a b c t u v p q.0, known-then a b (p.0 ++ []) _ p.3 q.1)
stops-then limit a b c t u v TooLong p q =
    (grows-then [] a b c t u v p q.0, (q.1.0, q.1.1, q.1.2, known-then a b (p.0 ++ []) _ p.3 q.1.3))

-- What a buffer shows goes past the limit before its first line feed.
pub shown-past : (limit : ℕ) (a b : Option (List ℕ)) (text shown : List ℕ) (n : ℕ) → n ≤ length shown → length text ≤ limit → limit - length text < n
    → All (λ x. x ≢ 10) (take n shown) → IfSome a (λ xs. StartsWith xs shown) → Keeps a b → GoesPast limit a b text
shown-past limit a b text shown n within room past all front kept =
    (take n shown, omega (arith, length-take-le n shown within), all, at a b front kept)
  where
    at : (a b : Option (List ℕ)) → IfSome a (λ xs. StartsWith xs shown) → Keeps a b
        → IfSome a (λ _. IsSomeAnd b (λ xs. (rest : List ℕ) × (xs ≡ take n shown ++ rest)))
    at None b front kept = tt
    at (Some x) None front kept = absurd kept
    at (Some x) (Some y) front kept = (
      drop n shown ++ drop (length shown) x,
      kept ∙ starts_with_rest x shown front ∙ ap (λ l. l ++ drop (length shown) x) (sym (take-append-drop n shown))
          ∙ append_assoc (take n shown) (drop n shown) (drop (length shown) x),
    )

-- The bytes before a line feed, and the line feed, are what a buffer shows up to it.
pub feed-shown : (shown : List ℕ) (n : ℕ) → n < length shown → get_or shown n 0 ≡ 10 → take (n + 1) shown ≡ take n shown ++ 10 ∷ []
feed-shown shown n within feed = take_more shown n 0 within ∙ ap (λ y. take n shown ++ y ∷ []) feed

-- A reader that lost bytes of a line leaves what comes after that line as it was.
pub piece-keeps : (a c : Option (List ℕ)) (part : List ℕ) → All (λ x. x ≢ 10) part → Consumes a c part → KeepsNext a c
piece-keeps None c part all p = tt
piece-keeps (Some x) None part all p = absurd p
piece-keeps (Some x) (Some y) part all p = sym (ap (drop_through 10) p ∙ drop_through-append 10 part y all)

-- One that lost the line feed too leaves what comes after it.
pub feed-leaves : (a c : Option (List ℕ)) (part : List ℕ) → All (λ x. x ≢ 10) part → Consumes a c (part ++ 10 ∷ []) → LeavesNext a c
feed-leaves None c part all p = tt
feed-leaves (Some x) None part all p = absurd p
feed-leaves (Some x) (Some y) part all p =
    sym (ap (drop_through 10) (p ∙ append_assoc part (10 ∷ []) y) ∙ drop_through-append 10 part (10 ∷ y) all)
