-- A string's content is measured up to the first quote that no backslash escapes: its length, and that it is pieces.
use Rattle.std.proofs.Common.{◌≡◌, ℕ, zero, suc, ◌<◌, Bool, true, false, cond, ◌==◌, List, [], ◌∷◌, ◌++◌, length, take, Option, Some, None, refl, sym, ap, subst, arith}
use Rattle.std.proofs.lemmas.Bool.{cond_both, eqb-true}
use Rattle.facet_format.specs.Bytes.{quote, backslash}
use Rattle.facet_json_token.specs.GapLen.{one_more}
use Rattle.facet_json_token.specs.Cut.{content_len, has_backslash}
use Rattle.facet_json_token.specs.Shape.{ArePieces}

-- ---- its length is within the bytes

-- The number, if there is one, is below k.
abbrev pub Below : Option ℕ → ℕ → Type 0
Below None k = Unit {0}
Below (Some n) k = n < k

-- One more is below one more.
one_more-below : (o : Option ℕ) (k : ℕ) → Below o k → Below (one_more o) (suc k)
one_more-below None k h = tt
one_more-below (Some n) k h = omega arith

-- Nothing, or one more, is below one more.
cond-below : (t : Bool) (o : Option ℕ) (k : ℕ) → Below o k → Below (cond t (Some 0) (one_more o)) (suc k)
cond-below true o k h = omega arith
cond-below false o k h = one_more-below o k h

-- A string's content is shorter than the bytes: its quote is after it.
pub content_len-below : (escaped : Bool) (bytes : List ℕ) → Below (content_len escaped bytes) (length bytes)
content_len-below true [] = tt
content_len-below false [] = tt
content_len-below true (b ∷ bytes) =
    one_more-below (content_len false bytes) (length bytes) (content_len-below false bytes)
content_len-below false (b ∷ bytes) =
    cond-below (b == quote) (content_len (b == backslash) bytes) (length bytes)
    (content_len-below (b == backslash) bytes)

-- ---- pieces are measured as long as they are

-- Pieces before a quote are the content.
pub content_len-is : (content rest : List ℕ) (has_escapes : Bool) → ArePieces content has_escapes →
    content_len false (content ++ quote ∷ rest) ≡ Some (length content)
content_len-is _ rest _ ArePieces.none = refl
content_len-is _ rest _ (ArePieces.byte b others has_escapes no_quote no_backslash h) =
    rw (no_quote, no_backslash) (ap one_more (content_len-is others rest has_escapes h))
content_len-is _ rest _ (ArePieces.escape b others has_escapes h) =
    ap (λ o. one_more (one_more o)) (content_len-is others rest has_escapes h)

-- The mark of pieces says whether a backslash is among them.
pub pieces-mark : (content : List ℕ) (has_escapes : Bool) → ArePieces content has_escapes →
    has_backslash content ≡ has_escapes
pieces-mark _ _ ArePieces.none = refl
pieces-mark _ _ (ArePieces.byte b others has_escapes no_quote no_backslash h) =
    rw no_backslash (pieces-mark others has_escapes h)
pieces-mark _ _ (ArePieces.escape b others has_escapes h) = refl

-- ---- what is measured is pieces

-- The content is so many bytes before a quote, where the first byte is escaped or not; or no quote ends it.
abbrev pub ContentAt : Bool → List ℕ → Option ℕ → Type 0
ContentAt true bytes None = Unit {0}
ContentAt false bytes None = Unit {0}
ContentAt false bytes (Some n) =
    ArePieces (take n bytes) (has_backslash (take n bytes)) × (take (suc n) bytes ≡ take n bytes ++ quote ∷ [])
ContentAt true [] (Some n) = ⊥
ContentAt true (b ∷ bytes) (Some zero) = ⊥
ContentAt true (b ∷ bytes) (Some (suc n)) =
    ArePieces (take n bytes) (has_backslash (take n bytes)) × (take (suc n) bytes ≡ take n bytes ++ quote ∷ [])

-- One byte more in front, escaped.
content_escaped : (b : ℕ) (bytes : List ℕ) (o : Option ℕ) → ContentAt false bytes o →
    ContentAt true (b ∷ bytes) (one_more o)
content_escaped b bytes None h = tt
content_escaped b bytes (Some n) h = h

-- A byte in front that is neither quote nor backslash.
content_byte : (b : ℕ) (bytes : List ℕ) (o : Option ℕ) → (b == quote) ≡ false → (b == backslash) ≡ false →
    ContentAt false bytes o → ContentAt false (b ∷ bytes) (one_more o)
content_byte b bytes None no_quote no_backslash h = tt
content_byte b bytes (Some n) no_quote no_backslash h =
    let pieces : ArePieces (b ∷ take n bytes) (has_backslash (b ∷ take n bytes)) =
    rw no_backslash (ArePieces.byte b (take n bytes) _ no_quote no_backslash h.0) in
    (pieces, ap (λ l. b ∷ l) h.1)

-- A backslash in front.
content_backslash : (bytes : List ℕ) (o : Option ℕ) → ContentAt true bytes o →
    ContentAt false (backslash ∷ bytes) (one_more o)
content_backslash bytes None h = tt
content_backslash [] (Some n) h = absurd h
content_backslash (b ∷ bytes) (Some zero) h = absurd h
content_backslash (b ∷ bytes) (Some (suc n)) h =
    (ArePieces.escape b (take n bytes) _ h.0, ap (λ l. backslash ∷ b ∷ l) h.1)

-- A byte in front that is no quote.
content_more : (t : Bool) (b : ℕ) (bytes : List ℕ) (o : Option ℕ) → (b == quote) ≡ false → (b == backslash) ≡ t →
    ContentAt t bytes o → ContentAt false (b ∷ bytes) (one_more o)
content_more true b bytes o no_quote e h =
    subst (λ x. ContentAt false (x ∷ bytes) (one_more o)) (sym (eqb-true b backslash e)) (content_backslash bytes o h)
content_more false b bytes o no_quote e h = content_byte b bytes o no_quote e h

-- A quote ends the content.
content_here : (b : ℕ) (bytes : List ℕ) → (b == quote) ≡ true → ContentAt false (b ∷ bytes) (Some 0)
content_here b bytes e = (ArePieces.none, ap (λ x. x ∷ []) (eqb-true b quote e))

-- What is measured as content is pieces, and a quote follows.
pub content_at : (escaped : Bool) (bytes : List ℕ) → ContentAt escaped bytes (content_len escaped bytes)
content_at true [] = tt
content_at false [] = tt
content_at true (b ∷ bytes) = content_escaped b bytes (content_len false bytes) (content_at false bytes)
content_at false (b ∷ bytes) =
    cond_both (b == quote) _ _ (ContentAt false (b ∷ bytes)) (content_here b bytes)
    (λ e. content_more (b == backslash) b bytes (content_len (b == backslash) bytes) e refl
    (content_at (b == backslash) bytes))
