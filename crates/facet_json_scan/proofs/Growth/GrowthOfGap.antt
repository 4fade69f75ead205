-- What more bytes leave of the gap at the start of a buffer.
use Rattle.std.proofs.Common.{◌≡◌, ℕ, zero, suc, Bool, true, false, cond, ◌==◌, ◌&&◌, List, [], ◌∷◌, ◌++◌, drop, Option, Some, None, refl, sym, ap, ◌∙◌}
use Rattle.std.proofs.lemmas.Bool.{eqb-true, and_parts}
use Rattle.facet_format.specs.Bytes.{is_space, slash, star}
use Rattle.facet_json_token.specs.Gap.{Mode, plain, jsonc, whole, growing, OpensBlock, OpensLine}
use Rattle.facet_json_token.specs.GapLen.{one_more, through_block_end, through_line_end, with_mark, with_line_mark, comment_len, piece_len, gap_len_from}
use Rattle.facet_json_token.specs.Open.{IsBeginning}
use Rattle.facet_json_token.proofs.Gaps.{gap_len-none, gap_len-some}

-- What the first has, the second has too.
abbrev pub Keeps : Option ℕ → Option ℕ → Type 0
Keeps o p = (n : ℕ) → o ≡ Some n → p ≡ Some n

-- A length that counts one byte more stays as its rest does.
pub one_more-keeps : (o p : Option ℕ) → Keeps o p → Keeps (one_more o) (one_more p)
one_more-keeps None p k n e = cc
one_more-keeps (Some m) p k n e = rw (k m refl) e

-- A length found here or further on stays as the one further on does.
pub cond-keeps : (t : Bool) (here : ℕ) (o p : Option ℕ) → Keeps o p →
    Keeps (cond t (Some here) (one_more o)) (cond t (Some here) (one_more p))
cond-keeps true here o p k n e = e
cond-keeps false here o p k n e = one_more-keeps o p k n e

-- Nothing is found here or further on: it is neither.
pub cond-none : (t : Bool) (here : ℕ) (o : Option ℕ) → cond t (Some here) (one_more o) ≡ None →
    (t ≡ false) × (o ≡ None)
cond-none true here o e = cc
cond-none false here None e = (refl, refl)
cond-none false here (Some n) e = cc

-- The end of a block comment stays.
block_end-keeps : (bytes more : List ℕ) → Keeps (through_block_end bytes) (through_block_end (bytes ++ more))
block_end-keeps [] more n e = cc
block_end-keeps (b ∷ []) more n e = cc
block_end-keeps (b ∷ c ∷ bytes) more n e = cond-keeps _ 2 _ _ (block_end-keeps (c ∷ bytes) more) n e

-- The end of a line stays.
line_end-keeps : (bytes more : List ℕ) → Keeps (through_line_end bytes) (through_line_end (bytes ++ more))
line_end-keeps [] more n e = cc
line_end-keeps (b ∷ bytes) more n e = cond-keeps _ 1 _ _ (line_end-keeps bytes more) n e

-- A block comment without an end is open.
pub opens_block : (bytes : List ℕ) → through_block_end bytes ≡ None → OpensBlock bytes
opens_block [] e = OpensBlock.nothing
opens_block (b ∷ []) e = OpensBlock.one b
opens_block (b ∷ c ∷ bytes) e =
    let none = cond-none _ 2 _ e in
    OpensBlock.more b c bytes none.0 (opens_block (c ∷ bytes) none.1)

-- A line without an end is open.
pub opens_line : (bytes : List ℕ) → through_line_end bytes ≡ None → OpensLine bytes
opens_line [] e = OpensLine.nothing
opens_line (b ∷ bytes) e =
    let none = cond-none _ 1 _ e in
    OpensLine.more b bytes none.0 (opens_line bytes none.1)

-- A comment that is closed stays, by its two marks t and u and by the ends o and l of a block and a line.
comment_by-keeps : (t u : Bool) (o p l m : Option ℕ) (bytes longer : List ℕ) (n : ℕ) → Keeps o p → Keeps l m →
    cond t (with_mark o) (cond u (with_line_mark growing bytes l) 0) ≡ suc n →
    cond t (with_mark p) (cond u (with_line_mark whole longer m) 0) ≡ suc n
comment_by-keeps true u None p l m bytes longer n k j e = cc
comment_by-keeps true u (Some i) p l m bytes longer n k j e = rw (k i refl) e
comment_by-keeps false true o p None m bytes longer n k j e = cc
comment_by-keeps false true o p (Some i) m bytes longer n k j e = rw (j i refl) e
comment_by-keeps false false o p l m bytes longer n k j e = cc

-- Where no comment is closed and none is open, none comes to stand, by the same.
comment_by-none : (t u : Bool) (o p l m : Option ℕ) (bytes longer : List ℕ) → (t ≡ true → o ≡ None → ⊥) →
    (u ≡ true → l ≡ None → ⊥) →
    cond t (with_mark o) (cond u (with_line_mark growing bytes l) 0) ≡ 0 →
    cond t (with_mark p) (cond u (with_line_mark whole longer m) 0) ≡ 0
comment_by-none true u None p l m bytes longer k j e = absurd (k refl refl)
comment_by-none true u (Some i) p l m bytes longer k j e = cc
comment_by-none false true o p None m bytes longer k j e = absurd (j refl refl)
comment_by-none false true o p (Some i) m bytes longer k j e = cc
comment_by-none false false o p l m bytes longer k j e = refl

-- Where a mark and what follows count nothing, nothing follows.
pub with_mark-none : (o : Option ℕ) → with_mark o ≡ 0 → o ≡ None
with_mark-none None e = refl
with_mark-none (Some n) e = cc

-- A block comment that is no piece of a gap is the beginning of one.
pub block_begins : (bytes : List ℕ) → piece_len jsonc growing (slash ∷ star ∷ bytes) ≡ 0 →
    IsBeginning jsonc (slash ∷ star ∷ bytes)
block_begins bytes e = IsBeginning.block bytes (opens_block bytes (with_mark-none _ e))

-- A comment that is closed stays.
comment_len-keeps : (bytes more : List ℕ) (n : ℕ) → comment_len growing bytes ≡ suc n →
    comment_len whole (bytes ++ more) ≡ suc n
comment_len-keeps [] more n e = cc
comment_len-keeps (a ∷ []) more n e = cc
comment_len-keeps (a ∷ b ∷ bytes) more n e =
    comment_by-keeps _ _ _ _ _ _ bytes (bytes ++ more) n (block_end-keeps bytes more) (line_end-keeps bytes more) e

-- Where no slash stands, no comment does.
no_slash : (t u v : Bool) (m n : ℕ) → (t ≡ true → ⊥) → cond (t && u) m (cond (t && v) n 0) ≡ 0
no_slash true u v m n k = absurd (k refl)
no_slash false u v m n k = refl

-- Where no comment is closed and none may begin, none comes to stand.
comment_len-none : (a : ℕ) (bytes more : List ℕ) → (IsBeginning jsonc (a ∷ bytes) → ⊥) →
    comment_len growing (a ∷ bytes) ≡ 0 → comment_len whole (a ∷ bytes ++ more) ≡ 0
comment_len-none a [] [] shut e = refl
comment_len-none a [] (b ∷ more) shut e =
    no_slash (a == slash) _ _ _ _ (λ t. shut (rw (eqb-true a slash t) IsBeginning.slash_alone))
comment_len-none a (b ∷ bytes) more shut e = comment_by-none _ _ _ _ _ _ bytes (bytes ++ more) at_block at_line e
  where
    at_block : (a == slash) && (b == star) ≡ true → through_block_end bytes ≡ None → ⊥
    at_block t none =
        let both = and_parts _ _ t in
        shut (rw (eqb-true a slash both.0, eqb-true b star both.1) (IsBeginning.block bytes (opens_block bytes none)))

    at_line : (a == slash) && (b == slash) ≡ true → through_line_end bytes ≡ None → ⊥
    at_line t none =
        let both = and_parts _ _ t in
        shut (rw (eqb-true a slash both.0, eqb-true b slash both.1) (IsBeginning.line bytes (opens_line bytes none)))

-- A blank, or what stands where none is, stays.
blank_or-keeps : (t : Bool) (m n k : ℕ) → (m ≡ suc k → n ≡ suc k) → cond t 1 m ≡ suc k → cond t 1 n ≡ suc k
blank_or-keeps true m n k h e = e
blank_or-keeps false m n k h e = h e

-- Where no blank stands and nothing else comes to stand, nothing does.
blank_or-none : (t : Bool) (m n : ℕ) → (m ≡ 0 → n ≡ 0) → cond t 1 m ≡ 0 → cond t 1 n ≡ 0
blank_or-none true m n h e = e
blank_or-none false m n h e = h e

-- A piece of a gap in a growing buffer stays.
pub piece_len-keeps : (mode : Mode) (bytes more : List ℕ) (n : ℕ) → piece_len mode growing bytes ≡ suc n →
    piece_len mode whole (bytes ++ more) ≡ suc n
piece_len-keeps plain [] more n e = cc
piece_len-keeps plain (b ∷ bytes) more n e = e
piece_len-keeps jsonc [] more n e = cc
piece_len-keeps jsonc (b ∷ bytes) more n e =
    blank_or-keeps (is_space b) _ _ n (comment_len-keeps (b ∷ bytes) more n) e

-- Where no piece of a gap stands and none may begin, none comes to stand.
piece_len-none : (mode : Mode) (b : ℕ) (bytes more : List ℕ) → (IsBeginning mode (b ∷ bytes) → ⊥) →
    piece_len mode growing (b ∷ bytes) ≡ 0 → piece_len mode whole (b ∷ bytes ++ more) ≡ 0
piece_len-none plain b bytes more shut e = e
piece_len-none jsonc b bytes more shut e = blank_or-none (is_space b) _ _ (comment_len-none b bytes more shut) e

-- The gap of a growing buffer stays under more bytes, where what is left after it begins nothing longer. If nothing is
-- left, no more follow.
abbrev GapStays : Mode → List ℕ → List ℕ → ℕ → Type 0
GapStays mode bytes more inside =
    let rest = drop (gap_len_from mode growing inside bytes) bytes in
    (rest ≡ [] → more ≡ []) → (IsBeginning mode rest → ⊥) →
    gap_len_from mode whole inside (bytes ++ more) ≡ gap_len_from mode growing inside bytes

-- The gap stays, where a piece begins it and where none does.
stays_by_piece : (mode : Mode) (b : ℕ) (bytes more : List ℕ) → ((n : ℕ) → GapStays mode bytes more n) →
    (n : ℕ) → piece_len mode growing (b ∷ bytes) ≡ n → GapStays mode (b ∷ bytes) more 0
stays_by_piece mode b bytes more further zero e last shut =
    let none = gap_len-none mode growing (b ∷ bytes) e in
    let begins_not : IsBeginning mode (b ∷ bytes) → ⊥ = λ i. shut (rw none i) in
    gap_len-none mode whole (b ∷ bytes ++ more) (piece_len-none mode b bytes more begins_not e) ∙ sym none
stays_by_piece mode b bytes more further (suc n) e last shut =
    let some = gap_len-some mode growing b bytes n e in
    gap_len-some mode whole b (bytes ++ more) n (piece_len-keeps mode (b ∷ bytes) more n e)
    ∙ ap suc (further n (λ l. last (rw some l)) (λ i. shut (rw some i))) ∙ sym some

-- The gap of a growing buffer stays under more bytes.
pub gap_len-stays : (mode : Mode) (inside : ℕ) (bytes more : List ℕ) → GapStays mode bytes more inside
unfolding gap_len_from
gap_len-stays mode inside [] more last shut = rw (last refl)
gap_len-stays mode (suc inside) (b ∷ bytes) more last shut = ap suc (gap_len-stays mode inside bytes more last shut)
gap_len-stays mode zero (b ∷ bytes) more last shut =
    let further : (n : ℕ) → GapStays mode bytes more n = λ n. gap_len-stays mode n bytes more in
    stays_by_piece mode b bytes more further (piece_len mode growing (b ∷ bytes)) refl last shut
