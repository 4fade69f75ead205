-- A comment is the same piece wherever it stands.
use Rattle.std.proofs.Common.{◌≡◌, ℕ, suc, ◌-◌, ◌≤◌, ◌<◌, ◌+◌, Bool, true, false, cond, ◌==◌, ◌&&◌, List, [], ◌∷◌, ◌++◌, length, take, drop, get_or, Option, Some, None, refl, sym, ap, ap₂, ◌∙◌, subst, arith, append-nil, append_assoc, length-append, length-drop}
use Rattle.std.specs.List.{list_all}
use Rattle.std.proofs.lemmas.Bool.{and_parts, and_from, eqb-true}
use Rattle.std.proofs.lemmas.List.{take_at, drop_at, take_all, drop_all, take-append-drop, get_or-drop}
use Rattle.std.proofs.Math.Seq.{take-suc}
use Rattle.facet_format.specs.Bytes.{is_space, slash, star, line_feed}
use Rattle.facet_json_token.specs.Gap.{jsonc, whole}
use Rattle.facet_json_token.specs.GapLen.{one_more, through_block_end, through_line_end, with_mark, with_line_mark, piece_len}
use Rattle.facet_json_grammar.specs.RfcText.{AreSpaces}
use Rattle.facet_json_document.specs.Pieces.{comment, kept, trimmed, with_comment, pieces}
use Rattle.facet_json_document.specs.Inner.Layout.{ends_line}
use Rattle.facet_json_document.proofs.PieceSteps.{pieces-gap, pieces-blank, pieces-spaces}

-- ---- without white space at the end

-- The bytes are what is left, and white space.
pub record IsTrimmed (bytes text : List ℕ) : Type 0 where
  pub spaces : List ℕ
  pub blank : AreSpaces spaces
  pub whole_is : bytes ≡ text ++ spaces

trimmed-more : (b : ℕ) (bytes left : List ℕ) → IsTrimmed bytes left → IsTrimmed (b ∷ bytes) (kept b left)
trimmed-more b bytes [] t = by (is_space b) refl
  where
    by : (c : Bool) → is_space b ≡ c → IsTrimmed (b ∷ bytes) (cond c [] (b ∷ []))
    by true e = record { spaces = b ∷ t.spaces; blank = and_from (is_space b) (list_all is_space t.spaces) e t.blank; whole_is = ap (λ l. b ∷ l) t.whole_is }
    by false e = record { spaces = t.spaces; blank = t.blank; whole_is = ap (λ l. b ∷ l) t.whole_is }
trimmed-more b bytes (c ∷ left) t = record { spaces = t.spaces; blank = t.blank; whole_is = ap (λ l. b ∷ l) t.whole_is }

pub is-trimmed : (bytes : List ℕ) → IsTrimmed bytes (trimmed bytes)
is-trimmed [] = record { spaces = []; blank = refl; whole_is = refl }
is-trimmed (b ∷ bytes) = trimmed-more b bytes (trimmed bytes) (is-trimmed bytes)

kept-again : (b : ℕ) (left : List ℕ) → trimmed left ≡ left → trimmed (kept b left) ≡ kept b left
kept-again b [] e = by (is_space b) refl
  where
    by : (c : Bool) → is_space b ≡ c → trimmed (cond c [] (b ∷ [])) ≡ cond c [] (b ∷ [])
    by true f = refl
    by false f = rw f refl
kept-again b (c ∷ left) e = ap (kept b) e

pub trimmed-again : (bytes : List ℕ) → trimmed (trimmed bytes) ≡ trimmed bytes
trimmed-again [] = refl
trimmed-again (b ∷ bytes) = kept-again b (trimmed bytes) (trimmed-again bytes)

-- White space at the end goes.
pub trimmed-space : (bytes : List ℕ) (b : ℕ) → is_space b ≡ true → trimmed (bytes ++ b ∷ []) ≡ trimmed bytes
trimmed-space [] b e = rw e refl
trimmed-space (c ∷ bytes) b e = ap (kept c) (trimmed-space bytes b e)

kept-some : (b c : ℕ) (before : List ℕ) → kept b (before ++ c ∷ []) ≡ b ∷ (before ++ c ∷ [])
kept-some b c [] = refl
kept-some b c (d ∷ before) = refl

-- Any other byte stays there.
pub trimmed-kept : (bytes : List ℕ) (b : ℕ) → is_space b ≡ false → trimmed (bytes ++ b ∷ []) ≡ bytes ++ b ∷ []
trimmed-kept [] b e = rw e refl
trimmed-kept (c ∷ bytes) b e = ap (kept c) (trimmed-kept bytes b e) ∙ kept-some c b bytes

-- The last of some bytes between two offsets.
pub last-byte : (text : List ℕ) (at end d : ℕ) → at < end → end ≤ length text →
    take (end - at) (drop at text) ≡ take (end - 1 - at) (drop at text) ++ get_or text (end - 1) d ∷ []
last-byte text at end d h w =
    let n = end - 1 - at in
    let size : end - at ≡ suc n = omega (arith, h) in
    let place : at + n ≡ end - 1 = omega (arith, h) in
    ap (λ m. take m (drop at text)) size ∙ take-suc (drop at text) n d (omega (arith, h, w, length-drop at text))
    ∙ ap (λ b. take n (drop at text) ++ b ∷ []) (get_or-drop at text n d ∙ ap (λ m. get_or text m d) place)

kept-slash : (left : List ℕ) → kept slash left ≡ slash ∷ left
kept-slash [] = refl
kept-slash (c ∷ left) = refl

-- The mark of a line comment stays.
pub trimmed-mark : (bytes : List ℕ) → trimmed (slash ∷ slash ∷ bytes) ≡ slash ∷ slash ∷ trimmed bytes
trimmed-mark bytes = ap (kept slash) (kept-slash (trimmed bytes)) ∙ kept-slash (slash ∷ trimmed bytes)

-- ---- block comments

-- up to where a block comment ends
pub record IsBlockEnd (bytes : List ℕ) (m : ℕ) : Type 0 where
  pub j : ℕ
  pub some : m ≡ suc (suc j)
  pub size : length (take m bytes) ≡ m
  pub within : m ≤ length bytes
  pub same : trimmed (take m bytes) ≡ take m bytes
  pub again : (k : List ℕ) → through_block_end (take m bytes ++ k) ≡ Some m

some-inj : (n m : ℕ) → Some n ≡ Some m → n ≡ m
some-inj n m e = ap (λ o. elim o as (λ _. ℕ) [ None ↦ 0 | Some x ↦ x ]) e

one_more-some : (o : Option ℕ) (m : ℕ) → one_more o ≡ Some m → (j : ℕ) × (o ≡ Some j) × (m ≡ suc j)
one_more-some None m e = cc
one_more-some (Some j) m e = (j, refl, sym (some-inj (suc j) m e))

block-last : (b c : ℕ) (bytes : List ℕ) → (b == star) && (c == slash) ≡ true → IsBlockEnd (b ∷ c ∷ bytes) 2
block-last b c bytes e =
    let two = and_parts (b == star) (c == slash) e in
    let front : b ≡ star = eqb-true b star two.0 in
    let back : c ≡ slash = eqb-true c slash two.1 in
    record {
      j = 0;
      some = refl;
      size = refl;
      within = omega arith;
      same = subst (λ y. trimmed (b ∷ y ∷ []) ≡ b ∷ y ∷ []) (sym back) refl;
      again = λ k. rw e refl;
    }

block-more : (b c m : ℕ) (bytes : List ℕ) → (b == star) && (c == slash) ≡ false → IsBlockEnd (c ∷ bytes) m → IsBlockEnd (b ∷ c ∷ bytes) (suc m)
block-more b c m bytes e h =
    let front : take m (c ∷ bytes) ≡ c ∷ take (suc h.j) bytes = ap (λ n. take n (c ∷ bytes)) h.some in
    record {
      j = suc h.j;
      some = ap suc h.some;
      size = ap suc h.size;
      within = omega (arith, h.within);
      same = ap (kept b) (h.same ∙ front) ∙ ap (λ l. b ∷ l) (sym front);
      again = λ k.
          let inner : through_block_end (c ∷ (take (suc h.j) bytes ++ k)) ≡ Some m = ap (λ l. through_block_end (l ++ k)) (sym front) ∙ h.again k in
          let step : through_block_end (b ∷ c ∷ (take (suc h.j) bytes ++ k)) ≡ Some (suc m) = rw e (ap one_more inner) in
          ap (λ l. through_block_end (b ∷ (l ++ k))) front ∙ step;
    }

pub block-end : (bytes : List ℕ) (m : ℕ) → through_block_end bytes ≡ Some m → IsBlockEnd bytes m
block-end [] m e = cc
block-end (b ∷ []) m e = cc
block-end (b ∷ c ∷ bytes) m e = by (λ j. block-end (c ∷ bytes) j) ((b == star) && (c == slash)) refl e
  where
    by : ((j : ℕ) → through_block_end (c ∷ bytes) ≡ Some j → IsBlockEnd (c ∷ bytes) j) → (t : Bool) → (b == star) && (c == slash) ≡ t →
        cond t (Some 2) (one_more (through_block_end (c ∷ bytes))) ≡ Some m → IsBlockEnd (b ∷ c ∷ bytes) m
    by further true same f = subst (IsBlockEnd (b ∷ c ∷ bytes)) (some-inj 2 m f) (block-last b c bytes same)
    by further false same f =
        let p = one_more-some (through_block_end (c ∷ bytes)) m f in
        subst (IsBlockEnd (b ∷ c ∷ bytes)) (sym p.2) (block-more b c p.0 bytes same (further p.0 p.1))

-- A block comment before whatever follows it.
pub block-again : (rest k : List ℕ) (m : ℕ) → through_block_end rest ≡ Some m →
    pieces jsonc (take (suc (suc m)) (slash ∷ star ∷ rest) ++ k) ≡ comment (take (suc (suc m)) (slash ∷ star ∷ rest)) ∷ pieces jsonc k
block-again rest k m e =
    let h = block-end rest m e in
    let body = take m rest in
    let size : length body ≡ m = h.size in
    let all = slash ∷ star ∷ (body ++ k) in
    let len : piece_len jsonc whole all ≡ suc (suc m) = ap with_mark (h.again k) in
    let front : take m (body ++ k) ≡ body = take_at body k m size in
    let behind : drop m (body ++ k) ≡ k = drop_at body k m size in
    let text : trimmed (slash ∷ star ∷ body) ≡ slash ∷ star ∷ body = ap (λ l. kept slash (kept star l)) h.same ∙ mark body in
    pieces-gap jsonc slash (suc m) (star ∷ (body ++ k)) len
    ∙ ap (λ l. with_comment (trimmed (slash ∷ star ∷ l)) (pieces jsonc (drop m (body ++ k)))) front
    ∙ ap (λ l. with_comment l (pieces jsonc (drop m (body ++ k)))) text
    ∙ ap (λ l. comment (slash ∷ star ∷ body) ∷ pieces jsonc l) behind
  where
    mark : (l : List ℕ) → kept slash (kept star l) ≡ slash ∷ star ∷ l
    mark [] = refl
    mark (x ∷ l) = refl

-- ---- line comments

-- What stands before the first line feed, and with it.
pub record IsLineEnd (bytes : List ℕ) (m : ℕ) : Type 0 where
  pub line : List ℕ
  pub is : take m bytes ≡ line ++ line_feed ∷ []
  pub size : m ≤ length bytes
  pub unended : through_line_end line ≡ None

one_more-none : (o : Option ℕ) → o ≡ None → one_more o ≡ None
one_more-none o e = rw e refl

line-more : (b m : ℕ) (bytes : List ℕ) → (b == line_feed) ≡ false → IsLineEnd bytes m → IsLineEnd (b ∷ bytes) (suc m)
line-more b m bytes e h = record {
  line = b ∷ h.line;
  is = ap (λ l. b ∷ l) h.is;
  size = omega (arith, h.size);
  unended = rw e (one_more-none (through_line_end h.line) h.unended);
}

pub line-end : (bytes : List ℕ) (m : ℕ) → through_line_end bytes ≡ Some m → IsLineEnd bytes m
line-end [] m e = cc
line-end (b ∷ bytes) m e = by (λ j. line-end bytes j) (b == line_feed) refl e
  where
    by : ((j : ℕ) → through_line_end bytes ≡ Some j → IsLineEnd bytes j) → (t : Bool) → (b == line_feed) ≡ t →
        cond t (Some 1) (one_more (through_line_end bytes)) ≡ Some m → IsLineEnd (b ∷ bytes) m
    by further true same f =
        let here : IsLineEnd (b ∷ bytes) 1 = record { line = []; is = ap (λ x. x ∷ []) (eqb-true b line_feed same); size = omega arith; unended = refl } in
        subst (IsLineEnd (b ∷ bytes)) (some-inj 1 m f) here
    by further false same f =
        let p = one_more-some (through_line_end bytes) m f in
        subst (IsLineEnd (b ∷ bytes)) (sym p.2) (line-more b p.0 bytes same (further p.0 p.1))

-- Nothing is one more than nothing alone.
none-before : (o : Option ℕ) → one_more o ≡ None → o ≡ None
none-before None e = refl
none-before (Some n) e = cc

-- Bytes without a line feed, and then one.
line-found : (line k : List ℕ) → through_line_end line ≡ None → through_line_end (line ++ line_feed ∷ k) ≡ Some (suc (length line))
line-found [] k e = refl
line-found (b ∷ line) k e = by (λ f. line-found line k f) (b == line_feed) refl e
  where
    by : (through_line_end line ≡ None → through_line_end (line ++ line_feed ∷ k) ≡ Some (suc (length line))) → (t : Bool) →
        (b == line_feed) ≡ t → cond t (Some 1) (one_more (through_line_end line)) ≡ None →
        through_line_end (b ∷ (line ++ line_feed ∷ k)) ≡ Some (suc (length (b ∷ line)))
    by further true same f = cc
    by further false same f = rw same (ap one_more (further (none-before (through_line_end line) f)))

-- The first bytes of a line have no line feed either.
line-front : (a b : List ℕ) → through_line_end (a ++ b) ≡ None → through_line_end a ≡ None
line-front [] b e = refl
line-front (x ∷ a) b e = by (λ f. line-front a b f) (x == line_feed) refl e
  where
    by : (through_line_end (a ++ b) ≡ None → through_line_end a ≡ None) → (t : Bool) → (x == line_feed) ≡ t →
        cond t (Some 1) (one_more (through_line_end (a ++ b))) ≡ None → through_line_end (x ∷ a) ≡ None
    by further true same f = cc
    by further false same f = rw same (one_more-none (through_line_end a) (further (none-before (through_line_end (a ++ b)) f)))

-- A line comment before what ends its line.
pub line-again : (line k : List ℕ) → through_line_end line ≡ None → ends_line k ≡ true →
    let text = trimmed (slash ∷ slash ∷ line) in pieces jsonc (text ++ k) ≡ comment text ∷ pieces jsonc k
line-again line [] none_in ends =
    let left = trimmed line in
    let t = is-trimmed line in
    let text = slash ∷ slash ∷ left in
    let mark : trimmed (slash ∷ slash ∷ line) ≡ text = trimmed-mark line in
    let none : through_line_end left ≡ None = line-front left t.spaces (ap through_line_end (sym t.whole_is) ∙ none_in) in
    let len : piece_len jsonc whole text ≡ suc (suc (length left)) = ap (with_line_mark whole left) none in
    let all : take (length left) left ≡ left = take_all (length left) left (omega arith) in
    let behind : drop (length left) left ≡ [] = drop_all (length left) left (omega arith) in
    let same : trimmed (slash ∷ slash ∷ left) ≡ text = trimmed-mark left ∙ ap (λ l. slash ∷ slash ∷ l) (trimmed-again line) in
    ap (pieces jsonc) (append-nil (trimmed (slash ∷ slash ∷ line)) ∙ mark)
    ∙ pieces-gap jsonc slash (suc (length left)) (slash ∷ left) len
    ∙ ap₂ (λ l r. with_comment (trimmed (slash ∷ slash ∷ l)) (pieces jsonc r)) all behind
    ∙ ap (λ l. with_comment l (pieces jsonc [])) same
    ∙ ap (λ l. comment l ∷ pieces jsonc []) (sym mark)
line-again line (b ∷ k) none_in ends =
    let feed : b ≡ line_feed = eqb-true b line_feed ends in
    let left = trimmed line in
    let t = is-trimmed line in
    let text = slash ∷ slash ∷ left in
    let mark : trimmed (slash ∷ slash ∷ line) ≡ text = trimmed-mark line in
    let none : through_line_end left ≡ None = line-front left t.spaces (ap through_line_end (sym t.whole_is) ∙ none_in) in
    let all = left ++ line_feed ∷ k in
    let n = suc (length left) in
    let len : piece_len jsonc whole (slash ∷ slash ∷ all) ≡ suc (suc n) = ap (with_line_mark whole all) (line-found left k none) in
    let split : all ≡ (left ++ line_feed ∷ []) ++ k = sym (append_assoc left (line_feed ∷ []) k) in
    let size : length (left ++ line_feed ∷ []) ≡ n = length-append left (line_feed ∷ []) ∙ omega arith in
    let front : take n all ≡ left ++ line_feed ∷ [] = ap (take n) split ∙ take_at (left ++ line_feed ∷ []) k n size in
    let behind : drop n all ≡ k = ap (drop n) split ∙ drop_at (left ++ line_feed ∷ []) k n size in
    let same : trimmed (slash ∷ slash ∷ (left ++ line_feed ∷ [])) ≡ text =
    trimmed-mark (left ++ line_feed ∷ []) ∙ ap (λ l. slash ∷ slash ∷ l) (trimmed-space left line_feed refl ∙ trimmed-again line) in
    let done : pieces jsonc (text ++ line_feed ∷ k) ≡ comment text ∷ pieces jsonc (line_feed ∷ k) =
    pieces-gap jsonc slash (suc n) (slash ∷ all) len
    ∙ ap₂ (λ l r. with_comment (trimmed (slash ∷ slash ∷ l)) (pieces jsonc r)) front behind
    ∙ ap (λ l. with_comment l (pieces jsonc k)) same
    ∙ ap (λ ps. comment text ∷ ps) (sym (pieces-blank jsonc line_feed k refl)) in
    subst (λ x. pieces jsonc (trimmed (slash ∷ slash ∷ line) ++ x ∷ k) ≡ comment (trimmed (slash ∷ slash ∷ line)) ∷ pieces jsonc (x ∷ k)) (sym feed)
    (subst (λ l. pieces jsonc (l ++ line_feed ∷ k) ≡ comment l ∷ pieces jsonc (line_feed ∷ k)) (sym mark) done)

-- ---- where it stands

-- A piece of a gap that begins with a slash is a comment, without the white space at its end.
pub comment-came : (rest text : List ℕ) (n : ℕ) → piece_len jsonc whole (slash ∷ rest) ≡ suc n → suc n ≤ length (slash ∷ rest) →
    trimmed (take (suc n) (slash ∷ rest)) ≡ text → (slash ∷ rest ≡ text ++ drop (length text) (slash ∷ rest))
    × (pieces jsonc (slash ∷ rest) ≡ with_comment text (pieces jsonc (drop (length text) (slash ∷ rest))))
comment-came rest text n e h same =
    let all = slash ∷ rest in
    let t : IsTrimmed (take (suc n) all) text = subst (IsTrimmed (take (suc n) all)) same (is-trimmed (take (suc n) all)) in
    let split : all ≡ text ++ (t.spaces ++ drop (suc n) all) =
    sym (take-append-drop (suc n) all) ∙ ap (λ l. l ++ drop (suc n) all) t.whole_is ∙ append_assoc text t.spaces (drop (suc n) all) in
    let left : drop (length text) all ≡ t.spaces ++ drop (suc n) all = ap (drop (length text)) split ∙ drop_at text _ (length text) refl in
    let behind : pieces jsonc (drop (length text) all) ≡ pieces jsonc (drop (suc n) all) =
    ap (pieces jsonc) left ∙ pieces-spaces jsonc t.spaces (drop (suc n) all) t.blank in (
      split ∙ ap (λ l. text ++ l) (sym left),
      pieces-gap jsonc slash n rest e ∙ ap (λ l. with_comment l (pieces jsonc (drop n rest))) same
          ∙ ap (with_comment text) (sym behind),
    )
