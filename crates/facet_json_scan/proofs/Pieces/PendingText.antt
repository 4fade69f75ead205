-- A string that the end of a buffer cuts, byte by byte.
use Rattle.std.proofs.Common.{◌≡◌, ℕ, suc, ◌+◌, ◌-◌, ◌<◌, Bool, true, false, not, ◌==◌, ◌&&◌, ◌||◌, List, [], ◌∷◌, ◌++◌, length, take, drop, slice_get, Some, None, refl, sym, ap, ap₂, ◌∙◌, subst, arith, append_assoc}
use Rattle.std.proofs.lemmas.Bool.{eqb-true}
use Rattle.std.proofs.lemmas.List.{take-append-le, take_all}
use Rattle.facet_format.specs.Bytes.{quote, backslash}
use Rattle.facet_json_token.specs.Gap.{Mode}
use Rattle.facet_json_token.specs.Token.{Kind, string}
use Rattle.facet_json_token.specs.Cut.{token_at, cut_here, start_of, cut_text, opens_text, content_len, has_backslash}
use Rattle.facet_json_token.specs.Shape.{ArePieces}
use Rattle.facet_json_token.specs.Open.{IsBeginning}
use Rattle.facet_json_scan.specs.Scanner.{in_text, Describes}
use Rattle.facet_json_token.proofs.TextShapes.{content_len-is, pieces-mark}
use Rattle.facet_json_scan.proofs.Pieces.Beginnings.{begins_by}
use Rattle.facet_json_token.proofs.FirstBytes.{cut_here-by}
use Rattle.facet_json_token.proofs.Offsets.{drop-at_byte}
use Rattle.facet_json_scan.proofs.Segments.{between, between-length, between-rest}
use Rattle.std.proofs.lemmas.Option.{slice_get_within}

-- One byte more at the end of pieces.
pieces-byte : (content : List ℕ) (has_escapes : Bool) (b : ℕ) → ArePieces content has_escapes → (b == quote) ≡ false →
    (b == backslash) ≡ false → ArePieces (content ++ b ∷ []) has_escapes
pieces-byte _ _ b ArePieces.none q s = ArePieces.byte b [] false q s ArePieces.none
pieces-byte _ _ b (ArePieces.byte a others e p r h) q s = ArePieces.byte a _ e p r (pieces-byte others e b h q s)
pieces-byte _ _ b (ArePieces.escape a others e h) q s = ArePieces.escape a _ e (pieces-byte others e b h q s)

-- One escape more.
pieces-escape : (content : List ℕ) (has_escapes : Bool) (b : ℕ) → ArePieces content has_escapes →
    ArePieces (content ++ backslash ∷ b ∷ []) true
pieces-escape _ _ b ArePieces.none = ArePieces.escape b [] false ArePieces.none
pieces-escape _ _ b (ArePieces.byte a others e p r h) = ArePieces.byte a _ true p r (pieces-escape others e b h)
pieces-escape _ _ b (ArePieces.escape a others e h) = ArePieces.escape a _ true (pieces-escape others e b h)

or-false : (x : Bool) → x || false ≡ x
or-false true = refl
or-false false = refl

or-true : (x : Bool) → x || true ≡ true
or-true true = refl
or-true false = refl

and-true : (x : Bool) → x && true ≡ x
and-true true = refl
and-true false = refl

and-false : (x : Bool) → x && false ≡ false
and-false true = refl
and-false false = refl

-- A byte that is no backslash, or is one, goes on with pieces.
text-byte : (mode : Mode) (content : List ℕ) (e t : Bool) (b : ℕ) → ArePieces content e → (b == quote) ≡ false →
    (b == backslash) ≡ t → Describes mode (in_text (t && true) (e || t)) (quote ∷ content ++ b ∷ [])
text-byte mode content e true b h q s = rw (or-true e, eqb-true b backslash s) (Describes.escape mode content e h)
text-byte mode content e false b h q s =
    rw (or-false e) (Describes.text mode (content ++ b ∷ []) e (pieces-byte content e b h q s))

-- A byte that doesn't close the string goes on with it.
pub text-step : (mode : Mode) (bytes : List ℕ) (escaped e : Bool) (b : ℕ) → Describes mode (in_text escaped e) bytes →
    (b == quote) && not escaped ≡ false →
    Describes mode (in_text ((b == backslash) && not escaped) (e || (b == backslash))) (bytes ++ b ∷ [])
text-step mode _ _ _ b (Describes.text _ content e h) q =
    text-byte mode content e (b == backslash) b h (sym (and-true (b == quote)) ∙ q) refl
text-step mode _ _ _ b (Describes.escape _ content e h) q =
    rw (and-false (b == backslash), append_assoc content (backslash ∷ []) (b ∷ []))
    (Describes.text mode (content ++ backslash ∷ b ∷ []) true (pieces-escape content e b h))

-- A quote closes it: this token is cut.
pub text-closed : (mode : Mode) (start : ℕ) (bytes rest : List ℕ) (e : Bool) → Describes mode (in_text false e) bytes →
    cut_here mode start (bytes ++ quote ∷ rest)
    ≡ token_at (string (suc start) (start + length bytes) e) start (suc (length bytes))
unfolding cut_here start_of
text-closed mode start _ rest _ (Describes.text _ content e h) =
    let len = content_len-is content rest e h in
    let front : take (length content) (content ++ quote ∷ rest) ≡ content =
    take-append-le (length content) content (quote ∷ rest) (omega arith) ∙ take_all (length content) content (omega arith) in
    let escapes : has_backslash (take (length content) (content ++ quote ∷ rest)) ≡ e =
    ap has_backslash front ∙ pieces-mark content e h in
    let finish : suc start + length content ≡ start + suc (length content) = omega arith in
    ap (cut_text start (content ++ quote ∷ rest)) len
    ∙ ap₂ (λ f k. token_at (string (suc start) f k) start (suc (suc (length content)))) finish escapes

-- Then nothing longer begins.
pub text-shut : (mode : Mode) (bytes rest : List ℕ) (e : Bool) → Describes mode (in_text false e) bytes →
    IsBeginning mode (bytes ++ quote ∷ rest) → ⊥
unfolding start_of
text-shut mode _ rest _ (Describes.text _ content e h) i =
    let open_still = begins_by mode quote (content ++ quote ∷ rest) i in
    let len = content_len-is content rest e h in
    cc

-- The string that the quote at an offset of the buffer closes is cut, and nothing longer begins.
pub text-found : (mode : Mode) (buffer : List ℕ) (start end : ℕ) (e : Bool) → start < end →
    Describes mode (in_text false e) (between buffer start end) → slice_get buffer end ≡ Some quote →
    (token_at (string (start + 1) end e) start ((end + 1) - start) ≡ cut_here mode start (drop start buffer))
    × (IsBeginning mode (drop start buffer) → ⊥)
text-found mode buffer start end e order d here =
    let bytes = between buffer start end in
    let rest = drop (end + 1) buffer in
    let room = slice_get_within buffer end quote here in
    let size = between-length buffer start end (omega arith) in
    let whole : drop start buffer ≡ bytes ++ quote ∷ rest =
    between-rest buffer start end (omega arith) (omega arith)
    ∙ ap (λ l. bytes ++ l) (drop-at_byte buffer end quote here) in
    let s : start + 1 ≡ suc start = omega arith in
    let f : end ≡ start + length bytes = omega arith in
    let n : (end + 1) - start ≡ suc (length bytes) = omega arith in (
      ap₂ (λ a k. token_at (string a end e) start k) s n
          ∙ ap (λ k. token_at (string (suc start) k e) start (suc (length bytes))) f
          ∙ sym (text-closed mode start bytes rest e d) ∙ ap (cut_here mode start) (sym whole),
      λ i. text-shut mode bytes rest e d (subst (IsBeginning mode) whole i),
    )

-- Nothing longer begins where a whole string is cut.
pub text-whole : (mode : Mode) (buffer : List ℕ) (at len : ℕ) (kind : Kind) → slice_get buffer at ≡ Some quote →
    cut_here mode at (drop at buffer) ≡ token_at kind at len → IsBeginning mode (drop at buffer) → ⊥
unfolding start_of
text-whole mode buffer at len kind here is i =
    let rest = drop (at + 1) buffer in
    let open_still : content_len false rest ≡ None = begins_by mode quote rest (subst (IsBeginning mode) (drop-at_byte buffer at quote here) i) in
    let cut : cut_text at rest None ≡ token_at kind at len =
    ap (cut_text at rest) (sym open_still) ∙ cut_here-by mode buffer at quote opens_text here refl ∙ is in
    cc
