-- Tokens of two texts that have one text themselves stand for the same.
use Rattle.std.specs.Prelude.{slice_range}
use Rattle.std.proofs.Common.{◌≡◌, ℕ, suc, ◌+◌, ◌-◌, false, List, [], ◌∷◌, ◌++◌, length, take, drop, refl, sym, ap, ◌∙◌, arith, append_assoc}
use Rattle.std.proofs.lemmas.List.{take_at}
use Rattle.facet_format.specs.Bytes.{quote}
use Rattle.facet_json_token.specs.Gap.{plain}
use Rattle.facet_json_token.specs.Token.{Kind, Token, comma, number}
use Rattle.facet_json_token.specs.Cut.{Cut, token}
use Rattle.facet_json_token.specs.Shape.{IsStructural, object_starts, object_ends, array_starts, array_ends, colon_stands, comma_stands, IsLiteral, null_stands, true_stands, false_stands, IsShape}
use Rattle.facet_json_token.proofs.CutBounds.{drop_next}
use Rattle.facet_json_token.proofs.ShapesCut.{cut_here-shape}
use Rattle.facet_json_grammar.specs.Refusal.{needs_meaning}
use Rattle.facet_json_core.specs.Meaning.Nodes.{SameToken, same_mark, same_string, same_number}
use Rattle.facet_json_document.proofs.TokenTexts.{HasText}

-- ---- one kind

abbrev kind_in : Cut → Kind
kind_in (token t) = t.kind
kind_in _ = comma

-- The same bytes before the same are of one kind.
kind-once : (to : ℕ) (x rest : List ℕ) (k l : Kind) → IsShape to x rest k → IsShape to x rest l → k ≡ l
kind-once to x rest k l a b = ap kind_in (sym (cut_here-shape plain to x rest k a) ∙ cut_here-shape plain to x rest l b)

mark-structural : {b : ℕ} {kind : Kind} → IsStructural b kind → needs_meaning kind ≡ false
mark-structural object_starts = refl
mark-structural object_ends = refl
mark-structural array_starts = refl
mark-structural array_ends = refl
mark-structural colon_stands = refl
mark-structural comma_stands = refl

mark-literal : {word : List ℕ} {kind : Kind} → IsLiteral word kind → needs_meaning kind ≡ false
mark-literal null_stands = refl
mark-literal true_stands = refl
mark-literal false_stands = refl

-- ---- what stands between its quotes, or is its number

content-slice : (buffer : List ℕ) (at : ℕ) (content rest : List ℕ) → drop at buffer ≡ (quote ∷ content ++ quote ∷ []) ++ rest →
    slice_range buffer (suc at) (suc at + length content) ≡ content
content-slice buffer at content rest stands =
    let past : drop (suc at) buffer ≡ content ++ quote ∷ rest =
    drop_next buffer ((content ++ quote ∷ []) ++ rest) at quote stands ∙ append_assoc content (quote ∷ []) rest in
    let n : (suc at + length content) - suc at ≡ length content = omega arith in
    ap (λ n. take n (drop (suc at) buffer)) n ∙ ap (take (length content)) past ∙ take_at content (quote ∷ rest) (length content) refl

number-slice : (buffer : List ℕ) (at : ℕ) (x rest : List ℕ) → drop at buffer ≡ x ++ rest → slice_range buffer at (at + length x) ≡ x
number-slice buffer at x rest stands =
    let n : (at + length x) - at ≡ length x = omega arith in
    ap (λ n. take n (drop at buffer)) n ∙ ap (take (length x)) stands ∙ take_at x rest (length x) refl

-- ---- the same

module _ (these those : List ℕ) where
  by-shapes : (t u : Token) (at to : ℕ) (x rest behind : List ℕ) (k l : Kind) → t.kind ≡ k → u.kind ≡ l →
      IsShape at x rest k → IsShape to x behind l → drop at these ≡ x ++ rest → drop to those ≡ x ++ behind → SameToken these those t u
  by-shapes t u at to _ rest behind _ l e f (IsShape.structural b kind _ h) s stands there =
      let same = kind-once to (b ∷ []) behind kind l (IsShape.structural b kind behind h) s in
      same_mark t u (ap needs_meaning e ∙ mark-structural h) (e ∙ same ∙ sym f)
  by-shapes t u at to x rest behind _ l e f (IsShape.literal _ kind _ h) s stands there =
      let same = kind-once to x behind kind l (IsShape.literal x kind behind h) s in
      same_mark t u (ap needs_meaning e ∙ mark-literal h) (e ∙ same ∙ sym f)
  by-shapes t u at to _ rest behind _ l e f (IsShape.text content _ has_escapes h) s stands there =
      let same = kind-once to _ behind _ l (IsShape.text content behind has_escapes h) s in
      same_string t u _ _ _ _ has_escapes e (f ∙ sym same)
      (content-slice these at content rest stands ∙ sym (content-slice those to content behind there))
  by-shapes t u at to x rest behind _ _ e f (IsShape.numeral _ _ hint is longest) (IsShape.numeral _ _ other has longest_there) stands there =
      let same = kind-once to x behind _ _ (IsShape.numeral x behind hint is longest_there) (IsShape.numeral x behind other has longest_there) in
      same_number t u _ _ _ _ hint e (f ∙ sym same) (number-slice these at x rest stands ∙ sym (number-slice those to x behind there))
  by-shapes t u at to _ rest behind _ _ e f (IsShape.numeral text _ hint is longest) (IsShape.structural b kind _ h) stands there =
      let same = kind-once at (b ∷ []) rest _ kind (IsShape.numeral text rest hint is longest) (IsShape.structural b kind rest h) in
      absurd (never-structural h same)
    where
      never-structural : {b : ℕ} {kind : Kind} {s f : ℕ} → IsStructural b kind → number s f hint ≡ kind → ⊥
      never-structural object_starts e = cc
      never-structural h e = cc
  by-shapes t u at to x rest behind _ _ e f (IsShape.numeral _ _ hint is longest) (IsShape.literal _ kind _ h) stands there =
      let same = kind-once at x rest _ kind (IsShape.numeral x rest hint is longest) (IsShape.literal x kind rest h) in
      absurd (never-literal h same)
    where
      never-literal : {word : List ℕ} {kind : Kind} {s f : ℕ} → IsLiteral word kind → number s f hint ≡ kind → ⊥
      never-literal null_stands e = cc
      never-literal true_stands e = cc
      never-literal false_stands e = cc
  by-shapes t u at to _ rest behind _ _ e f (IsShape.numeral text _ hint is longest) (IsShape.text content _ has_escapes h) stands there =
      let same = kind-once at _ rest _ _ (IsShape.numeral text rest hint is longest) (IsShape.text content rest has_escapes h) in
      cc

  pub same-text : (t u : Token) (x : List ℕ) → HasText these t x → HasText those u x → SameToken these those t u
  same-text t u x a b = by-shapes t u a.at b.at x a.rest b.rest t.kind u.kind refl refl a.shape b.shape a.stands b.stands
