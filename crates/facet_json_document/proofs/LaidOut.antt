-- What is written goes on with what the text goes on with.
use Rattle.std.proofs.Common.{◌≡◌, ℕ, ◌-◌, ◌≤◌, ◌+◌, true, false, ◌&&◌, List, [], ◌∷◌, ◌++◌, length, take, drop, refl, sym, ap, ap₂, ◌∙◌, arith, append_assoc, length-drop}
use Rattle.std.proofs.lemmas.List.{drop-drop}
use Rattle.facet_format.specs.Bytes.{line_feed}
use Rattle.facet_json_token.specs.Gap.{Mode}
use Rattle.facet_json_document.specs.declared.pieces.Sort.{Sort}
use Rattle.facet_json_document.specs.declared.pieces.Sort.TheVariants as sort
use Rattle.facet_json_document.specs.declared.spacing.Space.{Space}
use Rattle.facet_json_document.specs.declared.spacing.Space.TheVariants as space
use Rattle.facet_json_document.specs.Pieces.{TextPiece, pieces, is_comma, closing_next, without_trailing_commas}
use Rattle.facet_json_document.specs.Inner.Layout.{ends_number, may_follow, is_comma_sort, piece_of, BeginsPiece, all_tokens, IsSpaced, BeginsSpace, keeps_apart, IsLaidOut}
use Rattle.facet_json_document.proofs.PieceSteps.{pieces-blank, pieces-spaces, pieces-none}

-- ---- white space keeps pieces apart

scalar-follows : (next : Sort) (s : Space) (spaces bytes : List ℕ) → keeps_apart sort.Scalar next s ≡ true → BeginsSpace s spaces →
    ((next ≡ sort.Scalar → ⊥) → ends_number bytes ≡ true) → ends_number (spaces ++ bytes) ≡ true
scalar-follows next space.None spaces bytes apart begins ends =
    let no : next ≡ sort.Scalar → ⊥ = λ is. let bad = ap (λ x. keeps_apart sort.Scalar x space.None) (sym is) ∙ apart in cc in
    ap (λ l. ends_number (l ++ bytes)) begins ∙ ends no
scalar-follows next space.Blank spaces bytes apart begins ends = ap (λ l. ends_number (l ++ bytes)) begins
scalar-follows next space.Line spaces bytes apart begins ends = ap (λ l. ends_number (l ++ bytes)) begins.1
scalar-follows next space.EmptyLine spaces bytes apart begins ends = ap (λ l. ends_number (l ++ bytes)) begins.1

line-follows : (next : Sort) (s : Space) (spaces bytes : List ℕ) → keeps_apart sort.Line next s ≡ true → BeginsSpace s spaces →
    may_follow sort.Line (spaces ++ bytes) ≡ true
line-follows next space.None spaces bytes apart begins = cc
line-follows next space.Blank spaces bytes apart begins = cc
line-follows next space.Line spaces bytes apart begins = ap (λ l. may_follow sort.Line (l ++ bytes)) begins.1
line-follows next space.EmptyLine spaces bytes apart begins = ap (λ l. may_follow sort.Line (l ++ bytes)) begins.1

space-follows : (last next : Sort) (s : Space) (spaces bytes : List ℕ) → keeps_apart last next s ≡ true → BeginsSpace s spaces →
    ((next ≡ sort.Scalar → ⊥) → ends_number bytes ≡ true) → may_follow last (spaces ++ bytes) ≡ true
space-follows sort.Scalar next s spaces bytes apart begins ends = scalar-follows next s spaces bytes apart begins ends
space-follows sort.Line next s spaces bytes apart begins ends = line-follows next s spaces bytes apart begins
space-follows _ next s spaces bytes apart begins ends = refl

-- ---- commas

kept-piece : (s : Sort) (text : List ℕ) (ps : List TextPiece) → is_comma text ≡ is_comma_sort s → (is_comma_sort s && closing_next ps) ≡ false →
    without_trailing_commas (piece_of s text ∷ ps) ≡ piece_of s text ∷ without_trailing_commas ps
kept-piece sort.Block text ps same kept = refl
kept-piece sort.Line text ps same kept = refl
kept-piece s text ps same kept = rw (ap (λ b. b && closing_next ps) same ∙ kept) refl

trailing-comma : (s : Sort) (text : List ℕ) (ps : List TextPiece) → is_comma text ≡ is_comma_sort s → is_comma_sort s ≡ true → closing_next ps ≡ true →
    without_trailing_commas (piece_of s text ∷ ps) ≡ without_trailing_commas ps
trailing-comma sort.Comma text ps same comma closing = rw (ap₂ (λ b c. b && c) same closing) refl
trailing-comma _ text ps same comma closing = cc

others-tokens : (s : Sort) (text : List ℕ) (ps : List TextPiece) → all_tokens (piece_of s text ∷ ps) ≡ true → all_tokens ps ≡ true
others-tokens sort.Block text ps e = e
others-tokens sort.Line text ps e = e
others-tokens _ text ps e = e

-- ---- steps

module _ (mode : Mode) (text : List ℕ) where
  module _ (at end : ℕ) (last s : Sort) (out : List ℕ) (laid : IsLaidOut mode text at last out) (ahead : at ≤ end) (piece : BeginsPiece mode (drop at text) s (end - at)) where
    -- the piece's bytes, and what is left after them
    abbrev bytes : List ℕ
    bytes = take (end - at) (drop at text)

    left : drop (end - at) (drop at text) ≡ drop end text
    left =
        let to : at + (end - at) ≡ end = omega (arith, ahead) in
        drop-drop (end - at) at text ∙ ap (λ n. drop n text) to

    end-within : end ≤ length text
    end-within = omega (arith, ahead, laid.within, piece.within, length-drop at text)

    came : pieces mode (drop at text) ≡ piece_of s bytes ∷ pieces mode (drop end text)
    came = piece.came ∙ ap (λ l. piece_of s bytes ∷ pieces mode l) left

    tokens-left : all_tokens (pieces mode (drop end text)) ≡ true
    tokens-left = others-tokens s bytes (pieces mode (drop end text)) (ap all_tokens (sym came) ∙ laid.tokens)

    -- A comma that trails is passed.
    pub laid-without : is_comma_sort s ≡ true → closing_next (pieces mode (drop end text)) ≡ true → IsLaidOut mode text end last out
    laid-without comma closing = record {
      within = end-within;
      written = laid.written;
      came =
          laid.came ∙ ap (λ ps. laid.written ++ without_trailing_commas ps) came
          ∙ ap (λ ps. laid.written ++ ps) (trailing-comma s bytes (pieces mode (drop end text)) piece.commas comma closing);
      goes_on = laid.goes_on;
      tokens = tokens-left;
    }

    -- Another piece is appended after white space.
    pub laid-piece : (sp : Space) (mid new : List ℕ) → (is_comma_sort s && closing_next (pieces mode (drop end text))) ≡ false → keeps_apart last s sp ≡ true →
        IsSpaced sp out mid → new ≡ mid ++ bytes → IsLaidOut mode text end s new
    laid-piece sp mid new kept apart spaced appended =
        let rest = pieces mode (drop end text) in
        let p = piece_of s bytes in
        let spaces = spaced.by.spaces in
        let done = laid.written ++ p ∷ [] in
        let more : (ps : List TextPiece) → laid.written ++ (p ∷ ps) ≡ done ++ ps = λ ps. sym (append_assoc laid.written (p ∷ []) ps) in
        record {
          within = end-within;
          written = done;
          came =
              laid.came ∙ ap (λ ps. laid.written ++ without_trailing_commas ps) came
              ∙ ap (λ ps. laid.written ++ ps) (kept-piece s bytes rest piece.commas kept) ∙ more (without_trailing_commas rest);
          goes_on = λ k ends.
              let follows : may_follow last (spaces ++ (bytes ++ k)) ≡ true =
              space-follows last s sp spaces (bytes ++ k) apart spaced.begins (λ no. piece.ends no k) in
              let split : new ++ k ≡ out ++ (spaces ++ (bytes ++ k)) =
              ap (λ l. l ++ k) (appended ∙ ap (λ l. l ++ bytes) spaced.by.appended) ∙ append_assoc (out ++ spaces) bytes k ∙ append_assoc out spaces (bytes ++ k) in
              ap (pieces mode) split ∙ laid.goes_on (spaces ++ (bytes ++ k)) follows
              ∙ ap (λ ps. laid.written ++ ps) (pieces-spaces mode spaces (bytes ++ k) spaced.by.blank ∙ piece.again k ends)
              ∙ more (pieces mode k);
          tokens = tokens-left;
        }

  line-ends : (last : Sort) → may_follow last (line_feed ∷ []) ≡ true
  line-ends sort.Line = refl
  line-ends sort.Scalar = refl
  line-ends _ = refl

  -- Where nothing is left, all is written.
  pub laid-end : (at : ℕ) (last : Sort) (out : List ℕ) → IsLaidOut mode text at last out → (all_tokens (pieces mode (drop at text)) ≡ true → pieces mode (drop at text) ≡ []) →
      pieces mode (out ++ line_feed ∷ []) ≡ without_trailing_commas (pieces mode text)
  laid-end at last out laid none =
      laid.goes_on (line_feed ∷ []) (line-ends last) ∙ ap (λ ps. laid.written ++ ps) (pieces-blank mode line_feed [] refl ∙ pieces-none mode)
      ∙ sym (laid.came ∙ ap (λ ps. laid.written ++ without_trailing_commas ps) (none laid.tokens))
