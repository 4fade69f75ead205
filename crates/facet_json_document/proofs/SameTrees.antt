-- A text laid out anew has the same document.
use Rattle.std.proofs.Common.{◌≡◌, ℕ, Bool, true, false, cond, ◌&&◌, ◌==◌, List, [], ◌∷◌, refl, ap, ◌∙◌, subst, arith}
use Rattle.std.proofs.lemmas.Bool.{and_parts}
use Rattle.std.proofs.lemmas.Bool.Decides.{nat_tests}
use Rattle.facet_format.specs.Bytes.{right_brace, right_bracket}
use Rattle.facet_format.specs.Bytes as bytes
use Rattle.facet_format.specs.NumberParts.{starts_number}
use Rattle.facet_format.proofs.NumberLaws.{begins_number-is}
use Rattle.facet_json_token.specs.Gap.{Mode}
use Rattle.facet_json_token.specs.Token.{Kind, Token, comma}
use Rattle.facet_json_token.specs.Tokens.{Tokens, ended, next}
use Rattle.facet_json_token.specs.TokenList.{tokens}
use Rattle.facet_json_token.specs.Shape.{IsStructural, object_ends, array_ends, comma_stands, IsLiteral, null_stands, true_stands, false_stands, IsShape}
use Rattle.facet_json_grammar.specs.Node.{Node, Spells}
use Rattle.facet_json_grammar.specs.StrictDocument.{is_closing, begins_closing}
use Rattle.facet_json_grammar.specs.Tree.{Tree}
use Rattle.facet_json_document.specs.Formatted.{IsOneDocument}
use Rattle.facet_json_document.specs.Inner.Layout.{all_tokens}
use Rattle.facet_json_document.specs.Pieces.{pieces, without_trailing_commas, is_comma, closes}
use Rattle.facet_json_document.proofs.AllTokens.{one-tokens}
use Rattle.facet_json_document.proofs.SameDocuments.{Alike, both_end, both_go_on, comma_goes, node-there}
use Rattle.facet_json_document.proofs.SameTokens.{same-text}
use Rattle.facet_json_document.proofs.TokenTexts.{texts, closing_first, without, texts-without, all-without, HasText, HaveTexts, no_texts, a_text, tokens-have}

-- ---- commas and closing brackets by their texts

comma-structural : {b : ℕ} {kind : Kind} → IsStructural b kind → (b == bytes.comma) ≡ true → kind ≡ comma
comma-structural comma_stands e = refl
comma-structural h e = cc

comma-literal : {word : List ℕ} {kind : Kind} → IsLiteral word kind → is_comma word ≡ true → kind ≡ comma
comma-literal null_stands e = cc
comma-literal true_stands e = cc
comma-literal false_stands e = cc

number-no_comma : (b : ℕ) → starts_number b ≡ true → (b == bytes.comma) ≡ true → ⊥
number-no_comma b starts e =
    let differs : (b == bytes.comma) ≡ false = grind (arith, nat_tests) in cc

-- A token whose text is a comma's is one.
comma-by : (at : ℕ) (x rest : List ℕ) (kind : Kind) → IsShape at x rest kind → is_comma x ≡ true → kind ≡ comma
comma-by at _ rest _ (IsShape.structural b kind _ h) e = comma-structural h e
comma-by at x rest _ (IsShape.literal _ kind _ h) e = comma-literal h e
comma-by at _ rest _ (IsShape.text content _ has_escapes h) e = cc
comma-by at [] rest _ (IsShape.numeral _ _ hint is longest) e = cc
comma-by at (b ∷ x) rest _ (IsShape.numeral _ _ hint is longest) e =
    absurd (number-no_comma b (begins_number-is (b ∷ x) hint is.numeral) e)

closing-structural : {b : ℕ} {kind : Kind} → IsStructural b kind → closes b ≡ true → is_closing kind ≡ true
closing-structural object_ends e = refl
closing-structural array_ends e = refl
closing-structural h e = cc

closing-literal : {word : List ℕ} {kind : Kind} → IsLiteral word kind → closing_first (word ∷ []) ≡ true → is_closing kind ≡ true
closing-literal null_stands e = cc
closing-literal true_stands e = cc
closing-literal false_stands e = cc

number-no_bracket : (b : ℕ) → starts_number b ≡ true → closes b ≡ true → ⊥
number-no_bracket b starts e =
    let one : (b == right_brace) ≡ false = grind (arith, nat_tests) in
    let two : (b == right_bracket) ≡ false = grind (arith, nat_tests) in
    let none : closes b ≡ false = rw (one, two) refl in cc

-- A token whose text is a closing bracket's is one.
closing-by : (at : ℕ) (x rest : List ℕ) (kind : Kind) → IsShape at x rest kind → closing_first (x ∷ []) ≡ true → is_closing kind ≡ true
closing-by at _ rest _ (IsShape.structural b kind _ h) e = closing-structural h e
closing-by at x rest _ (IsShape.literal _ kind _ h) e = closing-literal h e
closing-by at _ rest _ (IsShape.text content _ has_escapes h) e = cc
closing-by at [] rest _ (IsShape.numeral _ _ hint is longest) e = cc
closing-by at (b ∷ x) rest _ (IsShape.numeral _ _ hint is longest) e =
    absurd (number-no_bracket b (begins_number-is (b ∷ x) hint is.numeral) e)

first-closing : (text : List ℕ) (ts : Tokens) (xs : List (List ℕ)) → HaveTexts text ts xs → closing_first xs ≡ true → begins_closing ts ≡ true
first-closing text _ _ no_texts e = cc
first-closing text _ _ (a_text t ts [] xs has more) e = cc
first-closing text _ _ (a_text t ts (b ∷ x) xs has more) e = closing-by has.at (b ∷ x) has.rest t.kind has.shape e

-- ---- alike

module _ (these those : List ℕ) where
  one-more : (t : Token) (ts us : Tokens) (x : List ℕ) (xs : List (List ℕ)) (drops : Bool) → is_comma x && closing_first xs ≡ drops →
      HasText these t x → HaveTexts these ts xs → ((us : Tokens) → HaveTexts those us (without xs) → Alike these those ts us) →
      HaveTexts those us (cond drops (without xs) (x ∷ without xs)) → Alike these those (next t ts) us
  one-more t ts us x xs true e has more behind there =
      let both = and_parts (is_comma x) (closing_first xs) e in
      comma_goes t ts us (comma-by has.at x has.rest t.kind has.shape both.0) (first-closing these ts xs more both.1) (behind us there)
  one-more t ts _ x xs false e has more behind (a_text u us _ _ has_there more_there) =
      both_go_on t u ts us (same-text these those t u x has has_there) (behind us more_there)

  alike-texts : (ts us : Tokens) (xs : List (List ℕ)) → HaveTexts these ts xs → HaveTexts those us (without xs) → Alike these those ts us
  alike-texts _ _ _ no_texts no_texts = both_end
  alike-texts _ us _ (a_text t ts x xs has more) there =
      one-more t ts us x xs (is_comma x && closing_first xs) refl has more (λ us there. alike-texts ts us xs more there) there

-- ---- documents

ended-there : {these those : List ℕ} (left : Tokens) → Alike these those ended left → left ≡ ended
ended-there _ both_end = refl

-- A text with the same pieces but for commas that trail is one document with the same tree.
pub same-document : (mode : Mode) (text other : List ℕ) → pieces mode other ≡ without_trailing_commas (pieces mode text) →
    (root : Node) (tree : Tree) → IsOneDocument text mode root tree → (node : Node) × IsOneDocument other mode node tree
same-document mode text other same root tree d =
    let all = one-tokens text mode root tree d in
    let all_there : all_tokens (pieces mode other) ≡ true = ap all_tokens same ∙ all-without (pieces mode text) all in
    let texts_there : texts (pieces mode other) ≡ without (texts (pieces mode text)) = ap texts same ∙ texts-without (pieces mode text) all in
    let there = subst (HaveTexts other (tokens other mode)) texts_there (tokens-have other mode all_there) in
    let alike = alike-texts text other (tokens text mode) (tokens other mode) (texts (pieces mode text)) (tokens-have text mode all) there in
    let found = node-there text other (tokens text mode) root ended (tokens other mode) d.spells alike in (
      found.root,
      record {
        spells = subst (Spells (tokens other mode) found.root) (ended-there found.left found.alike) found.spells;
        has_tree = found.tree ∙ d.has_tree;
      },
    )
