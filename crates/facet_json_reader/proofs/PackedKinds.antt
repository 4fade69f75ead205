-- A container more, and one less, in the words of the open containers.
use Rattle.std.proofs.Common.{◌≡◌, ℕ, suc, ◌+◌, ◌*◌, ◌/◌, ◌%◌, ◌<◌, ◌≢◌, List, [], ◌∷◌, ◌++◌, Option, Some, None, reverse, cond, eqb, eq-eqb, ne_eqb, sym, ◌∙◌, ap, ap₂, arith}
use Rattle.std.proofs.lemmas.List.{reverse-append}
use Rattle.std.specs.Option.{unwrap_or, option_to_list}
use Rattle.std.specs.Prelude.{MatchOption}
use Rattle.facet_format.specs.Event.{object, array}
use Rattle.facet_json_grammar.specs.Future.{around}
use Rattle.facet_json_reader.specs.Packed.{kind_in, kinds_in}

-- a container more in the innermost word, where that isn't full
pub kinds-longer_word : (depth word bit : ℕ) (words : List ℕ) → depth % 64 ≢ 0 → bit < 2
    → kinds_in (suc depth) ((2 * word + bit) ∷ words) ≡ kind_in bit ∷ kinds_in depth (word ∷ words)
kinds-longer_word depth word bit words room small =
    let lowest : (2 * word + bit) % 2 ≡ bit % 2 = omega arith in
    let others : (2 * word + bit) / 2 ≡ word = omega arith in
    ap₂ ◌∷◌ (ap (λ b. cond (eqb b 1) object array) lowest)
    (ap (λ full. kinds_in depth (cond full words ((2 * word + bit) / 2 ∷ words))) (ne_eqb (depth % 64) 0 room)
    ∙ ap (λ w. kinds_in depth (w ∷ words)) others)

-- a container more in a word of its own, where the others are full
pub kinds-new_word : (depth bit : ℕ) (words : List ℕ) → depth % 64 ≡ 0
    → kinds_in (suc depth) (bit ∷ words) ≡ kind_in bit ∷ kinds_in depth words
kinds-new_word depth bit words full =
    ap (λ b. kind_in bit ∷ kinds_in depth (cond b words (bit / 2 ∷ words))) (eq-eqb (depth % 64) 0 full)

-- No container has its bit in any words.
pub kinds-none : (depth : ℕ) (words others : List ℕ) → depth ≡ 0 → kinds_in depth words ≡ kinds_in depth others
kinds-none depth words others none = ap (λ d. kinds_in d words) none ∙ sym (ap (λ d. kinds_in d others) none)

-- the containers around the innermost one, where it isn't the only one of its word
pub kinds-shorter_word : (depth word : ℕ) (words : List ℕ) → depth % 64 ≢ 0
    → kinds_in depth (word / 2 ∷ words) ≡ around (kinds_in (suc depth) (word ∷ words))
kinds-shorter_word depth word words others =
    sym (ap (λ b. kinds_in depth (cond b words (word / 2 ∷ words))) (ne_eqb (depth % 64) 0 others))

-- the same, where its word goes and the last of the others is popped
pub kinds-popped_word : (depth word before after : ℕ) (words others : List ℕ) (popped : Option ℕ) → depth % 64 ≡ 0
    → before ≡ depth / 64 → MatchOption popped ((before ≡ 0) × (after ≡ 0)) (λ _. after + 1 ≡ before)
    → words ≡ others ++ option_to_list popped
    → kinds_in depth (unwrap_or popped 0 ∷ reverse others) ≡ around (kinds_in (suc depth) (word ∷ reverse words))
kinds-popped_word depth word before after words others None full count empty is =
    kinds-none depth _ _ (omega arith)
kinds-popped_word depth word before after words others (Some last) full count _ is =
    ap (kinds_in depth) (sym (ap reverse is ∙ reverse-append others (last ∷ [])))
    ∙ sym (ap (λ b. kinds_in depth (cond b (reverse words) (word / 2 ∷ reverse words))) (eq-eqb (depth % 64) 0 full))
