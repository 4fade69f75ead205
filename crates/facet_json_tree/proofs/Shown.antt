-- The compact text of a value, piece by piece.
use Rattle.std.proofs.Common.{◌≡◌, ℕ, suc, Bool, true, false, List, [], ◌∷◌, ◌++◌, append_assoc, append-nil, codes, refl, sym, ap, ap₂, ◌∙◌}
use Rattle.std.specs.Fmt.{decimal as number}
use Rattle.facet_format.specs.Bytes.{comma, colon, left_bracket, left_brace}
use Rattle.facet_json_grammar.specs.Quoted.{quoted}
use Rattle.facet_json_grammar.specs.Text.{default_options, text, items_text, members_text, separator, numbers, more_numbers}
use Rattle.facet_json_grammar.specs.Tree.{Tree, null, unit, bool, char, i64, u64, i128, u128, decimal, text as text_value, bytes, raw, list, pairs, Trees, no_trees, tree, Pairs, no_pairs, pair}

-- ---- how deep a value stands makes no difference

mutual
  unfolding text items_text members_text

  text-depth : (t : Tree) (d e : ℕ) → text default_options d t ≡ text default_options e t
  text-depth null d e = refl
  text-depth unit d e = refl
  text-depth (bool b) d e = refl
  text-depth (char c) d e = refl
  text-depth (i64 n) d e = refl
  text-depth (u64 n) d e = refl
  text-depth (i128 n) d e = refl
  text-depth (u128 n) d e = refl
  text-depth (decimal t) d e = refl
  text-depth (text_value t) d e = refl
  text-depth (bytes b) d e = refl
  text-depth (raw t) d e = refl
  text-depth (list items) d e = ap (λ l. left_bracket ∷ l) (items-depth items d e true)
  text-depth (pairs members) d e = ap (λ l. left_brace ∷ l) (members-depth members d e true)

  items-depth : (ts : Trees) (d e : ℕ) (first : Bool) → items_text default_options d first ts ≡ items_text default_options e first ts
  items-depth no_trees d e first = refl
  items-depth (tree t others) d e first =
      ap₂ (λ a b. separator first ++ [] ++ a ++ b) (text-depth t (suc d) (suc e)) (items-depth others d e false)

  members-depth : (ps : Pairs) (d e : ℕ) (first : Bool) → members_text default_options d first ps ≡ members_text default_options e first ps
  members-depth no_pairs d e first = refl
  members-depth (pair key t others) d e first =
      ap₂ (λ a b. separator first ++ [] ++ quoted key ++ (colon ∷ []) ++ a ++ b) (text-depth t (suc d) (suc e)) (members-depth others d e false)

-- ---- one more piece is written

three : (done a b c : List ℕ) → ((done ++ a) ++ b) ++ c ≡ done ++ ((a ++ b) ++ c)
three done a b c = ap (λ l. l ++ c) (append_assoc done a b) ∙ append_assoc done (a ++ b) c

five : (done a b c d e : List ℕ) → ((((done ++ a) ++ b) ++ c) ++ d) ++ e ≡ done ++ ((((a ++ b) ++ c) ++ d) ++ e)
five done a b c d e = ap (λ l. (l ++ d) ++ e) (three done a b c) ∙ three done ((a ++ b) ++ c) d e

pub items-next : (done : List ℕ) (first : Bool) (t : Tree) (others : Trees) (whole : List ℕ)
    → done ++ items_text default_options 0 first (tree t others) ≡ whole
    → ((done ++ separator first) ++ text default_options 0 t) ++ items_text default_options 0 false others ≡ whole
unfolding items_text
items-next done first t others whole h =
    let rest = items_text default_options 0 false others in
    three done (separator first) (text default_options 0 t) rest
    ∙ ap₂ (λ s a. done ++ ((s ++ a) ++ rest)) (sym (append-nil (separator first))) (text-depth t 0 1) ∙ h

pub members-next : (done : List ℕ) (first : Bool) (key : List ℕ) (t : Tree) (others : Pairs) (whole : List ℕ)
    → done ++ members_text default_options 0 first (pair key t others) ≡ whole
    → ((((done ++ separator first) ++ quoted key) ++ codes ":") ++ text default_options 0 t) ++ members_text default_options 0 false others ≡ whole
unfolding members_text
members-next done first key t others whole h =
    let rest = members_text default_options 0 false others in
    five done (separator first) (quoted key) (codes ":") (text default_options 0 t) rest
    ∙ ap₂ (λ s a. done ++ ((((s ++ quoted key) ++ codes ":") ++ a) ++ rest)) (sym (append-nil (separator first))) (text-depth t 0 1) ∙ h

-- the numbers from here on, and the comma before them
abbrev pub numbers_after : Bool → List ℕ → List ℕ
numbers_after true bs = numbers bs
numbers_after false bs = more_numbers bs

pub numbers-next : (done : List ℕ) (first : Bool) (b : ℕ) (others whole : List ℕ) → done ++ numbers_after first (b ∷ others) ≡ whole
    → ((done ++ separator first) ++ number b) ++ numbers_after false others ≡ whole
numbers-next done true b others whole h = three done [] (number b) (more_numbers others) ∙ h
numbers-next done false b others whole h = three done (comma ∷ []) (number b) (more_numbers others) ∙ h

-- nothing is left
pub items-end : (first : Bool) → items_text default_options 0 first no_trees ≡ codes "]"
unfolding items_text
items-end true = refl
items-end false = refl

pub members-end : (first : Bool) → members_text default_options 0 first no_pairs ≡ codes "}"
unfolding members_text
members-end true = refl
members-end false = refl
