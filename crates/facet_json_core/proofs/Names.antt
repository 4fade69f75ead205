-- Lists of names as they are displayed, within a text.
use Rattle.std.proofs.Common.{◌≡◌, ℕ, List, [], ◌∷◌, ◌++◌, map, Option, Some, None, refl, sym, ap, ◌∙◌, append_assoc}
use Rattle.std.specs.Fmt.{◌++?◌, debug_items, debug_list, comma_space}

items_of_images : {X Y : Type 0} (text : Y → Option (List ℕ)) (view : X → Y) (lead : List ℕ) (xs : List X)
    → debug_items (λ x. text (view x)) lead xs ≡ debug_items text lead (map view xs)
items_of_images text view lead [] = refl
items_of_images text view lead (x ∷ xs) = ap (λ rest. Some lead ++? text (view x) ++? rest) (items_of_images text view comma_space xs)

-- a list is displayed as the list of what its items stand for
pub list_of_images : {X Y : Type 0} (text : Y → Option (List ℕ)) (view : X → Y) (xs : List X)
    → debug_list (λ x. text (view x)) xs ≡ debug_list text (map view xs)
list_of_images text view xs = ap (λ items. Some (91 ∷ []) ++? items ++? Some (93 ∷ [])) (items_of_images text view [] xs)

three_parts : (a b c rest : List ℕ) → a ++ (b ++ (c ++ rest)) ≡ (a ++ (b ++ c)) ++ rest
three_parts a b c rest = ap (λ t. a ++ t) (sym (append_assoc b c rest)) ∙ sym (append_assoc a (b ++ c) rest)

joined : (a b c : List ℕ) (names : Option (List ℕ)) → (Some a ++? Some b ++? Some c ++? names) ≡ (Some (a ++ (b ++ c)) ++? names)
joined a b c None = refl
joined a b c (Some names) = ap Some (three_parts a b c names)

-- three texts, then names
pub before_names : (a b c : List ℕ) (shown names : Option (List ℕ)) → shown ≡ names
    → (Some a ++? Some b ++? Some c ++? shown) ≡ (Some (a ++ (b ++ c)) ++? names)
before_names a b c shown names e = ap (λ o. Some a ++? Some b ++? Some c ++? o) e ∙ joined a b c names

joined_around : (a b c last : List ℕ) (names : Option (List ℕ))
    → (Some a ++? Some b ++? Some c ++? names ++? Some last) ≡ ((Some (a ++ (b ++ c)) ++? names) ++? Some last)
joined_around a b c last None = refl
joined_around a b c last (Some names) = ap Some (three_parts a b c (names ++ last) ∙ sym (append_assoc (a ++ (b ++ c)) names last))

-- three texts, then names, then a text
pub around_names : (a b c last : List ℕ) (shown names : Option (List ℕ)) → shown ≡ names
    → (Some a ++? Some b ++? Some c ++? shown ++? Some last) ≡ ((Some (a ++ (b ++ c)) ++? names) ++? Some last)
around_names a b c last shown names e = ap (λ o. Some a ++? Some b ++? Some c ++? o ++? Some last) e ∙ joined_around a b c last names
