-- What is known of a value once its members are in order.
use Rattle.std.proofs.Common.{◌≡◌, ℕ, Bool, true, false, List, Option, Some, None, if◌then◌else◌, refl, sym, ap, subst, ◌∙◌}
use Rattle.std.specs.Prelude.{⊤, option_map}
use Rattle.std.specs.Option.{option_or}
use Rattle.std.specs.Cmp.Lexicographic.{bytes_decides, nat_list_cmp_total}
use Rattle.std.proofs.lemmas.List.Sorted.{ranks_by}
use Rattle.facet_json_grammar.specs.Tree.{Tree, null, unit, bool, char, i64, u64, i128, u128, decimal, text, bytes, raw, list, pairs, Pairs, no_pairs, pair}
use Rattle.facet_json_tree.specs.Lookup.{last_member}
use Rattle.facet_json_tree.specs.Same.{same_bytes}
use Rattle.facet_json_tree.specs.Sorted.{is_before, put_member, in_order, sorted, values_sorted}
use Rattle.facet_json_tree.specs.SortedLaws.{NamesAscend, OrderAscends, SortedIsFound}

-- ---- which name is before another

one_way : (name other : List ℕ) → is_before name other ≡ true → is_before other name ≡ false
one_way = let o = ranks_by nat_list_cmp_total (λ (name : List ℕ). name) in o.one_way

not_before_itself : (b : Bool) → (b ≡ true → b ≡ false) → b ≡ false
not_before_itself true h = h refl
not_before_itself false h = refl

pub is_before-itself : (name : List ℕ) → is_before name name ≡ false
is_before-itself name = not_before_itself (is_before name name) (one_way name name)

-- ---- names ascend

-- the first, where there is one, is not before this name
abbrev NotBefore : List ℕ → Pairs → Type 0
NotBefore name no_pairs = ⊤
NotBefore name (pair next other others) = is_before next name ≡ false

ascend-before : (name : List ℕ) (value : Tree) (others : Pairs) → NotBefore name others → NamesAscend others → NamesAscend (pair name value others)
ascend-before name value no_pairs first up = tt
ascend-before name value (pair next other others) first up = (first, up)

ascend-rest : (name : List ℕ) (value : Tree) (others : Pairs) → NamesAscend (pair name value others) → NotBefore name others × NamesAscend others
ascend-rest name value no_pairs up = (tt, tt)
ascend-rest name value (pair next other others) up = up

put-not_before : (low name : List ℕ) (value : Tree) (others : Pairs) (b : Bool) (first : List ℕ) (old : Tree) (put : Pairs)
    → is_before name low ≡ false → is_before first low ≡ false → NotBefore low (if b then pair first old put else pair name value (pair first old others))
put-not_before low name value others true first old put p q = q
put-not_before low name value others false first old put p q = p

below : (low name : List ℕ) (value : Tree) (others : Pairs) → is_before name low ≡ false → NotBefore low others → NotBefore low (put_member name value others)
below low name value no_pairs p q = p
below low name value (pair first old others) p q =
    put-not_before low name value others (is_before first name) first old (put_member name value others) p q

ascend_by : (name : List ℕ) (value : Tree) (first : List ℕ) (old : Tree) (others : Pairs) (b : Bool) → is_before first name ≡ b
    → NamesAscend (pair first old others) → NamesAscend (put_member name value others)
    → NamesAscend (if b then pair first old (put_member name value others) else pair name value (pair first old others))
ascend_by name value first old others true is up put =
    ascend-before first old (put_member name value others)
    (below first name value others (one_way first name is) (ascend-rest first old others up).0) put
ascend_by name value first old others false is up put = (is, up)

put-ascends : (name : List ℕ) (value : Tree) (members : Pairs) → NamesAscend members → NamesAscend (put_member name value members)
put-ascends name value no_pairs up = tt
put-ascends name value (pair first old others) up =
    ascend_by name value first old others (is_before first name) refl up
    (put-ascends name value others (ascend-rest first old others up).1)

pub order-ascends : OrderAscends
order-ascends no_pairs = tt
order-ascends (pair name value others) = put-ascends name value (in_order others) (order-ascends others)

-- ---- what a name finds

-- of two values at most one is there
either_first : (o : Option Tree) (a b : Bool) (x y : Tree) → (a ≡ true → b ≡ true → ⊥)
    → option_or (option_or o (if a then Some x else None)) (if b then Some y else None)
    ≡ option_or (option_or o (if b then Some y else None)) (if a then Some x else None)
either_first (Some z) a b x y h = refl
either_first None true true x y h = absurd (h refl refl)
either_first None true false x y h = refl
either_first None false true x y h = refl
either_first None false false x y h = refl

differ : (key name first : List ℕ) → is_before first name ≡ true → same_bytes name key ≡ true → same_bytes first key ≡ true → ⊥
differ key name first is p q =
    let same : first ≡ name = (bytes_decides first key).0 q ∙ sym ((bytes_decides name key).0 p) in
    let itself = subst (λ n. is_before n name ≡ true) same is in
    let no = sym itself ∙ is_before-itself name in cc

found_by : (key name : List ℕ) (value : Tree) (first : List ℕ) (old : Tree) (others : Pairs) (b : Bool) → is_before first name ≡ b
    → last_member key (put_member name value others) ≡ last_member key (pair name value others)
    → last_member key (if b then pair first old (put_member name value others) else pair name value (pair first old others))
    ≡ last_member key (pair name value (pair first old others))
found_by key name value first old others true is put =
    ap (λ o. option_or o (if same_bytes first key then Some old else None)) put
    ∙ either_first (last_member key others) (same_bytes name key) (same_bytes first key) value old (differ key name first is)
found_by key name value first old others false is put = refl

put-found : (key name : List ℕ) (value : Tree) (members : Pairs)
    → last_member key (put_member name value members) ≡ last_member key (pair name value members)
put-found key name value no_pairs = refl
put-found key name value (pair first old others) =
    found_by key name value first old others (is_before first name) refl (put-found key name value others)

order-found : (key : List ℕ) (members : Pairs) → last_member key (in_order members) ≡ last_member key members
order-found key no_pairs = refl
order-found key (pair name value others) =
    put-found key name value (in_order others)
    ∙ ap (λ o. option_or o (if same_bytes name key then Some value else None)) (order-found key others)

sorted_or : (o : Option Tree) (b : Bool) (x : Tree) → option_or (option_map sorted o) (if b then Some (sorted x) else None)
    ≡ option_map sorted (option_or o (if b then Some x else None))
sorted_or (Some y) b x = refl
sorted_or None true x = refl
sorted_or None false x = refl

values-found : (key : List ℕ) (members : Pairs) → last_member key (values_sorted members) ≡ option_map sorted (last_member key members)
values-found key no_pairs = refl
values-found key (pair name value others) =
    ap (λ o. option_or o (if same_bytes name key then Some (sorted value) else None)) (values-found key others)
    ∙ sorted_or (last_member key others) (same_bytes name key) value

pub sorted-found : SortedIsFound
sorted-found key null = refl
sorted-found key unit = refl
sorted-found key (bool b) = refl
sorted-found key (char c) = refl
sorted-found key (i64 n) = refl
sorted-found key (u64 n) = refl
sorted-found key (i128 n) = refl
sorted-found key (u128 n) = refl
sorted-found key (decimal t) = refl
sorted-found key (text t) = refl
sorted-found key (bytes b) = refl
sorted-found key (raw t) = refl
sorted-found key (list items) = refl
sorted-found key (pairs members) = order-found key (values_sorted members) ∙ values-found key members
