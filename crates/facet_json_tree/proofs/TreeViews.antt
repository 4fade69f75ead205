-- What each variant of a `Tree` stands for.
use Rattle.std.proofs.Common.{◌≡◌, ℕ, suc, ◌+◌, ◌<◌, Bool, List, [], ◌∷◌, ◌++◌, length, get_or, drop, take, refl, sym, ap, ◌∙◌, rules, Vec, String, Global, string_bytes}
use Rattle.std.specs.Prelude.{ℤ}
use Rattle.std.proofs.lemmas.List.{drop_more, take_more}
use Rattle.facet_json_grammar.specs.Tree as tree
use Rattle.facet_json_tree.specs.Views.{tree_view, trees_view, pairs_view}
use Rattle.facet_json_tree.specs.declared.tree.Tree.{Tree, the_lemmas}
use Rattle.facet_json_tree.specs.declared.tree.Tree.TheVariants as code

pub tree_view-Null : tree_view code.Null ≡ tree.null
tree_view-Null = search (rules, the_lemmas)

pub tree_view-Unit : tree_view code.Unit ≡ tree.unit
tree_view-Unit = search (rules, the_lemmas)

pub tree_view-Bool : (b : Bool) → tree_view (code.Bool b) ≡ tree.bool b
tree_view-Bool b = search (rules, the_lemmas)

pub tree_view-Char : (c : ℕ) → tree_view (code.Char c) ≡ tree.char c
tree_view-Char c = search (rules, the_lemmas)

pub tree_view-I64 : (n : ℤ) → tree_view (code.I64 n) ≡ tree.i64 n
tree_view-I64 n = search (rules, the_lemmas)

pub tree_view-U64 : (n : ℕ) → tree_view (code.U64 n) ≡ tree.u64 n
tree_view-U64 n = search (rules, the_lemmas)

pub tree_view-I128 : (n : ℤ) → tree_view (code.I128 n) ≡ tree.i128 n
tree_view-I128 n = search (rules, the_lemmas)

pub tree_view-U128 : (n : ℕ) → tree_view (code.U128 n) ≡ tree.u128 n
tree_view-U128 n = search (rules, the_lemmas)

pub tree_view-Decimal : (digits : List ℕ) → tree_view (code.Decimal digits) ≡ tree.decimal digits
tree_view-Decimal digits = search (rules, the_lemmas)

pub tree_view-Text : (s : String Global) → tree_view (code.Text s) ≡ tree.text (string_bytes s)
tree_view-Text s = search (rules, the_lemmas)

pub tree_view-Bytes : (v : Vec ℕ Global) → tree_view (code.Bytes v) ≡ tree.bytes v.items
tree_view-Bytes v = search (rules, the_lemmas)

pub tree_view-Raw : (t : String Global) → tree_view (code.Raw t) ≡ tree.raw (string_bytes t)
tree_view-Raw t = search (rules, the_lemmas)

pub tree_view-List : (v : Vec Tree Global) → tree_view (code.List v) ≡ tree.list (trees_view v.items)
tree_view-List v = search (rules, the_lemmas)

pub tree_view-Pairs : (v : Vec (String Global × Tree) Global) → tree_view (code.Pairs v) ≡ tree.pairs (pairs_view v.items)
tree_view-Pairs v = search (rules, the_lemmas)

-- where nothing is seen there is nothing
pub trees_view-none : (xs : List Tree) → trees_view xs ≡ tree.no_trees → xs ≡ []
trees_view-none [] e = refl
trees_view-none (x ∷ xs) e = cc

pub pairs_view-none : (ps : List (String Global × Tree)) → pairs_view ps ≡ tree.no_pairs → ps ≡ []
pairs_view-none [] e = refl
pairs_view-none (p ∷ ps) e = cc

-- lists that stand for the same items are as long
pub trees_view-length : (xs ys : List Tree) → trees_view xs ≡ trees_view ys → length xs ≡ length ys
trees_view-length [] [] e = refl
trees_view-length [] (y ∷ ys) e = cc
trees_view-length (x ∷ xs) [] e = cc
trees_view-length (x ∷ xs) (y ∷ ys) e =
    let rest : trees_view xs ≡ trees_view ys = cc in ap suc (trees_view-length xs ys rest)

pub pairs_view-length : (ps qs : List (String Global × Tree)) → pairs_view ps ≡ pairs_view qs → length ps ≡ length qs
pairs_view-length [] [] e = refl
pairs_view-length [] (q ∷ qs) e = cc
pairs_view-length (p ∷ ps) [] e = cc
pairs_view-length (p ∷ ps) (q ∷ qs) e =
    let rest : pairs_view ps ≡ pairs_view qs = cc in ap suc (pairs_view-length ps qs rest)

-- from an index on stand the item there and those after it
pub trees_view-drop : (xs : List Tree) (i : ℕ) (x : Tree) → i < length xs → x ≡ get_or xs i x
    → trees_view (drop i xs) ≡ tree.tree (tree_view x) (trees_view (drop (i + 1) xs))
trees_view-drop xs i x h is = ap trees_view (drop_more xs i x h ∙ ap (λ y. y ∷ drop (i + 1) xs) (sym is))

pub pairs_view-drop : (ps : List (String Global × Tree)) (i : ℕ) (p : String Global × Tree)
    → i < length ps → p ≡ get_or ps i p
    → pairs_view (drop i ps) ≡ tree.pair (string_bytes p.0) (tree_view p.1) (pairs_view (drop (i + 1) ps))
pairs_view-drop ps i p h is = ap pairs_view (drop_more ps i p h ∙ ap (λ q. q ∷ drop (i + 1) ps) (sym is))

-- one more item on both sides that stands for the same
pub trees_view-grown : (xs ys : List Tree) (x y : Tree) → trees_view xs ≡ trees_view ys → tree_view x ≡ tree_view y
    → trees_view (xs ++ x ∷ []) ≡ trees_view (ys ++ y ∷ [])
trees_view-grown [] [] x y e same = ap (λ t. tree.tree t tree.no_trees) same
trees_view-grown [] (b ∷ ys) x y e same = cc
trees_view-grown (a ∷ xs) [] x y e same = cc
trees_view-grown (a ∷ xs) (b ∷ ys) x y e same =
    let rest : trees_view xs ≡ trees_view ys = cc in
    let first : tree_view a ≡ tree_view b = cc in let more = trees_view-grown xs ys x y rest same in cc

pub pairs_view-grown : (ps qs : List (String Global × Tree)) (k : String Global) (x : Tree) (q : String Global × Tree)
    → pairs_view ps ≡ pairs_view qs → string_bytes k ≡ string_bytes q.0 → tree_view x ≡ tree_view q.1
    → pairs_view (ps ++ (k, x) ∷ []) ≡ pairs_view (qs ++ q ∷ [])
pairs_view-grown [] [] k x q e key same = cc
pairs_view-grown [] (b ∷ qs) k x q e key same = cc
pairs_view-grown (a ∷ ps) [] k x q e key same = cc
pairs_view-grown (a ∷ ps) (b ∷ qs) k x q e key same =
    let rest : pairs_view ps ≡ pairs_view qs = cc in
    let name : string_bytes a.0 ≡ string_bytes b.0 = cc in
    let value : tree_view a.1 ≡ tree_view b.1 = cc in let more = pairs_view-grown ps qs k x q rest key same in cc

-- the same by the bytes of the member's key
pub pairs_view-keyed : (ps : List (String Global × Tree)) (i : ℕ) (p : String Global × Tree) (key : List ℕ)
    → i < length ps → p ≡ get_or ps i p → key ≡ string_bytes p.0
    → pairs_view (drop i ps) ≡ tree.pair key (tree_view p.1) (pairs_view (drop (i + 1) ps))
pairs_view-keyed ps i p key h is named =
    pairs_view-drop ps i p h is ∙ ap (λ k. tree.pair k (tree_view p.1) (pairs_view (drop (i + 1) ps))) (sym named)

-- One more item is pushed, which stands for one more of those that are taken.
pub pushed-next : {A B : Type 0} (view seen : List A → B) (copies new items : List A) (i : ℕ) (x y : A) → new ≡ copies ++ y ∷ [] → i < length items
    → x ≡ get_or items i x → view (copies ++ y ∷ []) ≡ seen (take i items ++ x ∷ []) → view new ≡ seen (take (i + 1) items)
pushed-next view seen copies new items i x y pushed h is grown =
    let more : take (i + 1) items ≡ take i items ++ x ∷ [] = take_more items i x h ∙ ap (λ z. take i items ++ z ∷ []) (sym is) in
    ap view pushed ∙ grown ∙ ap seen (sym more)
