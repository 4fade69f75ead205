-- The entries of a map of std, as they are seen.
use Rattle.std.specs.Prelude.{ℕ, List, string_bytes}
use Rattle.std.proofs.Common.{◌≡◌, ◌<◌, ◌≤◌, true, List, [], ◌∷◌, Option, Some, refl, ap, ◌∙◌, arith}
use Rattle.std.specs.BTreeMap.{insert_entry}
use Rattle.std.specs.List.{All, AllByRecursion}
use Rattle.std.specs.List.Sorted.{IsStrictlySortedBy}
use Rattle.std.specs.Map.{keys_of}
use Rattle.std.specs.Option.{option_map}
use Rattle.std.specs.Ordering.{match_ordering}
use Rattle.std.specs.Str.{is_utf8}
use Rattle.std.specs.String.{string_cmp}
use Rattle.std.specs.declared.cmp.Ordering.{Ordering}
use Rattle.std.specs.declared.cmp.Ordering.TheVariants.{Less, Equal, Greater}
use Rattle.std.specs.declared.string.String.{String}
use Rattle.std.proofs.lemmas.List.Elements.{All-nil, All-cons, All-head, All-tail}
use Rattle.std.proofs.lemmas.Str.{is_utf8-from_IsUtf8, IsUtf8-string_bytes}
use Rattle.facet_format.specs.Event.{object}
use Rattle.facet_json_grammar.specs.Node.{Node}
use Rattle.facet_json_grammar.specs.Now.{Now, ahead, GoesOn}
use Rattle.facet_json_core.specs.Meaning.Maps.{seen_entries, by_bytes, with_entry, IsMap}
use Rattle.facet_json_core.specs.Meaning.Nodes.{KeepsOn}
use Rattle.facet_json_core.specs.Meaning.Objects.{BeginsObject, PassesKey}
use Rattle.facet_json_core.specs.Meaning.OneValue.{PassesValue, IsInside, PassesMemberOrEnd}
use Rattle.facet_json_core.specs.Meaning.Reading.{IsRead}
use Rattle.facet_json_core.proofs.Meaning.Keeping.{keeps-then}
use Rattle.facet_json_core.proofs.Meaning.Objects.MapReadings.{IsLeft, map-begins, map-goes_on}
use Rattle.facet_json_core.proofs.Meaning.OneValue.WithinValues.{inside-member}
use Rattle.facet_json_core.proofs.Meaning.Walks.NextOnWalk.{goes-keeps}

match_ordering-same : {A B : Type 0} (f : A → B) (o : Ordering) (a b c : A) (x y z : B) → f a ≡ x → f b ≡ y → f c ≡ z →
    f (match_ordering o a b c) ≡ match_ordering o x y z
match_ordering-same f Less a b c x y z d e g = d
match_ordering-same f Equal a b c x y z d e g = e
match_ordering-same f Greater a b c x y z d e g = g

-- After an insertion the new entry is seen.
pub seen-inserted : {Z T V : Type 0} (view : T → V) (entries : List (String Z × T)) (key : String Z) (value : T) →
    seen_entries view (insert_entry string_cmp entries key value) ≡ with_entry (seen_entries view entries) (string_bytes key) (view value)
seen-inserted view [] key value = refl
seen-inserted view (e ∷ entries) key value =
    match_ordering-same (seen_entries view) (string_cmp key e.0) _ _ _ _ _ _ refl refl
    (ap (λ es. (string_bytes e.0, view e.1) ∷ es) (seen-inserted view entries key value))

-- What is so of each value, and of a new one, is so of each after the new one was put in.
pub all-inserted : {K X : Type 0} (cmp : K → K → Ordering) (P : X → Type 0) (entries : List (K × X)) (key : K) (value : X) → All (λ e. P e.1) entries →
    P value → All (λ e. P e.1) (insert_entry cmp entries key value)
all-inserted cmp P [] key value all is = All-cons (λ e. P e.1) (key, value) [] is (All-nil (λ e. P e.1))
all-inserted cmp P (e ∷ entries) key value all is = by (all-inserted cmp P entries key value others is) (cmp key e.0)
  where
    others : All (λ e. P e.1) entries
    others = All-tail (λ e. P e.1) e entries all

    by : All (λ e. P e.1) (insert_entry cmp entries key value) → (o : Ordering) →
        All (λ e. P e.1) (match_ordering o ((key, value) ∷ e ∷ entries) ((e.0, value) ∷ entries) (e ∷ insert_entry cmp entries key value))
    by later Less = All-cons (λ e. P e.1) (key, value) (e ∷ entries) is all
    by later Equal = All-cons (λ e. P e.1) (e.0, value) entries is others
    by later Greater = All-cons (λ e. P e.1) e _ (All-head (λ e. P e.1) e entries all) later

-- ---- what every map has

abbrev IsNamed : {V : Type 0} → List ℕ × V → Type 0
IsNamed e = is_utf8 e.0 ≡ true

module _ {Z T V : Type 0} (view : T → V) where
  seen-above : (key : String Z) (entries : List (String Z × T)) → AllByRecursion (λ k. string_cmp key k ≡ Less) (keys_of entries) →
      AllByRecursion (λ k. by_bytes (string_bytes key) k ≡ Less) (keys_of (seen_entries view entries))
  seen-above key [] above = tt
  seen-above key (e ∷ entries) above = (above.0, seen-above key entries above.1)

  -- Keys that ascend are seen to ascend.
  seen-sorted : (entries : List (String Z × T)) → IsStrictlySortedBy string_cmp (keys_of entries) →
      IsStrictlySortedBy by_bytes (keys_of (seen_entries view entries))
  unfolding IsStrictlySortedBy
  seen-sorted [] sorted = tt
  seen-sorted (e ∷ entries) sorted = (seen-above e.0 entries sorted.0, seen-sorted entries sorted.1)

  seen-texts : (entries : List (String Z × T)) → All IsNamed (seen_entries view entries)
  seen-texts [] = All-nil IsNamed
  seen-texts (e ∷ entries) = All-cons IsNamed _ _ (is_utf8-from_IsUtf8 (string_bytes e.0) (IsUtf8-string_bytes e.0)) (seen-texts entries)

  -- A map of std, each of whose values has what every one has, is seen as what every map has.
  pub seen-map : (always : V → Type 0) (entries : List (String Z × T)) → IsStrictlySortedBy string_cmp (keys_of entries) →
      All (λ e. always e.1) (seen_entries view entries) → IsMap always (seen_entries view entries)
  seen-map always entries sorted values = record { ascend = seen-sorted entries sorted; texts = seen-texts entries; values = values }

-- ---- a map that is being read

-- These entries were read of the node before which the parser stood, and the parser is within it.
pub record IsUnderWay {Z T V : Type 0} (reading : List ℕ → Node → Option V) (view : T → V) (old : Now) (entries : List (String Z × T)) (now : Now) : Type 0 where
  pub left : IsLeft reading old (seen_entries view entries) now
  pub keeps : KeepsOn old now
  pub falls : ahead now < ahead old
  pub inside : IsInside object old now

-- None were read at the beginning.
pub entries-begin : {Z T V : Type 0} (reading : List ℕ → Node → Option V) (view : T → V) (old new : Now) (entries : List (String Z × T)) →
    BeginsObject old new → GoesOn old new → ahead new < ahead old → IsInside object old new → entries ≡ [] → IsUnderWay reading view old entries new
entries-begin reading view old new entries begins goes falls inside none = record {
  left = rw none (map-begins reading old new begins);
  keeps = goes-keeps old new goes;
  falls = falls;
  inside = inside;
}

-- One more was read.
pub entry-read : {Z T V : Type 0} (reading : List ℕ → Node → Option V) (view : T → V) (old now mid new : Now) (entries after : List (String Z × T))
    (given : Option (String Z)) (key : String Z) (value : T) → IsUnderWay reading view old entries now → PassesKey now (option_map string_bytes given) mid →
    PassesMemberOrEnd now given mid → given ≡ Some key → GoesOn now mid → IsRead reading mid (view value) new → KeepsOn mid new → PassesValue mid new → after ≡ insert_entry string_cmp entries key value →
    IsUnderWay reading view old after new
entry-read reading view old now mid new entries after given key value way passes member is goes read keeps one inserted =
    let named : PassesKey now (Some (string_bytes key)) mid = rw is at passes in
    let then = keeps-then now mid new (goes-keeps now mid goes) keeps in
    let seen = ap (seen_entries view) inserted ∙ seen-inserted view entries key value in
    record {
      left = rw seen (map-goes_on reading old now mid new (seen_entries view entries) (string_bytes key) (view value) way.left named read);
      keeps = keeps-then old now new way.keeps then;
      falls =
          let one : ahead now < ahead old = way.falls in
          let two : ahead new ≤ ahead now = then.onward in
          omega arith;
      inside = inside-member old now mid new given key way.inside member is keeps.input one;
    }
