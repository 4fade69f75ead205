-- Maps: what is written comes back.
use Rattle.std.specs.Prelude.{ℕ, List}
use Rattle.std.specs.List.{All, AllByRecursion}
use Rattle.std.specs.List.Sorted.{IsStrictlySortedBy}
use Rattle.std.specs.Map.{keys_of}
use Rattle.std.specs.Ordering.{match_ordering, ordering_reverse}
use Rattle.std.specs.Str.{is_utf8}
use Rattle.std.specs.declared.cmp.Ordering.TheVariants.{Less}
use Rattle.std.proofs.Common.{◌≡◌, ℕ, true, List, [], ◌∷◌, Option, Some, refl, ap, ◌∙◌}
use Rattle.std.proofs.lemmas.Cmp.{nat_list_cmp_total}
use Rattle.std.proofs.lemmas.List.Elements.{All-head, All-tail}
use Rattle.facet_json_grammar.specs.Node.{Node, Members, no_members}
use Rattle.facet_json_grammar.specs.Text.{text, members_text, default_options}
use Rattle.facet_json_grammar.specs.Tree.{Tree, no_pairs}
use Rattle.facet_json_grammar.specs.AsRead.{RawParts, RawMembers, IsDocumentText}
use Rattle.facet_json_core.specs.Meaning.Laws.{SameReading, ReadsBack}
use Rattle.facet_json_core.specs.Meaning.Maps.{Entries, by_bytes, with_entry, with_members, map_of, pairs_of_entries, tree_of_entries, IsMap, IsReadableMap}
use Rattle.facet_json_core.proofs.Meaning.Objects.MapReadings.{first-is}
use Rattle.facet_json_core.proofs.Meaning.Objects.ObjectTexts.{Joins, MembersAnywhere, members-none, members-join, object-whole}
use Rattle.facet_json_core.proofs.Meaning.Nodes.TextsWithin.{reads-alone, reads-inside}

-- ---- entries in their order

module _ {V : Type 0} where
  -- the entries, with others put in one by one
  abbrev put_all : Entries V → Entries V → Entries V
  put_all seen [] = seen
  put_all seen (e ∷ entries) = put_all (with_entry seen e.0 e.1) entries

  -- The first entry stays first, where the others are above it.
  put-first : (e : List ℕ × V) (seen entries : Entries V) → AllByRecursion (λ k. by_bytes e.0 k ≡ Less) (keys_of entries) →
      put_all (e ∷ seen) entries ≡ e ∷ put_all seen entries
  put-first e seen [] above = refl
  put-first e seen (f ∷ entries) above =
      let greater = nat_list_cmp_total.antisymm f.0 e.0 ∙ ap ordering_reverse above.0 in
      ap (λ o. put_all (match_ordering o ((f.0, f.1) ∷ e ∷ seen) ((e.0, f.1) ∷ seen) (e ∷ with_entry seen f.0 f.1)) entries) greater
      ∙ put-first e (with_entry seen f.0 f.1) entries above.1

  -- Entries that ascend are put in as they stand.
  put-sorted : (entries : Entries V) → IsStrictlySortedBy by_bytes (keys_of entries) → put_all [] entries ≡ entries
  unfolding IsStrictlySortedBy
  put-sorted [] sorted = refl
  put-sorted (e ∷ entries) sorted = put-first e [] entries sorted.0 ∙ ap (λ es. e ∷ es) (put-sorted entries sorted.1)

-- ---- members

module _ {V : Type 0} (reading : List ℕ → Node → Option V) where
  -- The members read as the entries, which are put in one by one.
  abbrev AreEntries : Entries V → List ℕ → Members → Type 0
  AreEntries entries buffer members = (seen : Entries V) → with_members reading buffer members seen ≡ Some (put_all seen entries)

  -- No member is no entry.
  no-entries : (tree_by : V → Tree) (entries : Entries V) → pairs_of_entries tree_by entries ≡ no_pairs → (buffer : List ℕ) → AreEntries entries buffer no_members
  no-entries tree_by [] none buffer seen = refl
  no-entries tree_by (e ∷ entries) none buffer seen = absurd (cc)

  -- A member is the entry before the others.
  entry-joins : (name : List ℕ) (v : V) (entries : Entries V) → Joins reading name v (AreEntries entries) (AreEntries ((name, v) ∷ entries))
  entry-joins name v entries buffer key mark value rest named is others seen =
      first-is reading buffer key mark value rest seen name (Some v) named is ∙ others (with_entry seen name v)

-- ---- back from the text

module _ {V : Type 0} (reading : List ℕ → Node → Option V) (tree_by : V → Tree) (always readable : V → Type 0) (same : SameReading reading)
    (back : ReadsBack reading tree_by always readable) where
  abbrev IsText : List ℕ × V → Type 0
  IsText e = is_utf8 e.0 ≡ true

  abbrev Has : List ℕ × V → Type 0
  Has e = always e.1

  abbrev IsBack : List ℕ × V → Type 0
  IsBack e = readable e.1

  all-members : (entries : Entries V) → All IsText entries → All Has entries → All IsBack entries →
      MembersAnywhere (members_text default_options 0 true (pairs_of_entries tree_by entries)) (AreEntries reading entries)
  unfolding text
  all-members [] texts have values = members-none (AreEntries reading []) (no-entries reading tree_by [] refl)
  all-members (e ∷ entries) texts have values =
      members-join reading e.0 e.1 (AreEntries reading entries) (AreEntries reading (e ∷ entries)) (entry-joins reading e.0 e.1 entries) (tree_by e.1)
      (pairs_of_entries tree_by entries) (All-head IsText e entries texts) (reads-inside reading tree_by always readable same back e.1 (All-head Has e entries have) (All-head IsBack e entries values)) (no-entries reading tree_by entries)
      (all-members entries (All-tail IsText e entries texts) (All-tail Has e entries have) (All-tail IsBack e entries values))

  all-raw : (entries : Entries V) → All Has entries → All IsBack entries → RawMembers IsDocumentText (pairs_of_entries tree_by entries)
  unfolding RawMembers
  all-raw [] have values = tt
  all-raw (e ∷ entries) have values = (
    (back e.1 (All-head Has e entries have) (All-head IsBack e entries values)).0,
    all-raw entries (All-tail Has e entries have) (All-tail IsBack e entries values),
  )

  pub map-reads_back : ReadsBack (map_of reading) (tree_of_entries tree_by) (IsMap always) (IsReadableMap readable)
  unfolding text RawParts
  map-reads_back entries is values = (
    all-raw entries is.values values,
    reads-alone (map_of reading) (text default_options 0 (tree_of_entries tree_by entries)) entries
        (object-whole (map_of reading) entries (AreEntries reading entries) (members_text default_options 0 true (pairs_of_entries tree_by entries))
        (λ buffer first last members read. read [] ∙ ap Some (put-sorted entries is.ascend)) (all-members entries is.texts is.values values)),
  )
