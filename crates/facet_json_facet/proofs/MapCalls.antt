-- The calls by which a map is written.
use Rattle.std.proofs.Common.{◌≡◌, List, [], ◌∷◌, Option, Result, Ok, Err, string_bytes, sym, ap, ◌∙◌, subst}
use Rattle.std.specs.Prelude.{ℕ, None}
use Rattle.std.specs.List.{All}
use Rattle.std.specs.declared.string.String.{String}
use Rattle.std.proofs.lemmas.List.Elements.{All-nil, All-cons}
use Rattle.std.proofs.lemmas.Str.{is_utf8-from_IsUtf8, IsUtf8-string_bytes}
use Rattle.facet_format.specs.SerializerCall.{begin_struct, field_key, end_struct}
use Rattle.facet_json_grammar.specs.Tree.{Tree, pairs, Pairs, pair}
use Rattle.facet_json_core.specs.Meaning.Maps.{seen_entries, pairs_of_entries}
use Rattle.facet_json_serializer.specs.declared.error.JsonSerializeError.{JsonSerializeError}
use Rattle.facet_json_serializer.specs.Serializer.{Writing, WriteRefusal, out_of_memory, Appends}
use Rattle.facet_json_serializer.specs.Views.{call_answer_of}
use Rattle.facet_json_tree.specs.Write.{HasWritten, IsOfRust}
use Rattle.facet_json_tree.proofs.CallsLeft.{Ended}
use Rattle.facet_json_tree.proofs.Containers as written
use Rattle.facet_json_tree.proofs.OfRust.{member-of_rust, no_member-of_rust}

module _ {Z T V : Type 0} (view : T → V) (tree : V → Tree) (always : V → Type 0) where
  abbrev members : List (String Z × T) → Pairs
  members entries = pairs_of_entries tree (seen_entries view entries)

  -- Each value has what every one of its type has.
  abbrev Have : List (String Z × T) → Type 0
  Have entries = All (λ e. always e.1) (seen_entries view entries)

  -- Of a map's entries these are still to be written, and then the end.
  pub record IsHalfWritten (old : Option Writing) (all rest : List (String Z × T)) (now : Option Writing) : Type 0 where
    pub left : written.MembersLeft old (members all) (members rest) now
    pub of_rust : IsOfRust (pairs (members rest)) → IsOfRust (pairs (members all))
    pub have : Have rest → Have all

  pub map-begun : (old new : Option Writing) (all rest : List (String Z × T)) → rest ≡ all → Appends old begin_struct (Ok tt) new →
      IsHalfWritten old all rest new
  map-begun old new all rest same step =
      subst (λ es. IsHalfWritten old all es new) (sym same)
      (record { left = written.object-begun old new (members all) step; of_rust = λ h. h; have = λ h. h })

  -- The first entry that is left, by the bytes of its key.
  named-first : (rest more : List (String Z × T)) (key : String Z) (value : T) (name : List ℕ) → rest ≡ (key, value) ∷ more → name ≡ string_bytes key →
      members rest ≡ pair name (tree (view value)) (members more)
  named-first rest more key value name is named = ap members is ∙ ap (λ k. pair k (tree (view value)) (members more)) (sym named)

  pub key-refused : (old now new : Option Writing) (all rest more : List (String Z × T)) (key : String Z) (value : T) (name : List ℕ) (why : WriteRefusal) →
      IsHalfWritten old all rest now → rest ≡ (key, value) ∷ more → name ≡ string_bytes key → Appends now (field_key name) (Err why) new →
      (why ≡ out_of_memory) × (new ≡ None)
  key-refused old now new all rest more key value name why half is named step =
      written.key-refused old now new (members all) _ (members more) name _ why (named-first rest more key value name is named) half.left step

  -- An entry was written.
  pub entry-written : (old now mid new : Option Writing) (all rest more : List (String Z × T)) (key : String Z) (value : T) (name : List ℕ) →
      IsHalfWritten old all rest now → rest ≡ (key, value) ∷ more → name ≡ string_bytes key → Appends now (field_key name) (Ok tt) mid →
      HasWritten mid (tree (view value)) new → IsOfRust (tree (view value)) → always (view value) → IsHalfWritten old all more new
  entry-written old now mid new all rest more key value name half is named step wrote of_rust has =
      let here = named-first rest more key value name is named in
      let text = is_utf8-from_IsUtf8 (string_bytes key) (IsUtf8-string_bytes key) in
      record {
        left = written.member-written old now mid new (members all) _ (members more) name (tree (view value)) here half.left step wrote;
        of_rust = λ h. half.of_rust
            (subst (λ es. IsOfRust (pairs (members es))) (sym is) (member-of_rust (string_bytes key) (tree (view value)) (members more) text of_rust h));
        have = λ h. half.have (subst Have (sym is) (All-cons (λ e. always e.1) _ _ has h));
      }

  module _ (old now : Option Writing) (all rest : List (String Z × T)) (half : IsHalfWritten old all rest now) (none : rest ≡ []) where
    pub map-ended : (new : Option Writing) (r : Result (Unit {0}) JsonSerializeError) → Appends now end_struct (call_answer_of r) new →
        Ended old (pairs (members all)) r new
    map-ended new r step = written.object-ended old now new (members all) _ r (ap members none) half.left step

    pub all-of_rust : IsOfRust (pairs (members all))
    all-of_rust = half.of_rust (subst (λ es. IsOfRust (pairs (members es))) (sym none) no_member-of_rust)

    pub all-have : Have all
    all-have = half.have (subst Have (sym none) (All-nil (λ e. always e.1)))
