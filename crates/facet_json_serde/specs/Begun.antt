-- What a serializer's calls have begun of a value: the containers that are open, with what was written in each.
use Rattle.std.specs.Prelude.{◌≡◌, ℕ, Bool, true, false, List, [], ◌∷◌, ◌++◌, Option, Some, None, ⊤}
use Rattle.std.specs.Str.{is_utf8}
use Rattle.facet_json_grammar.specs.AsRead.{WellFormed, RawParts, IsDocumentText}
use Rattle.facet_json_grammar.specs.Tree.{Tree, list, pairs, Trees, no_trees, tree, Pairs, no_pairs, pair}
use Rattle.facet_format.specs.SerializerCall.{SerializerCall, begin_struct, field_key, end_struct, begin_seq, end_seq}
use Rattle.facet_json_serializer.specs.TreeCalls.{tree_calls, item_calls, member_calls}

-- an open container: the items of a list, or the members of a struct, and the key whose value is awaited
pub data Level : Type 0 where
  in_items : Trees → Level
  in_members : Pairs → Option (List ℕ) → Level

-- a value of which these containers are open, the innermost first, or one that is whole
pub data Begun : Type 0 where
  within : List Level → Begun
  whole : Tree → Begun

-- ---- the calls so far

abbrev pub key_calls : Option (List ℕ) → List SerializerCall
key_calls None = []
key_calls (Some key) = field_key key ∷ []

abbrev pub level_calls : Level → List SerializerCall
level_calls (in_items items) = begin_seq ∷ item_calls items
level_calls (in_members members key) = begin_struct ∷ (member_calls members ++ key_calls key)

abbrev pub levels_calls : List Level → List SerializerCall
levels_calls [] = []
levels_calls (level ∷ around) = levels_calls around ++ level_calls level

abbrev pub begun_calls : Begun → List SerializerCall
begun_calls (within levels) = levels_calls levels
begun_calls (whole t) = tree_calls t

-- ---- what may come

-- a value may
abbrev pub awaits_value : List Level → Bool
awaits_value [] = true
awaits_value (in_items items ∷ around) = true
awaits_value (in_members members None ∷ around) = false
awaits_value (in_members members (Some key) ∷ around) = true

-- Rust's types see to the tree, and its raw parts are documents.
abbrev pub IsFormed : Tree → Type 0
IsFormed t = WellFormed t × RawParts IsDocumentText t

-- So are the trees that stand in the container, and its keys are UTF-8.
abbrev pub HoldsFormed : Level → Type 0
HoldsFormed (in_items items) = IsFormed (list items)
HoldsFormed (in_members members None) = IsFormed (pairs members)
HoldsFormed (in_members members (Some key)) = (is_utf8 key ≡ true) × IsFormed (pairs members)

-- Each container that is open stands where a value was awaited, and holds trees of Rust's.
abbrev pub AreSound : List Level → Type 0
AreSound [] = ⊤
AreSound (level ∷ around) = (awaits_value around ≡ true) × HoldsFormed level × AreSound around

-- ---- what a value adds

abbrev pub with_item : Trees → Tree → Trees
with_item no_trees t = tree t no_trees
with_item (tree first others) t = tree first (with_item others t)

abbrev pub with_pair : Pairs → List ℕ → Tree → Pairs
with_pair no_pairs key t = pair key t no_pairs
with_pair (pair name value others) key t = pair name value (with_pair others key t)

-- the tree stands where a value is awaited
abbrev pub put : Tree → List Level → Begun
put t [] = whole t
put t (in_items items ∷ around) = within (in_items (with_item items t) ∷ around)
put t (in_members members None ∷ around) = within (in_members members None ∷ around)
put t (in_members members (Some key) ∷ around) = within (in_members (with_pair members key t) None ∷ around)

-- ---- laws

abbrev pub ValueStands : Type 0
ValueStands = (t : Tree) (levels : List Level) → awaits_value levels ≡ true → begun_calls (put t levels) ≡ levels_calls levels ++ tree_calls t

abbrev pub KeyBegins : Type 0
KeyBegins = (members : Pairs) (key : List ℕ) (around : List Level)
    → levels_calls (in_members members (Some key) ∷ around) ≡ levels_calls (in_members members None ∷ around) ++ field_key key ∷ []

abbrev pub ListBegins : Type 0
ListBegins = (levels : List Level) → levels_calls (in_items no_trees ∷ levels) ≡ levels_calls levels ++ begin_seq ∷ []

abbrev pub StructBegins : Type 0
StructBegins = (levels : List Level) → levels_calls (in_members no_pairs None ∷ levels) ≡ levels_calls levels ++ begin_struct ∷ []

abbrev pub ListEnds : Type 0
ListEnds = (items : Trees) (around : List Level) → awaits_value around ≡ true
    → begun_calls (put (list items) around) ≡ levels_calls (in_items items ∷ around) ++ end_seq ∷ []

abbrev pub StructEnds : Type 0
StructEnds = (members : Pairs) (around : List Level) → awaits_value around ≡ true
    → begun_calls (put (pairs members) around) ≡ levels_calls (in_members members None ∷ around) ++ end_struct ∷ []
