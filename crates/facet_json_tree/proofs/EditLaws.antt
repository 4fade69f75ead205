-- What is looked up after a change.
use Rattle.std.proofs.Common.{◌≡◌, ◌≢◌, ℕ, Bool, true, false, List, Option, Some, None, if◌then◌else◌, refl, sym, ◌∙◌}
use Rattle.std.specs.Prelude.{◌&&◌, is_none}
use Rattle.std.specs.Option.{option_or}
use Rattle.std.specs.Cmp.Lexicographic.{bytes_decides}
use Rattle.facet_json_grammar.specs.Tree.{Tree, Pairs, no_pairs, pair}
use Rattle.facet_json_tree.specs.Edit.{set_member, drop_members}
use Rattle.facet_json_tree.specs.EditLaws.{SetIsFound, SetKeepsOthers, DroppedIsGone, DropKeepsOthers}
use Rattle.facet_json_tree.specs.Lookup.{last_member}
use Rattle.facet_json_tree.specs.Same.{same_bytes}

-- names that differ are told apart
false_by : (same : Bool) → (same ≡ true → ⊥) → same ≡ false
false_by true h = absurd (h refl)
false_by false h = refl

pub other_name : (key name : List ℕ) → name ≢ key → same_bytes name key ≡ false
other_name key name differs = false_by (same_bytes name key) (λ e. differs ((bytes_decides name key).0 e))

-- a name that is the key is no other one
key_is_other : (key name own : List ℕ) → name ≢ key → same_bytes own key ≡ true → same_bytes own name ≡ false
key_is_other key name own differs same =
    false_by (same_bytes own name) (λ e. differs (sym ((bytes_decides own name).0 e) ∙ (bytes_decides own key).0 same))

found_by : (key name : List ℕ) (old x : Tree) (others set : Pairs) (last : Option Tree) (same : Bool)
    → last_member key others ≡ last → same_bytes name key ≡ same → last_member key set ≡ Some x
    → last_member key (if same && is_none last then pair name x others else pair name old set) ≡ Some x
found_by key name old x others set None true none named found = rw (none, named) refl
found_by key name old x others set (Some y) true some named found = rw found refl
found_by key name old x others set last false some named found = rw found refl

pub set-is_found : SetIsFound
set-is_found key x no_pairs = rw ((bytes_decides key key).1 refl) refl
set-is_found key x (pair name old others) =
    found_by key name old x others (set_member key x others) (last_member key others) (same_bytes name key) refl refl
    (set-is_found key x others)

kept_by : (key name own : List ℕ) (old x : Tree) (others set : Pairs) (last : Option Tree) (same : Bool)
    → name ≢ key → same_bytes own key ≡ same → last_member name set ≡ last_member name others
    → last_member name (if same && is_none last then pair own x others else pair own old set) ≡ last_member name (pair own old others)
kept_by key name own old x others set None true differs named kept = rw (key_is_other key name own differs named) refl
kept_by key name own old x others set (Some y) true differs named kept = rw kept refl
kept_by key name own old x others set last false differs named kept = rw kept refl

pub set-keeps_others : SetKeepsOthers
set-keeps_others key name x no_pairs differs = rw (other_name name key (λ e. differs (sym e))) refl
set-keeps_others key name x (pair own old others) differs =
    kept_by key name own old x others (set_member key x others) (last_member key others) (same_bytes own key) differs refl
    (set-keeps_others key name x others differs)

or_none : (o : Option Tree) → o ≡ option_or o None
or_none None = refl
or_none (Some x) = refl

gone_by : (key name : List ℕ) (x : Tree) (left : Pairs) (same : Bool) → same_bytes name key ≡ same → last_member key left ≡ None
    → last_member key (if same then left else pair name x left) ≡ None
gone_by key name x left true named none = none
gone_by key name x left false named none = rw (none, named) refl

pub dropped-is_gone : DroppedIsGone
dropped-is_gone key no_pairs = refl
dropped-is_gone key (pair name x others) =
    gone_by key name x (drop_members key others) (same_bytes name key) refl (dropped-is_gone key others)

left_by : (key name own : List ℕ) (x : Tree) (others left : Pairs) (same : Bool) → name ≢ key → same_bytes own key ≡ same
    → last_member name left ≡ last_member name others
    → last_member name (if same then left else pair own x left) ≡ last_member name (pair own x others)
left_by key name own x others left true differs named kept = rw (kept, key_is_other key name own differs named) (or_none (last_member name others))
left_by key name own x others left false differs named kept = rw kept refl

pub drop-keeps_others : DropKeepsOthers
drop-keeps_others key name no_pairs differs = refl
drop-keeps_others key name (pair own x others) differs =
    left_by key name own x others (drop_members key others) (same_bytes own key) differs refl (drop-keeps_others key name others differs)
