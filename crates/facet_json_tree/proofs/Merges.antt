-- A member that is set twice, as a merge does.
use Rattle.std.proofs.Common.{◌≡◌, ℕ, Bool, true, false, List, Option, Some, None, if◌then◌else◌, refl, ap}
use Rattle.std.specs.Prelude.{◌&&◌, is_none}
use Rattle.std.specs.Cmp.Lexicographic.{bytes_decides}
use Rattle.facet_json_grammar.specs.Tree.{Tree, Pairs, no_pairs, pair}
use Rattle.facet_json_tree.specs.Edit.{set_member}
use Rattle.facet_json_tree.specs.Lookup.{last_member}
use Rattle.facet_json_tree.specs.Same.{same_bytes}
use Rattle.facet_json_tree.proofs.EditLaws.{set-is_found}

twice_by : (key name : List ℕ) (old x z : Tree) (others : Pairs) (last : Option Tree) (same : Bool)
    → last_member key others ≡ last → same_bytes name key ≡ same
    → set_member key x (set_member key z others) ≡ set_member key x others
    → set_member key x (if same && is_none last then pair name z others else pair name old (set_member key z others))
    ≡ (if same && is_none last then pair name x others else pair name old (set_member key x others))
twice_by key name old x z others None true none named rest = rw (none, named) refl
twice_by key name old x z others (Some y) true some named rest = rw (set-is_found key z others, named) (ap (pair name old) rest)
twice_by key name old x z others last false some named rest = rw named (ap (pair name old) rest)

-- The value that is set last counts.
pub set_member-twice : (key : List ℕ) (x z : Tree) (ps : Pairs) → set_member key x (set_member key z ps) ≡ set_member key x ps
set_member-twice key x z no_pairs = rw ((bytes_decides key key).1 refl) refl
set_member-twice key x z (pair name old others) =
    twice_by key name old x z others (last_member key others) (same_bytes name key) refl refl (set_member-twice key x z others)
