-- JSON Merge Patch (RFC 7396, section 2): what a value becomes by a patch, which is a value too.
use Rattle.std.specs.Prelude.{List, ℕ, if◌then◌else◌}
use Rattle.std.specs.Option.{unwrap_or}
use Rattle.facet_json_tree.specs.Content.{is_null}
use Rattle.facet_json_tree.specs.Edit.{set_member, drop_members}
use Rattle.facet_json_tree.specs.Lookup.{last_member}
use Rattle.facet_json_grammar.specs.Tree.{Tree, null, pairs, Pairs, no_pairs, pair}

-- the members of an object; a target that is none is taken for an empty one
abbrev pub members_within : Tree → Pairs
members_within (pairs members) = members
members_within target = no_pairs

abbrev mutual
  -- an object patches the target's members, and any other value takes the target's place
  pub merged : Tree → Tree → Tree
  merged target (pairs patch) = pairs (members_merged (members_within target) patch)
  merged target patch = patch

  -- one name of the patch after the other: `null` removes the members of the name, and another value patches the value of the last one,
  -- or `null` where there is none
  pub members_merged : Pairs → Pairs → Pairs
  members_merged target no_pairs = target
  members_merged target (pair name patch others) =
      members_merged
      (if is_null patch then drop_members name target else set_member name (merged (unwrap_or (last_member name target) null) patch) target)
      others

-- one name of it
abbrev pub member_merged : List ℕ → Tree → Pairs → Pairs
member_merged name patch target = members_merged target (pair name patch no_pairs)
