-- The text of an object, member by member: what is known of its members, wherever the text stands.
use Rattle.std.specs.Prelude.{ℕ, List, length}
use Rattle.std.specs.Option.{option_map}
use Rattle.std.specs.Str.{is_utf8}
use Rattle.std.proofs.Common.{◌≡◌, ℕ, ◌+◌, true, List, [], ◌∷◌, ◌++◌, Option, Some, refl, ap, ap₂, ◌∙◌, subst, arith, append_assoc, length-append}
use Rattle.facet_format.specs.Bytes.{left_brace, right_brace}
use Rattle.facet_format.specs.Bytes as bytes
use Rattle.facet_json_token.specs.Shape.{object_starts, object_ends, comma_stands}
use Rattle.facet_json_token.specs.Gap.{plain}
use Rattle.facet_json_token.specs.Token.{Token, object_start, object_end, comma}
use Rattle.facet_json_token.specs.Tokens.{next}
use Rattle.facet_json_token.specs.TokenList.{tokens_from}
use Rattle.facet_json_grammar.specs.Meaning.{tree_of, pairs_of, put_pair, text_in_tree, meaning}
use Rattle.facet_json_grammar.specs.Node.{Node, object, Members, no_members, member, Spells, braces, SpellsMembers, ended_members, member_and_comma, last_member}
use Rattle.facet_json_grammar.specs.Quoted.{quoted}
use Rattle.facet_json_grammar.specs.Text.{text, members_text, default_options}
use Rattle.facet_json_grammar.specs.Tree.{Tree, pairs, Pairs, no_pairs, pair}
use Rattle.facet_json_grammar.proofs.Values.Containers.{key_stands}
use Rattle.facet_json_grammar.proofs.Scalars.OneToken.{IsOneString}
use Rattle.facet_json_grammar.proofs.Values.OneValue.{IsLeft, IsLeft-past, IsLeft-as, mark_at, tokens_from-structural}
use Rattle.facet_json_grammar.proofs.Scalars.QuotedTexts.{quoted-one_string}
use Rattle.facet_json_core.proofs.Meaning.Nodes.TextsWithin.{ReadsAnywhere}

-- From an offset of the buffer on, up to another, stand the members of an object and its closing brace, and this is known of them.
pub record MembersFrom (Known : Members → Type 0) (buffer : List ℕ) (from to : ℕ) : Type 0 where
  pub members : Members
  pub last : Token
  pub trees : Pairs
  pub spell : SpellsMembers (tokens_from buffer plain from) members last (tokens_from buffer plain to)
  pub have_trees : pairs_of buffer members ≡ Some trees
  pub known : Known members

-- Wherever the bytes stand, they are the members of an object and its closing brace, of which this is known.
pub record MembersAnywhere (bytes : List ℕ) (Known : List ℕ → Members → Type 0) : Type 0 where
  pub stand : (buffer : List ℕ) (from : ℕ) (after : List ℕ) → IsLeft buffer from (bytes ++ after) →
      MembersFrom (Known buffer) buffer from (from + length bytes)

-- A member of this name that reads as the value, before members of which one thing is known, makes the other known.
abbrev pub Joins : {V : Type 0} → (List ℕ → Node → Option V) → List ℕ → V → (List ℕ → Members → Type 0) → (List ℕ → Members → Type 0) → Type 0
Joins reading name v Known Joined = (buffer : List ℕ) (key mark : Token) (value : Node) (rest : Members) → text_in_tree (meaning buffer key) ≡ Some name →
    reading buffer value ≡ Some v → Known buffer rest → Joined buffer (member key mark value rest)

-- A member's pieces, with the rest after them.
member-pieces : (key value rest : List ℕ) → key ++ (bytes.colon ∷ (value ++ rest)) ≡ ((key ++ bytes.colon ∷ []) ++ value) ++ rest
member-pieces key value rest = simp append_assoc

-- The brace of an empty object.
pub members-none : (Known : List ℕ → Members → Type 0) → ((buffer : List ℕ) → Known buffer no_members) → MembersAnywhere (right_brace ∷ []) Known
unfolding pairs_of
members-none Known none = record {
  stand = λ buffer from after left.
      let spell : SpellsMembers (tokens_from buffer plain from) no_members (mark_at object_end from) (tokens_from buffer plain (from + 1)) =
      rw (tokens_from-structural buffer from right_brace object_end after object_ends left) (ended_members (mark_at object_end from) _ refl) in
      record { members = no_members; last = mark_at object_end from; trees = no_pairs; spell = spell; have_trees = refl; known = none buffer };
}

module _ {V : Type 0} (reading : List ℕ → Node → Option V) (name : List ℕ) (v : V) (Known Joined : List ℕ → Members → Type 0) (joins : Joins reading name v Known Joined) where
  -- The last member, with the brace after it.
  members-last : (key_text value_text : List ℕ) → IsOneString key_text name → ReadsAnywhere reading value_text v →
      ((buffer : List ℕ) → Known buffer no_members) → MembersAnywhere (key_text ++ (bytes.colon ∷ (value_text ++ right_brace ∷ []))) Joined
  unfolding pairs_of
  members-last key_text value_text k h none = record {
    stand = λ buffer from after left.
        let left = IsLeft-as {m = key_text ++ (bytes.colon ∷ (value_text ++ right_brace ∷ after))} (simp append_assoc) left in
        let key = key_stands buffer from key_text name (value_text ++ right_brace ∷ after) k left in
        let at = from + length key_text + 1 in
        let whole : IsLeft buffer at (value_text ++ right_brace ∷ after) =
        IsLeft-past (bytes.colon ∷ []) _ (IsLeft-past key_text (bytes.colon ∷ (value_text ++ right_brace ∷ after)) left) in
        let rest = IsLeft-past value_text (right_brace ∷ after) whole in
        let r = h.read buffer at (right_brace ∷ after) whole refl in
        let close = tokens_from-structural buffer (at + length value_text) right_brace object_end after object_ends rest in
        let last = mark_at object_end (at + length value_text) in
        let to : at + length value_text + 1 ≡ from + length (key_text ++ (bytes.colon ∷ (value_text ++ right_brace ∷ []))) =
        omega (arith, length-append key_text (bytes.colon ∷ (value_text ++ right_brace ∷ [])), length-append value_text (right_brace ∷ [])) in
        let spells : Spells (tokens_from buffer plain at) r.root (next last (tokens_from buffer plain (at + length value_text + 1))) =
        rw (← close) r.reads.spells in
        let spell : SpellsMembers (tokens_from buffer plain from) (member key.key key.mark r.root no_members) last (tokens_from buffer plain (at + length value_text + 1)) =
        rw key.tokens (last_member _ _ key.key key.mark r.root last key.is_key key.is_mark spells refl) in
        record {
          members = member key.key key.mark r.root no_members;
          last = last;
          trees = pair name r.tree no_pairs;
          spell = rw (← to) spell;
          have_trees = ap₂ (λ n o. put_pair n o (Some no_pairs)) key.names r.reads.has_tree;
          known = joins buffer key.key key.mark r.root no_members key.names r.is_read (none buffer);
        };
  }

  -- A member, with a comma and the others after it.
  members-more : (key_text value_text others : List ℕ) → IsOneString key_text name → ReadsAnywhere reading value_text v → MembersAnywhere others Known →
      MembersAnywhere (key_text ++ (bytes.colon ∷ (value_text ++ (bytes.comma ∷ others)))) Joined
  unfolding pairs_of
  members-more key_text value_text others k h more = record {
    stand = λ buffer from after left.
        let left = IsLeft-as {m = key_text ++ (bytes.colon ∷ (value_text ++ (bytes.comma ∷ (others ++ after))))} (simp append_assoc) left in
        let key = key_stands buffer from key_text name (value_text ++ (bytes.comma ∷ (others ++ after))) k left in
        let at = from + length key_text + 1 in
        let whole : IsLeft buffer at (value_text ++ (bytes.comma ∷ (others ++ after))) =
        IsLeft-past (bytes.colon ∷ []) _ (IsLeft-past key_text (bytes.colon ∷ (value_text ++ (bytes.comma ∷ (others ++ after)))) left) in
        let rest = IsLeft-past value_text (bytes.comma ∷ (others ++ after)) whole in
        let r = h.read buffer at (bytes.comma ∷ (others ++ after)) whole refl in
        let separator = mark_at comma (at + length value_text) in
        let divided = tokens_from-structural buffer (at + length value_text) bytes.comma comma (others ++ after) comma_stands rest in
        let m = more.stand buffer (at + length value_text + 1) after (IsLeft-past (bytes.comma ∷ []) (others ++ after) rest) in
        let to : at + length value_text + 1 + length others ≡ from + length (key_text ++ (bytes.colon ∷ (value_text ++ (bytes.comma ∷ others)))) =
        omega (arith, length-append key_text (bytes.colon ∷ (value_text ++ (bytes.comma ∷ others))), length-append value_text (bytes.comma ∷ others)) in
        let spells : Spells (tokens_from buffer plain at) r.root (next separator (tokens_from buffer plain (at + length value_text + 1))) =
        rw (← divided) r.reads.spells in
        let spell : SpellsMembers (tokens_from buffer plain from) (member key.key key.mark r.root m.members) m.last (tokens_from buffer plain (at + length value_text + 1 + length others)) =
        rw key.tokens (member_and_comma _ _ _ key.key key.mark r.root m.members separator m.last key.is_key key.is_mark spells refl m.spell) in
        record {
          members = member key.key key.mark r.root m.members;
          last = m.last;
          trees = pair name r.tree m.trees;
          spell = rw (← to) spell;
          have_trees = ap₂ (λ n o. put_pair n o (pairs_of buffer m.members)) key.names r.reads.has_tree ∙ ap (put_pair (Some name) (Some r.tree)) m.have_trees;
          known = joins buffer key.key key.mark r.root m.members key.names r.is_read m.known;
        };
  }

  -- A member before others, as a tree's text has them.
  pub members-join : (t : Tree) (others : Pairs) → is_utf8 name ≡ true → ReadsAnywhere reading (text default_options 1 t) v →
      (others ≡ no_pairs → (buffer : List ℕ) → Known buffer no_members) → MembersAnywhere (members_text default_options 0 true others) Known →
      MembersAnywhere (members_text default_options 0 true (pair name t others)) Joined
  unfolding text
  members-join t no_pairs utf8 h none more =
      let value = text default_options 1 t in
      subst (λ l. MembersAnywhere l Joined) (member-pieces (quoted name) value (right_brace ∷ []))
      (members-last (quoted name) value (quoted-one_string name utf8) h (none refl))
  members-join t (pair key u rest) utf8 h none more =
      let value = text default_options 1 t in
      let others = members_text default_options 0 true (pair key u rest) in
      subst (λ l. MembersAnywhere l Joined) (member-pieces (quoted name) value (bytes.comma ∷ others))
      (members-more (quoted name) value others (quoted-one_string name utf8) h more)

-- A brace before them makes an object.
pub object-whole : {V : Type 0} (reading : List ℕ → Node → Option V) (v : V) (Known : List ℕ → Members → Type 0) (others : List ℕ) →
    ((buffer : List ℕ) (first last : Token) (members : Members) → Known buffer members → reading buffer (object first last members) ≡ Some v) →
    MembersAnywhere others Known → ReadsAnywhere reading (left_brace ∷ others) v
unfolding tree_of
object-whole reading v Known others known h = record {
  read = λ buffer from after left ends.
      let open_ = tokens_from-structural buffer from left_brace object_start (others ++ after) object_starts left in
      let m = h.stand buffer (from + 1) after (IsLeft-past (left_brace ∷ []) (others ++ after) left) in
      let to : from + 1 + length others ≡ from + length (left_brace ∷ others) = omega arith in
      let first = mark_at object_start from in
      let spells : Spells (tokens_from buffer plain from) (object first m.last m.members) (tokens_from buffer plain (from + 1 + length others)) =
      rw open_ (braces first m.last _ _ m.members refl m.spell) in
      record {
        root = object first m.last m.members;
        tree = pairs m.trees;
        reads = record { spells = rw (← to) spells; has_tree = ap (option_map pairs) m.have_trees };
        is_read = known buffer first m.last m.members m.known;
      };
}
