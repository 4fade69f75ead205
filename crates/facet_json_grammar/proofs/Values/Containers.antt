-- Bytes that are read as the items of a list or the members of an object, with the closing bracket.
use Rattle.std.proofs.Common.{◌≡◌, ℕ, ◌+◌, true, false, List, [], ◌∷◌, ◌++◌, length, Some, None, refl, sym, ap, ap₂, ◌∙◌, subst, arith, append_assoc, length-append}
use Rattle.facet_format.specs.Bytes.{left_bracket, right_bracket, left_brace, right_brace}
use Rattle.facet_format.specs.Bytes as bytes
use Rattle.facet_json_token.specs.Shape.{IsStructural, object_starts, object_ends, array_starts, array_ends, colon_stands, comma_stands}
use Rattle.facet_json_token.specs.Gap.{plain}
use Rattle.facet_json_token.specs.Token.{Kind, Token, array_start, array_end, object_start, object_end, colon, comma}
use Rattle.facet_json_token.specs.Tokens.{next}
use Rattle.facet_json_token.specs.TokenList.{tokens_from}
use Rattle.facet_json_token.specs.Strict.{strict_fault}
use Rattle.facet_json_grammar.specs.Language.{Rules}
use Rattle.facet_json_grammar.specs.Meaning.{tree_of, trees_of, pairs_of, meaning, text_in_tree, put_item, put_pair}
use Rattle.facet_json_grammar.specs.Node.{array, object, Nodes, no_nodes, item, Members, no_members, member, is_string, Spells, brackets, braces, SpellsItems, closed, item_and_comma, last_item, SpellsMembers, ended_members, member_and_comma, last_member}
use Rattle.facet_json_grammar.specs.Tree.{Tree, list, pairs, Trees, no_trees, tree, Pairs, no_pairs, pair}
use Rattle.facet_json_grammar.specs.StrictDocument.{begins_closing}
use Rattle.facet_json_grammar.proofs.WalkComes.{Fits}
use Rattle.std.specs.Option.{option_map}
use Rattle.facet_json_grammar.specs.RfcText.{AreSpaces}
use Rattle.facet_json_grammar.proofs.Scalars.OneToken.{IsOneString}
use Rattle.facet_json_grammar.proofs.Values.FitBefore.{value-begins, string-no_closing, structural-fits, key-fits}
use Rattle.facet_json_grammar.proofs.Values.OneValue.{IsLeft, IsLeft-past, IsLeft-as, IsLeft-split, blank-ends_number, tokens_from-blank, mark_at, tokens_from-structural, IsOneValue, cut_as-from}

-- White space and a structural byte are that byte's token.
blank-structural : (buffer : List ℕ) (from : ℕ) (blank : List ℕ) (b : ℕ) (kind : Kind) (rest : List ℕ) → AreSpaces blank →
    IsStructural b kind → IsLeft buffer from (blank ++ b ∷ rest) → tokens_from buffer plain from ≡
    next (mark_at kind (from + length blank)) (tokens_from buffer plain (from + length blank + 1))
blank-structural buffer from blank b kind rest e s left =
    tokens_from-blank buffer from blank (b ∷ rest) e left
    ∙ tokens_from-structural buffer (from + length blank) b kind rest s (IsLeft-past blank (b ∷ rest) left)

-- ---- lists

-- From an offset of the buffer on, up to another, stand the items of a list, one at least, and its closing bracket, with these trees;
-- and they may stand as they do by these rules, where the tokens that follow them may.
pub record AreItemsFrom (by : Rules) (buffer : List ℕ) (from to : ℕ) (values : Trees) : Type 0 where
  pub nodes : Nodes
  pub last : Token
  pub spell : SpellsItems (tokens_from buffer plain from) nodes last (tokens_from buffer plain to)
  pub have_trees : trees_of buffer nodes ≡ Some values
  pub begin : begins_closing (tokens_from buffer plain from) ≡ false
  pub fit : Fits by buffer (tokens_from buffer plain to) → Fits by buffer (tokens_from buffer plain from)

-- Wherever the bytes stand, they are the items of a list, one at least, and its closing bracket, with these trees.
abbrev pub AreItems : Rules → List ℕ → Trees → Type 0
AreItems by text values = (buffer : List ℕ) (from : ℕ) (after : List ℕ) → IsLeft buffer from (text ++ after) →
    AreItemsFrom by buffer from (from + length text) values

-- White space before items is passed.
pub blank-items : (by : Rules) (blank text : List ℕ) (values : Trees) → AreSpaces blank → AreItems by text values →
    AreItems by (blank ++ text) values
blank-items by blank text values e h buffer from after left =
    let whole = IsLeft-as (append_assoc blank text after) left in
    let m = h buffer (from + length blank) after (IsLeft-past blank (text ++ after) whole) in
    let start = tokens_from-blank buffer from blank (text ++ after) e whole in
    let to : from + length blank + length text ≡ from + length (blank ++ text) = omega (arith, length-append blank text) in
    rw (← to) record {
      nodes = m.nodes;
      last = m.last;
      spell = rw start m.spell;
      have_trees = m.have_trees;
      begin = rw start m.begin;
      fit = λ f. rw start (m.fit f);
    }

-- The last item, with white space and the bracket after it.
pub items-last : (by : Rules) (text blank : List ℕ) (value : Tree) → IsOneValue by text value → AreSpaces blank →
    AreItems by (text ++ (blank ++ right_bracket ∷ [])) (tree value no_trees)
unfolding trees_of
items-last by text blank value h e buffer from after left =
    let whole = IsLeft-as {m = text ++ (blank ++ right_bracket ∷ after)} (simp append_assoc) left in
    let rest = IsLeft-past text (blank ++ right_bracket ∷ after) whole in
    let r = h buffer from (blank ++ right_bracket ∷ after) whole (blank-ends_number blank (right_bracket ∷ after) e refl) in
    let close = blank-structural buffer (from + length text) blank right_bracket array_end after e array_ends rest in
    let last = mark_at array_end (from + length text + length blank) in
    let to : from + length text + length blank + 1 ≡ from + length (text ++ (blank ++ right_bracket ∷ [])) =
    omega (arith, length-append text (blank ++ right_bracket ∷ []), length-append blank (right_bracket ∷ [])) in
    let spells : Spells (tokens_from buffer plain from) r.root (next last (tokens_from buffer plain (from + length text + length blank + 1))) =
    rw (← close) r.reads.spells in
    rw (← to) record {
      nodes = item r.root no_nodes;
      last = last;
      spell = last_item _ _ r.root last spells refl;
      have_trees = ap (λ o. put_item o (Some no_trees)) r.reads.has_tree;
      begin = value-begins r.reads.spells;
      fit = λ f. r.fits (rw close (structural-fits by buffer last right_bracket _ array_ends (λ k. cc) f));
    }

-- An item, with a comma and the others after it.
pub items-more : (by : Rules) (text others : List ℕ) (value : Tree) (values : Trees) → IsOneValue by text value →
    AreItems by others values → AreItems by (text ++ (bytes.comma ∷ others)) (tree value values)
unfolding trees_of
items-more by text others value values h more buffer from after left =
    let whole = IsLeft-as {m = text ++ (bytes.comma ∷ (others ++ after))} (simp append_assoc) left in
    let rest = IsLeft-past text (bytes.comma ∷ (others ++ after)) whole in
    let r = h buffer from (bytes.comma ∷ (others ++ after)) whole refl in
    let separator = mark_at comma (from + length text) in
    let divided = tokens_from-structural buffer (from + length text) bytes.comma comma (others ++ after) comma_stands rest in
    let m = more buffer (from + length text + 1) after (IsLeft-past (bytes.comma ∷ []) (others ++ after) rest) in
    let to : from + length text + 1 + length others ≡ from + length (text ++ (bytes.comma ∷ others)) =
    omega (arith, length-append text (bytes.comma ∷ others)) in
    let spells : Spells (tokens_from buffer plain from) r.root (next separator (tokens_from buffer plain (from + length text + 1))) =
    rw (← divided) r.reads.spells in
    rw (← to) record {
      nodes = item r.root m.nodes;
      last = m.last;
      spell = item_and_comma _ _ _ r.root m.nodes separator m.last spells refl m.spell;
      have_trees = ap₂ put_item r.reads.has_tree m.have_trees;
      begin = value-begins r.reads.spells;
      fit = λ f. r.fits (rw divided (structural-fits by buffer separator bytes.comma _ comma_stands (λ k. m.begin) (m.fit f)));
    }

-- A bracket before them makes a list.
pub list-one_value : (by : Rules) (text : List ℕ) (values : Trees) → AreItems by text values →
    IsOneValue by (left_bracket ∷ text) (list values)
unfolding tree_of
list-one_value by text values h buffer from after left ends =
    let open_ = tokens_from-structural buffer from left_bracket array_start (text ++ after) array_starts left in
    let m = h buffer (from + 1) after (IsLeft-past (left_bracket ∷ []) (text ++ after) left) in
    let to : from + 1 + length text ≡ from + length (left_bracket ∷ text) = omega arith in
    let first = mark_at array_start from in
    let spells : Spells (tokens_from buffer plain from) (array first m.last m.nodes) (tokens_from buffer plain (from + 1 + length text)) =
    rw open_ (brackets first m.last _ _ m.nodes refl m.spell) in
    rw (← to) record {
      root = array first m.last m.nodes;
      reads = record { spells = spells; has_tree = ap (option_map list) m.have_trees };
      fits = λ f. rw open_ (structural-fits by buffer first left_bracket _ array_starts (λ k. cc) (m.fit f));
    }

-- White space between brackets is an empty list.
pub empty_list-one_value : (by : Rules) (blank : List ℕ) → AreSpaces blank →
    IsOneValue by (left_bracket ∷ (blank ++ right_bracket ∷ [])) (list no_trees)
unfolding tree_of
empty_list-one_value by blank e buffer from after left ends =
    let whole = IsLeft-as {m = left_bracket ∷ (blank ++ right_bracket ∷ after)} (simp append_assoc) left in
    let open_ = tokens_from-structural buffer from left_bracket array_start (blank ++ right_bracket ∷ after) array_starts whole in
    let rest = IsLeft-past (left_bracket ∷ []) (blank ++ right_bracket ∷ after) whole in
    let close = blank-structural buffer (from + 1) blank right_bracket array_end after e array_ends rest in
    let first = mark_at array_start from in
    let last = mark_at array_end (from + 1 + length blank) in
    let to : from + 1 + length blank + 1 ≡ from + length (left_bracket ∷ (blank ++ right_bracket ∷ [])) =
    omega (arith, length-append blank (right_bracket ∷ [])) in
    let spells : Spells (tokens_from buffer plain from) (array first last no_nodes) (tokens_from buffer plain (from + 1 + length blank + 1)) =
    rw (open_, close) (brackets first last _ _ no_nodes refl (closed last _ refl)) in
    rw (← to) record {
      root = array first last no_nodes;
      reads = record { spells = spells; has_tree = refl };
      fits = λ f.
          let behind = structural-fits by buffer last right_bracket _ array_ends (λ k. cc) f in
          rw (open_, close) (structural-fits by buffer first left_bracket _ array_starts (λ k. cc) behind);
    }

-- ---- objects

-- From an offset of the buffer on, up to another, stand the members of an object, one at least, and its closing brace, with these trees;
-- and they may stand as they do by these rules, where the tokens that follow them may.
pub record AreMembersFrom (by : Rules) (buffer : List ℕ) (from to : ℕ) (values : Pairs) : Type 0 where
  pub members : Members
  pub last : Token
  pub spell : SpellsMembers (tokens_from buffer plain from) members last (tokens_from buffer plain to)
  pub have_trees : pairs_of buffer members ≡ Some values
  pub begin : begins_closing (tokens_from buffer plain from) ≡ false
  pub fit : Fits by buffer (tokens_from buffer plain to) → Fits by buffer (tokens_from buffer plain from)

-- Wherever the bytes stand, they are the members of an object, one at least, and its closing brace, with these trees.
abbrev pub AreMembers : Rules → List ℕ → Pairs → Type 0
AreMembers by text values = (buffer : List ℕ) (from : ℕ) (after : List ℕ) → IsLeft buffer from (text ++ after) →
    AreMembersFrom by buffer from (from + length text) values

-- White space before members is passed.
pub blank-members : (by : Rules) (blank text : List ℕ) (values : Pairs) → AreSpaces blank → AreMembers by text values →
    AreMembers by (blank ++ text) values
blank-members by blank text values e h buffer from after left =
    let whole = IsLeft-as (append_assoc blank text after) left in
    let m = h buffer (from + length blank) after (IsLeft-past blank (text ++ after) whole) in
    let start = tokens_from-blank buffer from blank (text ++ after) e whole in
    let to : from + length blank + length text ≡ from + length (blank ++ text) = omega (arith, length-append blank text) in
    rw (← to) record {
      members = m.members;
      last = m.last;
      spell = rw start m.spell;
      have_trees = m.have_trees;
      begin = rw start m.begin;
      fit = λ f. rw start (m.fit f);
    }

-- The tokens of a key and its colon stand at an offset, where the key means this text and the value begins at another.
pub record KeyStands (buffer : List ℕ) (from to : ℕ) (name : List ℕ) : Type 0 where
  pub key : Token
  pub mark : Token
  pub tokens : tokens_from buffer plain from ≡ next key (next mark (tokens_from buffer plain to))
  pub is_key : is_string key.kind ≡ true
  pub is_mark : mark.kind ≡ colon
  pub names : text_in_tree (meaning buffer key) ≡ Some name
  pub right : strict_fault buffer key ≡ None

-- A key's text, white space and a colon are its tokens.
key_stands-blank : (buffer : List ℕ) (from : ℕ) (key_text name blank rest : List ℕ) → IsOneString key_text name → AreSpaces blank →
    IsLeft buffer from (key_text ++ (blank ++ bytes.colon ∷ rest)) → KeyStands buffer from (from + length key_text + length blank + 1) name
key_stands-blank buffer from key_text name blank rest h e left =
    let s = IsLeft-split left in
    let after : List ℕ = blank ++ bytes.colon ∷ rest in
    let same : s.0 ++ key_text ++ after ≡ buffer = append_assoc s.0 key_text after ∙ s.2 in
    let c = h s.0 after in
    let colon_at = from + length key_text + length blank in
    let marked = blank-structural buffer (from + length key_text) blank bytes.colon colon rest e colon_stands (IsLeft-past key_text after left) in
    record {
      key = c.0;
      mark = mark_at colon colon_at;
      tokens = cut_as-from s.1 same c.1 ∙ ap (next c.0) marked;
      is_key = c.2;
      is_mark = refl;
      names = ap (λ l. text_in_tree (meaning l c.0)) (sym same) ∙ ap text_in_tree c.3;
      right = ap (λ l. strict_fault l c.0) (sym same) ∙ c.4;
    }

-- A key's text and a colon are its tokens.
pub key_stands : (buffer : List ℕ) (from : ℕ) (key_text name rest : List ℕ) → IsOneString key_text name →
    IsLeft buffer from (key_text ++ bytes.colon ∷ rest) → KeyStands buffer from (from + length key_text + 1) name
key_stands buffer from key_text name rest h left =
    let to : from + length key_text + length {A = ℕ} [] + 1 ≡ from + length key_text + 1 = omega arith in
    subst (λ p. KeyStands buffer from p name) to (key_stands-blank buffer from key_text name [] rest h refl left)

-- The last member, with white space before its colon, and white space and the brace after it.
pub members-last : (by : Rules) (key_text name gap text blank : List ℕ) (value : Tree) → IsOneString key_text name → AreSpaces gap →
    IsOneValue by text value → AreSpaces blank →
    AreMembers by (key_text ++ (gap ++ (bytes.colon ∷ (text ++ (blank ++ right_brace ∷ []))))) (pair name value no_pairs)
unfolding pairs_of
members-last by key_text name gap text blank value k g h e buffer from after left =
    let left = IsLeft-as {m = key_text ++ (gap ++ (bytes.colon ∷ (text ++ (blank ++ right_brace ∷ after))))} (simp append_assoc) left in
    let key = key_stands-blank buffer from key_text name gap (text ++ (blank ++ right_brace ∷ after)) k g left in
    let at = from + length key_text + length gap + 1 in
    let whole : IsLeft buffer at (text ++ (blank ++ right_brace ∷ after)) =
    IsLeft-past (bytes.colon ∷ []) _
    (IsLeft-past gap _ (IsLeft-past key_text (gap ++ (bytes.colon ∷ (text ++ (blank ++ right_brace ∷ after)))) left)) in
    let rest = IsLeft-past text (blank ++ right_brace ∷ after) whole in
    let r = h buffer at (blank ++ right_brace ∷ after) whole (blank-ends_number blank (right_brace ∷ after) e refl) in
    let close = blank-structural buffer (at + length text) blank right_brace object_end after e object_ends rest in
    let last = mark_at object_end (at + length text + length blank) in
    let to : at + length text + length blank + 1 ≡ from + length (key_text ++ (gap ++ (bytes.colon ∷ (text ++ (blank ++ right_brace ∷ []))))) =
    omega (
      arith,
      length-append key_text (gap ++ (bytes.colon ∷ (text ++ (blank ++ right_brace ∷ [])))),
      length-append gap (bytes.colon ∷ (text ++ (blank ++ right_brace ∷ []))),
      length-append text (blank ++ right_brace ∷ []),
      length-append blank (right_brace ∷ []),
    ) in
    let spells : Spells (tokens_from buffer plain at) r.root (next last (tokens_from buffer plain (at + length text + length blank + 1))) =
    rw (← close) r.reads.spells in
    rw (← to) record {
      members = member key.key key.mark r.root no_members;
      last = last;
      spell = rw key.tokens (last_member _ _ key.key key.mark r.root last key.is_key key.is_mark spells refl);
      have_trees = ap₂ (λ n o. put_pair n o (Some no_pairs)) key.names r.reads.has_tree;
      begin = rw key.tokens (string-no_closing key.key.kind key.is_key);
      fit = λ f.
          let inside = r.fits (rw close (structural-fits by buffer last right_brace _ object_ends (λ k. cc) f)) in
          rw key.tokens (key-fits by buffer key.key key.mark _ key.is_key key.right key.is_mark inside);
    }

-- A member, with white space before its colon, and a comma and the others after it.
pub members-more : (by : Rules) (key_text name gap text others : List ℕ) (value : Tree) (values : Pairs) → IsOneString key_text name →
    AreSpaces gap → IsOneValue by text value → AreMembers by others values →
    AreMembers by (key_text ++ (gap ++ (bytes.colon ∷ (text ++ (bytes.comma ∷ others))))) (pair name value values)
unfolding pairs_of
members-more by key_text name gap text others value values k g h more buffer from after left =
    let left = IsLeft-as {m = key_text ++ (gap ++ (bytes.colon ∷ (text ++ (bytes.comma ∷ (others ++ after)))))} (simp append_assoc) left in
    let key = key_stands-blank buffer from key_text name gap (text ++ (bytes.comma ∷ (others ++ after))) k g left in
    let at = from + length key_text + length gap + 1 in
    let whole : IsLeft buffer at (text ++ (bytes.comma ∷ (others ++ after))) =
    IsLeft-past (bytes.colon ∷ []) _
    (IsLeft-past gap _ (IsLeft-past key_text (gap ++ (bytes.colon ∷ (text ++ (bytes.comma ∷ (others ++ after))))) left)) in
    let rest = IsLeft-past text (bytes.comma ∷ (others ++ after)) whole in
    let r = h buffer at (bytes.comma ∷ (others ++ after)) whole refl in
    let separator = mark_at comma (at + length text) in
    let divided = tokens_from-structural buffer (at + length text) bytes.comma comma (others ++ after) comma_stands rest in
    let m = more buffer (at + length text + 1) after (IsLeft-past (bytes.comma ∷ []) (others ++ after) rest) in
    let to : at + length text + 1 + length others ≡ from + length (key_text ++ (gap ++ (bytes.colon ∷ (text ++ (bytes.comma ∷ others))))) =
    omega (
      arith,
      length-append key_text (gap ++ (bytes.colon ∷ (text ++ (bytes.comma ∷ others)))),
      length-append gap (bytes.colon ∷ (text ++ (bytes.comma ∷ others))),
      length-append text (bytes.comma ∷ others),
    ) in
    let spells : Spells (tokens_from buffer plain at) r.root (next separator (tokens_from buffer plain (at + length text + 1))) =
    rw (← divided) r.reads.spells in
    rw (← to) record {
      members = member key.key key.mark r.root m.members;
      last = m.last;
      spell = rw key.tokens (member_and_comma _ _ _ key.key key.mark r.root m.members separator m.last key.is_key key.is_mark spells refl m.spell);
      have_trees =
          ap₂ (λ n o. put_pair n o (pairs_of buffer m.members)) key.names r.reads.has_tree
          ∙ ap (put_pair (Some name) (Some value)) m.have_trees;
      begin = rw key.tokens (string-no_closing key.key.kind key.is_key);
      fit = λ f.
          let inside = r.fits (rw divided (structural-fits by buffer separator bytes.comma _ comma_stands (λ k. m.begin) (m.fit f))) in
          rw key.tokens (key-fits by buffer key.key key.mark _ key.is_key key.right key.is_mark inside);
    }

-- A brace before them makes an object.
pub object-one_value : (by : Rules) (text : List ℕ) (values : Pairs) → AreMembers by text values →
    IsOneValue by (left_brace ∷ text) (pairs values)
unfolding tree_of
object-one_value by text values h buffer from after left ends =
    let open_ = tokens_from-structural buffer from left_brace object_start (text ++ after) object_starts left in
    let m = h buffer (from + 1) after (IsLeft-past (left_brace ∷ []) (text ++ after) left) in
    let to : from + 1 + length text ≡ from + length (left_brace ∷ text) = omega arith in
    let first = mark_at object_start from in
    let spells : Spells (tokens_from buffer plain from) (object first m.last m.members) (tokens_from buffer plain (from + 1 + length text)) =
    rw open_ (braces first m.last _ _ m.members refl m.spell) in
    rw (← to) record {
      root = object first m.last m.members;
      reads = record { spells = spells; has_tree = ap (option_map pairs) m.have_trees };
      fits = λ f. rw open_ (structural-fits by buffer first left_brace _ object_starts (λ k. cc) (m.fit f));
    }

-- White space between braces is an empty object.
pub empty_object-one_value : (by : Rules) (blank : List ℕ) → AreSpaces blank →
    IsOneValue by (left_brace ∷ (blank ++ right_brace ∷ [])) (pairs no_pairs)
unfolding tree_of
empty_object-one_value by blank e buffer from after left ends =
    let whole = IsLeft-as {m = left_brace ∷ (blank ++ right_brace ∷ after)} (simp append_assoc) left in
    let open_ = tokens_from-structural buffer from left_brace object_start (blank ++ right_brace ∷ after) object_starts whole in
    let rest = IsLeft-past (left_brace ∷ []) (blank ++ right_brace ∷ after) whole in
    let close = blank-structural buffer (from + 1) blank right_brace object_end after e object_ends rest in
    let first = mark_at object_start from in
    let last = mark_at object_end (from + 1 + length blank) in
    let to : from + 1 + length blank + 1 ≡ from + length (left_brace ∷ (blank ++ right_brace ∷ [])) =
    omega (arith, length-append blank (right_brace ∷ [])) in
    let spells : Spells (tokens_from buffer plain from) (object first last no_members) (tokens_from buffer plain (from + 1 + length blank + 1)) =
    rw (open_, close) (braces first last _ _ no_members refl (ended_members last _ refl)) in
    rw (← to) record {
      root = object first last no_members;
      reads = record { spells = spells; has_tree = refl };
      fits = λ f.
          let behind = structural-fits by buffer last right_brace _ object_ends (λ k. cc) f in
          rw (open_, close) (structural-fits by buffer first left_brace _ object_starts (λ k. cc) behind);
    }
