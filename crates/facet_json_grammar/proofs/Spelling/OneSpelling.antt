-- Tokens spell one value at most.
use Rattle.std.specs.Prelude.{ℕ, List}
use Rattle.std.proofs.Common.{◌≡◌, true, false, refl, sym, ap}
use Rattle.facet_json_token.specs.Token.{Kind, Token, object_start, array_start, array_end}
use Rattle.facet_json_token.specs.Tokens.{Tokens, next}
use Rattle.facet_json_grammar.specs.Node.{Node, Nodes, Members, is_scalar, Spells, one_token, brackets, braces, SpellsItems, closed, item_and_comma, last_item, SpellsMembers, ended_members, member_and_comma, last_member}
use Rattle.facet_json_grammar.specs.Tree.{Tree}
use Rattle.facet_json_grammar.specs.Document.{Reads}
use Rattle.facet_json_grammar.specs.Place.{after_colon, goes_on}
use Rattle.facet_json_grammar.specs.Laws.{OneSpelling, OneDocument}

-- a token that begins a value, before others
pub record Starts (ts : Tokens) : Type 0 where
  pub first : Token
  pub others : Tokens
  pub here : ts ≡ next first others
  pub begins : goes_on after_colon first.kind ≡ true

-- A scalar is a value.
scalar_begins : (kind : Kind) → is_scalar kind ≡ true → goes_on after_colon kind ≡ true
scalar_begins object_start e = refl
scalar_begins array_start e = refl
scalar_begins _ e = e

-- The first token of a spelling begins a value.
pub Spells-starts : {ts r : Tokens} {a : Node} → Spells ts a r → Starts ts
Spells-starts (one_token t rest e) = record { first = t; others = rest; here = refl; begins = scalar_begins t.kind e }
Spells-starts (brackets first last inner rest nodes e h) =
    record { first = first; others = inner; here = refl; begins = ap (goes_on after_colon) e }
Spells-starts (braces first last inner rest ms e h) =
    record { first = first; others = inner; here = refl; begins = ap (goes_on after_colon) e }

-- No token that begins a value is one of another kind.
not_first : {ts : Tokens} → Starts ts → (t : Token) (rest : Tokens) (kind : Kind) → t.kind ≡ kind →
    goes_on after_colon kind ≡ false → ts ≡ next t rest → ⊥
not_first s t rest kind e other same = let here = s.here in let begins = s.begins in cc

mutual
  -- Two spellings by the same tokens are of one value, and one rest follows them.
  node_once : {ts us r s : Tokens} {a b : Node} → Spells ts a r → Spells us b s → ts ≡ us → (a ≡ b) × (r ≡ s)
  node_once (one_token t rest e) (one_token u others f) same = (cc, cc)
  node_once (one_token t rest e) (brackets first last inner others nodes f h) same = cc
  node_once (one_token t rest e) (braces first last inner others ms f h) same = cc
  node_once (brackets first last inner others nodes f h) (one_token t rest e) same = cc
  node_once (brackets first last inner rest nodes e g) (brackets second end within others items f h) same =
      let both = items_once g h cc in
      (cc, both.2)
  node_once (brackets first last inner rest nodes e g) (braces second end within others ms f h) same = cc
  node_once (braces first last inner others ms f h) (one_token t rest e) same = cc
  node_once (braces first last inner rest ms e g) (brackets second end within others nodes f h) same = cc
  node_once (braces first last inner rest ms e g) (braces second end within others pairs f h) same =
      let both = members_once g h cc in
      (cc, both.2)

  items_once : {ts us r s : Tokens} {a b : Nodes} {x y : Token} → SpellsItems ts a x r → SpellsItems us b y s →
      ts ≡ us → (a ≡ b) × (x ≡ y) × (r ≡ s)
  items_once (closed last rest e) (closed end others f) same = (cc, cc, cc)
  items_once (closed last rest e) (item_and_comma us after others node nodes separator end g f h) same =
      absurd (not_first (Spells-starts g) last rest array_end e refl (sym same))
  items_once (closed last rest e) (last_item us others node end g f) same =
      absurd (not_first (Spells-starts g) last rest array_end e refl (sym same))
  items_once (item_and_comma us after others node nodes separator end g f h) (closed last rest e) same =
      absurd (not_first (Spells-starts g) last rest array_end e refl same)
  items_once (item_and_comma ts after rest node nodes separator last g e k)
      (item_and_comma us behind others value items mark end h f l) same =
      let here = node_once g h same in
      let both = items_once k l cc in
      (cc, both.1, both.2)
  items_once (item_and_comma ts after rest node nodes separator last g e k) (last_item us others value end h f) same =
      let here = node_once g h same in
      cc
  items_once (last_item us others node end g f) (closed last rest e) same =
      absurd (not_first (Spells-starts g) last rest array_end e refl same)
  items_once (last_item ts rest node last g e) (item_and_comma us behind others value items mark end h f l) same =
      let here = node_once g h same in
      cc
  items_once (last_item ts rest node last g e) (last_item us others value end h f) same =
      let here = node_once g h same in
      (cc, cc, cc)

  members_once : {ts us r s : Tokens} {a b : Members} {x y : Token} → SpellsMembers ts a x r →
      SpellsMembers us b y s → ts ≡ us → (a ≡ b) × (x ≡ y) × (r ≡ s)
  members_once (ended_members last rest e) (ended_members end others f) same = (cc, cc, cc)
  members_once (ended_members last rest e) (member_and_comma us after others key mark node ms separator end i c g f h)
      same =
      cc
  members_once (ended_members last rest e) (last_member us others key mark node end i c g f) same = cc
  members_once (member_and_comma us after others key mark node ms separator end i c g f h) (ended_members last rest e)
      same =
      cc
  members_once (member_and_comma ts after rest key mark node ms separator last i c g e k)
      (member_and_comma us behind others name dots value pairs divider end j d h f l) same =
      let here = node_once g h cc in
      let both = members_once k l cc in
      (cc, both.1, both.2)
  members_once (member_and_comma ts after rest key mark node ms separator last i c g e k)
      (last_member us others name dots value end j d h f) same =
      let here = node_once g h cc in
      cc
  members_once (last_member us others key mark node end i c g f) (ended_members last rest e) same = cc
  members_once (last_member ts rest key mark node last i c g e)
      (member_and_comma us behind others name dots value pairs divider end j d h f l) same =
      let here = node_once g h cc in
      cc
  members_once (last_member ts rest key mark node last i c g e) (last_member us others name dots value end j d h f)
      same =
      let here = node_once g h cc in
      (cc, cc, cc)

-- No spelling of a value is a proper prefix of another's, and tokens spell one value at most.
pub one_spelling : OneSpelling
one_spelling ts r s a b p q = node_once p q refl

-- Tokens are read as one tree at most.
one_reading : (buffer : List ℕ) (ts r s : Tokens) (a b : Node) (v w : Tree) → Reads buffer ts a v r → Reads buffer ts b w s →
    (a ≡ b) × (v ≡ w)
one_reading buffer ts r s a b v w p q =
    let nodes = (one_spelling ts r s a b p.spells q.spells).0 in
    let first = p.has_tree in
    let second = q.has_tree in
    (nodes, cc)

-- An input has one document at most.
pub one_document : OneDocument
one_document buffer mode a b v w p q = one_reading _ _ _ _ a b v w p.reads q.reads
