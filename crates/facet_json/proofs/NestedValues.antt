-- The first bracket beyond a limit in a value's tokens is that of the value.
use Rattle.std.proofs.Common.{◌≡◌, ℕ, zero, suc, true, List, Option, refl, sym, ap, ◌∙◌}
use Rattle.std.specs.Option.{option_or}
use Rattle.facet_format.specs.Span.{Span}
use Rattle.facet_json_token.specs.Token.{Kind, Token, object_start, object_end, array_start, array_end, colon, comma, null, true_literal, false_literal, string, number}
use Rattle.facet_json_token.specs.Tokens.{Tokens, next}
use Rattle.facet_json_grammar.specs.Node.{Node, Nodes, Members, is_scalar, is_string, Spells, SpellsItems, SpellsMembers}
use Rattle.facet_json_token.specs.Gap.{Mode}
use Rattle.facet_json_token.specs.TokenList.{tokens}
use Rattle.facet_json_grammar.specs.Document.{IsDocument}
use Rattle.facet_json_grammar.specs.Tree.{Tree}
use Rattle.facet_json_grammar.proofs.Runs.SpelledRuns.{string-is_scalar}
use Rattle.facet_json_tree.specs.Depth.{first_beyond, first_beyond_items, first_beyond_members}
use Rattle.facet_json_tree.proofs.BeyondOnWalk.{or-none, or-assoc}
use Rattle.facet_json.specs.Nesting.{neither, bracket_of, BeyondInDocument}
use Rattle.facet_json.specs.Inner.Nested.{inside, beyond_at, tokens_beyond}
use Rattle.facet_json.proofs.BeyondCounted.{beyond-counted, counted-beyond}

-- What is first beyond after the bracket that closes the last of these.
abbrev pub after_close : Tokens → ℕ → ℕ → Option Span
after_close ts around room = inside (λ o. tokens_beyond ts o (suc room)) around

-- ---- one token

scalar-neither : (kind : Kind) → is_scalar kind ≡ true → bracket_of kind ≡ neither
scalar-neither null is = refl
scalar-neither true_literal is = refl
scalar-neither false_literal is = refl
scalar-neither (string start finish has_escapes) is = refl
scalar-neither (number start finish hint) is = refl
scalar-neither object_start is = cc
scalar-neither object_end is = cc
scalar-neither array_start is = cc
scalar-neither array_end is = cc
scalar-neither colon is = refl
scalar-neither comma is = refl

string-neither : (kind : Kind) → is_string kind ≡ true → bracket_of kind ≡ neither
string-neither kind is = scalar-neither kind (string-is_scalar kind is)

module _ (t : Token) (ts : Tokens) where
  -- A token, and then the others.
  pub at-first : (around room : ℕ) →
      tokens_beyond (next t ts) around room ≡ beyond_at (bracket_of t.kind) t.span (tokens_beyond ts) around room
  unfolding tokens_beyond
  at-first around room = refl

  -- The same of a token of a kind.
  at-kind : (kind : Kind) (around room : ℕ) → t.kind ≡ kind →
      tokens_beyond (next t ts) around room ≡ beyond_at (bracket_of kind) t.span (tokens_beyond ts) around room
  at-kind kind around room is = at-first around room ∙ ap (λ k. beyond_at (bracket_of k) t.span (tokens_beyond ts) around room) is

  past-neither : (around room : ℕ) → bracket_of t.kind ≡ neither →
      tokens_beyond (next t ts) around room ≡ inside (λ o. tokens_beyond ts o room) around
  past-neither around room is = at-first around room ∙ ap (λ b. beyond_at b t.span (tokens_beyond ts) around room) is

-- ---- values

mutual
  unfolding first_beyond

  -- Within brackets it is the first beyond in a value, or what is so in the tokens after it.
  value-beyond : (ts : Tokens) (n : Node) (rest : Tokens) (around room : ℕ) → Spells ts n rest →
      tokens_beyond ts (suc around) room ≡ option_or (first_beyond room n) (tokens_beyond rest (suc around) room)
  value-beyond _ _ _ around room (Spells.one_token t rest is) = past-neither t rest (suc around) room (scalar-neither t.kind is)
  value-beyond _ _ _ around zero (Spells.brackets first last inner rest nodes is items) = at-kind first inner array_start (suc around) zero is
  value-beyond _ _ _ around (suc room) (Spells.brackets first last inner rest nodes is items) =
      at-kind first inner array_start (suc around) (suc room) is ∙ items-beyond inner nodes last rest (suc around) room items
  value-beyond _ _ _ around zero (Spells.braces first last inner rest held is all) = at-kind first inner object_start (suc around) zero is
  value-beyond _ _ _ around (suc room) (Spells.braces first last inner rest held is all) =
      at-kind first inner object_start (suc around) (suc room) is ∙ members-beyond inner held last rest (suc around) room all

  items-beyond : (ts : Tokens) (nodes : Nodes) (last : Token) (rest : Tokens) (around room : ℕ) → SpellsItems ts nodes last rest →
      tokens_beyond ts (suc around) room ≡ option_or (first_beyond_items room nodes) (after_close rest around room)
  items-beyond _ _ _ _ around room (SpellsItems.closed last rest is) = at-kind last rest array_end (suc around) room is
  items-beyond _ _ _ _ around room (SpellsItems.item_and_comma ts others rest n nodes separator last first is behind) =
      value-beyond ts n (next separator others) around room first
      ∙ ap (option_or (first_beyond room n)) (at-kind separator others comma (suc around) room is ∙ items-beyond others nodes last rest around room behind)
      ∙ sym (or-assoc (first_beyond room n) (first_beyond_items room nodes) (after_close rest around room))
  items-beyond _ _ _ _ around room (SpellsItems.last_item ts rest n last first is) =
      value-beyond ts n (next last rest) around room first
      ∙ ap (option_or (first_beyond room n)) (at-kind last rest array_end (suc around) room is)
      ∙ ap (λ o. option_or o (after_close rest around room)) (sym (or-none (first_beyond room n)))

  members-beyond : (ts : Tokens) (members : Members) (last : Token) (rest : Tokens) (around room : ℕ) → SpellsMembers ts members last rest →
      tokens_beyond ts (suc around) room ≡ option_or (first_beyond_members room members) (after_close rest around room)
  members-beyond _ _ _ _ around room (SpellsMembers.ended_members last rest is) = at-kind last rest object_end (suc around) room is
  members-beyond _ _ _ _ around room (SpellsMembers.member_and_comma ts others rest key mark n members separator last is_key is_mark first is behind) =
      past-neither key (next mark ts) (suc around) room (string-neither key.kind is_key) ∙ at-kind mark ts colon (suc around) room is_mark
      ∙ value-beyond ts n (next separator others) around room first
      ∙ ap (option_or (first_beyond room n)) (at-kind separator others comma (suc around) room is ∙ members-beyond others members last rest around room behind)
      ∙ sym (or-assoc (first_beyond room n) (first_beyond_members room members) (after_close rest around room))
  members-beyond _ _ _ _ around room (SpellsMembers.last_member ts rest key mark n last is_key is_mark first is) =
      past-neither key (next mark ts) (suc around) room (string-neither key.kind is_key) ∙ at-kind mark ts colon (suc around) room is_mark
      ∙ value-beyond ts n (next last rest) around room first
      ∙ ap (option_or (first_beyond room n)) (at-kind last rest object_end (suc around) room is)
      ∙ ap (λ o. option_or o (after_close rest around room)) (sym (or-none (first_beyond room n)))

-- ---- a document

module _ (rest : Tokens) where
  root-beyond : (ts : Tokens) (n : Node) (limit : ℕ) → Spells ts n rest → tokens_beyond ts 0 limit ≡ first_beyond limit n
  unfolding first_beyond
  root-beyond _ _ limit (Spells.one_token t _ is) = past-neither t rest 0 limit (scalar-neither t.kind is)
  root-beyond _ _ zero (Spells.brackets first last inner _ nodes is items) = at-kind first inner array_start 0 zero is
  root-beyond _ _ (suc limit) (Spells.brackets first last inner _ nodes is items) =
      at-kind first inner array_start 0 (suc limit) is ∙ items-beyond inner nodes last rest 0 limit items ∙ or-none (first_beyond_items limit nodes)
  root-beyond _ _ zero (Spells.braces first last inner _ held is all) = at-kind first inner object_start 0 zero is
  root-beyond _ _ (suc limit) (Spells.braces first last inner _ held is all) =
      at-kind first inner object_start 0 (suc limit) is ∙ members-beyond inner held last rest 0 limit all ∙ or-none (first_beyond_members limit held)

document-beyond : (input : List ℕ) (mode : Mode) (root : Node) (value : Tree) (limit : ℕ) → IsDocument input mode root value →
    tokens_beyond (tokens input mode) 0 limit ≡ first_beyond limit root
document-beyond input mode root value limit d = root-beyond d.rest _ root limit d.reads.spells

pub beyond-in_document : BeyondInDocument
beyond-in_document input mode root value limit span d =
    let same = document-beyond input mode root value limit d in
    (λ e. beyond-counted (tokens input mode) limit span (same ∙ e), λ b. sym same ∙ counted-beyond (tokens input mode) limit span b)
