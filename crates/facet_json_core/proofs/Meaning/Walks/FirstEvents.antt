-- The first event of a node's walk, and what is read from that event alone.
use Rattle.std.specs.Prelude.{ℕ, List, slice_get, slice_range, length}
use Rattle.std.specs.Option.{option_map}
use Rattle.std.proofs.Common.{◌≡◌, inr, ℕ, suc, true, false, List, ◌∷◌, ◌++◌, Option, None, Some, refl, sym, ap, ◌∙◌, arith}
use Rattle.facet_format.specs.Complaint.{Refusal}
use Rattle.facet_format.specs.Event.{Event, EventKind, Passed, array, object, sequence_start, struct_start}
use Rattle.facet_format.specs.Event as event
use Rattle.facet_format.specs.Cursor.{Cursor, at_spot, unpeeked}
use Rattle.facet_format.specs.Part.{Source}
use Rattle.facet_format.specs.NumberValue.{Number, number}
use Rattle.facet_format.specs.NumberValue as numbers
use Rattle.facet_json_token.specs.Decoded.{decoded}
use Rattle.facet_json_token.specs.Token.{Kind, Token}
use Rattle.facet_json_token.specs.Token as token
use Rattle.facet_json_grammar.specs.Node.{Node, scalar}
use Rattle.facet_json_grammar.specs.Node as node
use Rattle.facet_json_grammar.specs.Tree.{Tree}
use Rattle.facet_json_grammar.specs.Tree as trees
use Rattle.facet_json_grammar.specs.Meaning.{tree_of, meaning_of, tree_of_number}
use Rattle.facet_json_grammar.specs.Walk.{walk, event_at, scalar_event, scalar_of}
use Rattle.facet_json_grammar.specs.Now.{Now}
use Rattle.facet_json_core.specs.Meaning.Nodes.{StandsBefore, StandsAfter}
use Rattle.facet_json_core.specs.Meaning.Passing.{WalksPast}
use Rattle.facet_json_core.specs.Meaning.Reading.{IsRead, IsUnread}
use Rattle.facet_json_core.specs.Meaning.Optional.{is_null_node, is_null_token, is_null_event}
use Rattle.facet_json_core.proofs.Meaning.WalkPlaces.{drop-get}

abbrev pub first_event : List ℕ → Node → Passed
first_event buffer (scalar t) = scalar_event buffer t
first_event buffer (node.array first last nodes) = event_at (sequence_start array) first
first_event buffer (node.object first last inside) = event_at (struct_start object) first

pub walk-begins : (buffer : List ℕ) (n : Node) (others : List Passed) →
    (rest : List Passed) × (walk buffer n ++ others ≡ first_event buffer n ∷ rest)
unfolding walk
walk-begins buffer (scalar t) others = (others, refl)
walk-begins buffer (node.array first last nodes) others = (_, refl)
walk-begins buffer (node.object first last inside) others = (_, refl)

-- Before a node, the node's first event comes.
pub first-stands : (now : Now) (w : Source) (c : Cursor ℕ) (n : Node) → StandsBefore now w c n →
    slice_get w.events c.spot.place ≡ Some (first_event w.bytes n)
first-stands now w c n before =
    let begins = walk-begins w.bytes n before.others in
    drop-get w.events c.spot.place (first_event w.bytes n) begins.0 (before.comes ∙ begins.1)

-- An event that is passed before a node is the node's first.
pub first-passed : (old new : Now) (e : Event) (w : Source) (c : Cursor ℕ) (n : Node) → WalksPast old e new → StandsBefore old w c n →
    (first_event w.bytes n).event ≡ e
first-passed old new e w c n walks before =
    let passed = walks w c before.stands before.free in
    let both : Some (first_event w.bytes n) ≡ Some passed.passed = sym (first-stands old w c n before) ∙ passed.at_place in
    let same : first_event w.bytes n ≡ passed.passed = cc in
    ap (λ (p : Passed). p.event) same ∙ passed.same

-- After its one event, the parser stands after the node.
pub after-one : (old new : Now) (e : Event) (w : Source) (c : Cursor ℕ) (n : Node) → WalksPast old e new → StandsBefore old w c n →
    length (walk w.bytes n) ≡ 1 → StandsAfter new w c n
after-one old new e w c n walks before one = record {
  cursor = at_spot c (unpeeked (suc c.spot.place));
  stands = (walks w c before.stands before.free).stands;
  free = before.free;
  there = ap unpeeked (omega (arith, one));
  kept = λ point spot e. e;
}

-- ---- what is read from the first event alone

module _ {V : Type 0} (takes : EventKind → Option V) (reading : List ℕ → Node → Option V)
    (first : (buffer : List ℕ) (n : Node) → takes (first_event buffer n).event.kind ≡ reading buffer n)
    (one : (buffer : List ℕ) (n : Node) (v : V) → reading buffer n ≡ Some v → length (walk buffer n) ≡ 1) where
  taken-first : (old new : Now) (e : Event) (w : Source) (c : Cursor ℕ) (n : Node) → WalksPast old e new → StandsBefore old w c n →
      reading w.bytes n ≡ takes e.kind
  taken-first old new e w c n walks before =
      sym (first w.bytes n) ∙ ap (λ (x : Event). takes x.kind) (first-passed old new e w c n walks before)

  pub first-read : (old new : Now) (e : Event) (v : V) → WalksPast old e new → takes e.kind ≡ Some v → IsRead reading old v new
  first-read old new e v walks is w c n before =
      let reads = taken-first old new e w c n walks before ∙ is in
      (reads, after-one old new e w c n walks before (one w.bytes n v reads))

  pub first-unread : (old new : Now) (e : Event) (r : Refusal) → WalksPast old e new → takes e.kind ≡ None → IsUnread reading old r
  first-unread old new e r walks is w c n before = inr (taken-first old new e w c n walks before ∙ is)

-- ---- null

no-null-text : (o : Option (List ℕ)) (kind : Kind) (t : Tree) → option_map trees.text o ≡ Some t →
    is_null_event (event.scalar (scalar_of kind (option_map trees.text o))) ≡ false
no-null-text None kind t e = cc
no-null-text (Some bytes) kind t e = refl

no-null-number : (o : Option Number) (kind : Kind) (t : Tree) → option_map tree_of_number o ≡ Some t →
    is_null_event (event.scalar (scalar_of kind (option_map tree_of_number o))) ≡ false
no-null-number None kind t e = cc
no-null-number (Some (numbers.u64 n)) kind t e = refl
no-null-number (Some (numbers.u128 n)) kind t e = refl
no-null-number (Some (numbers.i64 n)) kind t e = refl
no-null-number (Some (numbers.i128 n)) kind t e = refl
no-null-number (Some (numbers.decimal digits)) kind t e = refl

null-token : (buffer : List ℕ) (kind : Kind) (t : Tree) → meaning_of buffer kind ≡ Some t →
    is_null_event (event.scalar (scalar_of kind (meaning_of buffer kind))) ≡ is_null_token kind
null-token buffer token.null t e = refl
null-token buffer token.true_literal t e = refl
null-token buffer token.false_literal t e = refl
null-token buffer (token.string start finish has_escapes) t e =
    no-null-text (decoded (slice_range buffer start finish)) (token.string start finish has_escapes) t e
null-token buffer (token.number start finish hint) t e =
    no-null-number (number (slice_range buffer start finish) hint) (token.number start finish hint) t e
null-token buffer token.object_start t e = cc
null-token buffer token.object_end t e = cc
null-token buffer token.array_start t e = cc
null-token buffer token.array_end t e = cc
null-token buffer token.colon t e = cc
null-token buffer token.comma t e = cc

-- Where all tokens have a meaning, null comes first exactly where the node is null.
pub null-first : (buffer : List ℕ) (n : Node) (t : Tree) → tree_of buffer n ≡ Some t →
    is_null_event (first_event buffer n).event.kind ≡ is_null_node n
unfolding tree_of
null-first buffer (scalar u) t e = null-token buffer u.kind t e
null-first buffer (node.array first last nodes) t e = refl
null-first buffer (node.object first last inside) t e = refl

-- Null is one event.
pub null-one : (buffer : List ℕ) (n : Node) → is_null_node n ≡ true → length (walk buffer n) ≡ 1
unfolding walk
null-one buffer (scalar u) e = refl
null-one buffer (node.array first last nodes) e = cc
null-one buffer (node.object first last inside) e = cc
