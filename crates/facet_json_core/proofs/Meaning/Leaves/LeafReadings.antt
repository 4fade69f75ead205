-- Types that have their value from a scalar alone: how they are read from one event.
use Rattle.std.specs.Prelude.{ℕ, List, length}
use Rattle.std.specs.Option.{option_and_then}
use Rattle.std.proofs.Common.{◌≡◌, ◌⊎◌, inl, inr, ℕ, suc, List, ◌∷◌, ◌++◌, Option, None, Some, refl, sym, ap, ◌∙◌, subst, arith}
use Rattle.facet_format.specs.Complaint.{Refusal, no_memory}
use Rattle.facet_format.specs.Event.{Event, EventKind, Scalar, Passed, array, object, sequence_start, sequence_end, struct_start, struct_end, field_key}
use Rattle.facet_format.specs.Event as event
use Rattle.facet_format.specs.Cursor.{Cursor, at_spot, unpeeked}
use Rattle.facet_format.specs.Part.{Source}
use Rattle.facet_json_token.specs.Tokens.{Tokens}
use Rattle.facet_json_grammar.specs.Node.{Node, scalar}
use Rattle.facet_json_grammar.specs.Node as node
use Rattle.facet_json_grammar.specs.Tree.{Tree}
use Rattle.facet_json_grammar.specs.Meaning.{tree_of}
use Rattle.facet_json_grammar.specs.Place.{Place}
use Rattle.facet_json_grammar.specs.Walk.{walk, event_at, scalar_event}
use Rattle.facet_json_grammar.specs.Future.{Future, gives, finished}
use Rattle.facet_json_grammar.specs.Now.{Now, future_of}
use Rattle.facet_json_grammar.specs.Next.{PassesNext}
use Rattle.facet_json_core.specs.Told.{tree_of_scalar, Tells, a_scalar, a_list, an_object, Breaks, in_list, in_object}
use Rattle.facet_json_core.specs.Reading.{IsValueRead}
use Rattle.facet_json_core.proofs.WalkTells.{walk-tells}
use Rattle.facet_json_core.specs.Meaning.Nodes.{StandsBefore}
use Rattle.facet_json_core.specs.Meaning.Passing.{WalksPast, LacksAlone}
use Rattle.facet_json_core.specs.Meaning.Reading.{IsRead, IsUnread, HasDocument, EndsStrictly}
use Rattle.facet_json_core.specs.Meaning.Readings.{leaf, taken}
use Rattle.facet_json_core.proofs.Meaning.OfTrees.TreeOnWalk.{document_of_told, strict_of_told}
use Rattle.facet_json_core.proofs.Meaning.WalkPlaces.{drop-get}

-- ---- the first event of a node

-- It is there.
pub record HasFirst (events : List Passed) : Type 0 where
  pub first : Passed
  pub others : List Passed
  pub are : events ≡ first ∷ others

pub walk-first : (buffer : List ℕ) (n : Node) (others : List Passed) → HasFirst (walk buffer n ++ others)
unfolding walk
walk-first buffer (scalar t) others = record { first = scalar_event buffer t; others = others; are = refl }
walk-first buffer (node.array first last nodes) others =
    record { first = event_at (sequence_start array) first; others = _; are = refl }
walk-first buffer (node.object first last inside) others =
    record { first = event_at (struct_start object) first; others = _; are = refl }

-- ---- one event

told-scalar : (p : Passed) (f rest : Future) (t : Tree) (value : Scalar) → p.event.kind ≡ event.scalar value → Tells (gives p f) t rest →
    tree_of_scalar value ≡ Some t
told-scalar p f rest t value k (a_scalar _ _ other _ q s) =
    let same : value ≡ other = cc in ap tree_of_scalar same ∙ s
told-scalar p f rest _ value k (a_list _ _ _ kind items q h) = cc
told-scalar p f rest _ value k (an_object _ _ _ kind members q h) = cc

module _ {V : Type 0} (value : Tree → Option V) where
  -- What is taken from the first event of a node is the node's reading.
  pub leaf-taken : (buffer : List ℕ) (n : Node) (t : Tree) (p : Passed) (others rest : List Passed) → tree_of buffer n ≡ Some t →
      walk buffer n ++ others ≡ p ∷ rest → taken value p.event.kind ≡ leaf value buffer n
  unfolding walk tree_of
  leaf-taken buffer (scalar token) t p others rest meant e =
      let same : scalar_event buffer token ≡ p = cc in
      let told = told-scalar (scalar_event buffer token) finished finished t _ refl (walk-tells buffer (scalar token) t finished meant) in
      subst (λ (x : Passed). taken value x.event.kind ≡ leaf value buffer (scalar token)) same
      (ap (option_and_then value) told ∙ sym (ap (option_and_then value) meant))
  leaf-taken buffer (node.array first last nodes) t p others rest meant e =
      let same : event_at (sequence_start array) first ≡ p = cc in
      subst (λ (x : Passed). taken value x.event.kind ≡ None) same refl
  leaf-taken buffer (node.object first last inside) t p others rest meant e =
      let same : event_at (struct_start object) first ≡ p = cc in
      subst (λ (x : Passed). taken value x.event.kind ≡ None) same refl

  -- A node with a reading is one event.
  leaf-one : (buffer : List ℕ) (n : Node) (v : V) → leaf value buffer n ≡ Some v → length (walk buffer n) ≡ 1
  unfolding walk
  leaf-one buffer (scalar token) v e = refl
  leaf-one buffer (node.array first last nodes) v e = cc
  leaf-one buffer (node.object first last inside) v e = cc

  -- What is taken from the event that the parser passed is the reading of the node that stood there.
  taken-there : (old new : Now) (e : Event) (w : Source) (c : Cursor ℕ) (n : Node) → WalksPast old e new → StandsBefore old w c n →
      taken value e.kind ≡ leaf value w.bytes n
  taken-there old new e w c n walks before =
      let first = walk-first w.bytes n before.others in
      let there = drop-get w.events c.spot.place first.first first.others (before.comes ∙ first.are) in
      let passed = walks w c before.stands before.free in
      let both : Some first.first ≡ Some passed.passed = sym there ∙ passed.at_place in
      let same : first.first ≡ passed.passed = cc in
      let event_is : first.first.event ≡ e = ap (λ (x : Passed). x.event) same ∙ passed.same in
      ap (λ (x : Event). taken value x.kind) (sym event_is)
      ∙ leaf-taken w.bytes n before.value first.first before.others first.others before.meant first.are

  pub leaf-read : (old new : Now) (e : Event) (v : V) → WalksPast old e new → taken value e.kind ≡ Some v → IsRead (leaf value) old v new
  leaf-read old new e v walks is w c n before =
      let reads = sym (taken-there old new e w c n walks before) ∙ is in
      let one = leaf-one w.bytes n v reads in (
        reads,
        record {
          cursor = at_spot c (unpeeked (suc c.spot.place));
          stands = (walks w c before.stands before.free).stands;
          free = before.free;
          there = ap unpeeked (omega (arith, one));
          kept = λ point spot e. e;
        },
      )

  pub leaf-unread : (old new : Now) (e : Event) (r : Refusal) → WalksPast old e new → taken value e.kind ≡ None → IsUnread (leaf value) old r
  leaf-unread old new e r walks is w c n before = inr (sym (taken-there old new e w c n walks before) ∙ is)

  -- Where it is refused for lack of memory, or nothing is taken.
  pub leaf-refused : (old new : Now) (e : Event) (r : Refusal) → WalksPast old e new → (r ≡ no_memory) ⊎ (taken value e.kind ≡ None) →
      IsUnread (leaf value) old r
  leaf-refused old new e r walks (inl lacks) w c n before = inl (ap (λ (x : Refusal). x.complaint) lacks)
  leaf-refused old new e r walks (inr is) w c n before = leaf-unread old new e r walks is w c n before

  -- ---- a document

  scalar-whole : (place : Place) (rest : Tokens) (p : Passed) (f : Future) (s : Scalar) → p.event.kind ≡ event.scalar s →
      Breaks place rest (gives p f) → ⊥
  scalar-whole place rest p f s k (in_list _ _ kind q h) = cc
  scalar-whole place rest p f s k (in_object _ _ kind q h) = cc

  scalar-read : (p : Passed) (f : Future) (s : Scalar) (t : Tree) → p.event.kind ≡ event.scalar s → tree_of_scalar s ≡ Some t →
      IsValueRead (gives p f) t f
  scalar-read p f s t k is = record {
    told = λ u rest h. let both = scalar-told u rest h in (both.0, both.1);
    whole = λ place rest b. scalar-whole place rest p f s k b;
  }
    where
      scalar-told : (u : Tree) (rest : Future) → Tells (gives p f) u rest → (t ≡ u) × (f ≡ rest)
      scalar-told u rest (a_scalar _ _ other _ q h) =
          let same : other ≡ s = cc in
          let both : Some t ≡ Some u = sym is ∙ sym (ap tree_of_scalar same) ∙ h in
          (cc, refl)
      scalar-told _ rest (a_list _ _ _ kind items q h) = cc
      scalar-told _ rest (an_object _ _ _ kind members q h) = cc

  -- A scalar has a tree where something is taken from its event.
  pub record FromScalar (kind : EventKind) : Type 0 where
    pub held : Scalar
    pub tree : Tree
    pub is : kind ≡ event.scalar held
    pub has_tree : tree_of_scalar held ≡ Some tree

  has-tree : (s : Scalar) (o : Option Tree) (v : V) → tree_of_scalar s ≡ o → option_and_then value o ≡ Some v → FromScalar (event.scalar s)
  has-tree s None v e h = cc
  has-tree s (Some t) v e h = record { held = s; tree = t; is = refl; has_tree = e }

  taken-scalar : (kind : EventKind) (v : V) → taken value kind ≡ Some v → FromScalar kind
  taken-scalar (event.scalar s) v e = has-tree s (tree_of_scalar s) v refl e
  taken-scalar (struct_start kind) v e = cc
  taken-scalar struct_end v e = cc
  taken-scalar (sequence_start kind) v e = cc
  taken-scalar sequence_end v e = cc
  taken-scalar (field_key name) v e = cc

  -- An event of which something is taken tells a tree.
  leaf-told : (old new : Now) (e : Event) (v : V) → PassesNext old e new → taken value e.kind ≡ Some v →
      (t : Tree) × IsValueRead (future_of old) t (future_of new)
  leaf-told old new e v next is =
      let s = taken-scalar e.kind v is in
      let p : Passed = record { event = e; last = next.last } in
      let read = scalar-read p (future_of new) s.held s.tree s.is s.has_tree in
      (s.tree, subst (λ f. IsValueRead f s.tree (future_of new)) (sym next.comes) read)

  pub leaf-document : (old new : Now) (e : Event) (v : V) → PassesNext old e new → taken value e.kind ≡ Some v → HasDocument old
  leaf-document old new e v next is = let r = leaf-told old new e v next is in document_of_told old r.0 (future_of new) r.1

  pub leaf-strict : (old new : Now) (e : Event) (v : V) → PassesNext old e new → taken value e.kind ≡ Some v → EndsStrictly old new
  leaf-strict old new e v next is = let r = leaf-told old new e v next is in strict_of_told old new r.0 r.1

-- ---- no event

-- Where the next event is refused, a type is unread.
pub none-unread : {V : Type 0} (reading : List ℕ → Node → Option V) (old : Now) (r : Refusal) → LacksAlone old r → IsUnread reading old r
none-unread reading old r lacks w c n before =
    let first = walk-first w.bytes n before.others in
    inl (lacks.lacks w c first.first before.stands before.free (drop-get w.events c.spot.place first.first first.others (before.comes ∙ first.are)))
