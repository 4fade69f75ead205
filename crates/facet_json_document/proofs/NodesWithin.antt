-- What is read within a depth, and how the others are refused.
use Rattle.std.proofs.Common.{◌≡◌, ◌≤◌, ◌⊎◌, inl, inr, ℕ, List, Some, None, sym, ap, ◌∙◌}
use Rattle.facet_format.specs.Complaint.{Refusal}
use Rattle.facet_format.specs.Span.{Span}
use Rattle.facet_json_token.specs.Gap.{Mode, plain}
use Rattle.facet_json_core.specs.Reading.{LacksMemory}
use Rattle.facet_json_grammar.specs.Document.{IsDocument}
use Rattle.facet_json_grammar.specs.EventLaws.{RootComes, document_comes, prefix_comes}
use Rattle.facet_json_grammar.specs.Language.{strict}
use Rattle.facet_json_grammar.specs.Node.{Node}
use Rattle.facet_json_grammar.specs.Now.{Now, fresh, fresh_in, future_of}
use Rattle.facet_json_grammar.specs.StrictDocument.{IsStrictDocument}
use Rattle.facet_json_grammar.specs.Tree.{Tree}
use Rattle.facet_json_grammar.specs.Walk.{walk}
use Rattle.facet_json_grammar.proofs.LongestPrefix.{input-comes}
use Rattle.facet_json_grammar.proofs.StrictRoot.{no_end, strict_document-comes}
use Rattle.facet_json_grammar.proofs.WalkComes.{document-comes}
use Rattle.facet_json_tree.specs.Depth.{depth_of, first_beyond, too_deep_at, RefusesWithin, has_none, in_document, in_prefix, beyond}
use Rattle.facet_json_tree.proofs.BeyondEvents.{stuck-beyond}
use Rattle.facet_json_tree.proofs.DepthOfNodes.{none-shallow, shallow-none}
use Rattle.facet_json_tree.proofs.WalkWithin.{comes-beyond}
use Rattle.facet_json_document.specs.Formatted.{GetsStuck, GetsStuckWithin, as_ever, opens_beyond}
use Rattle.facet_json_document.specs.Nodes.{Node as DocumentNode, first_value}
use Rattle.facet_json_document.specs.Inner.Building.{AddsAll}
use Rattle.facet_json_document.proofs.NodesRead.{value-read, strict-read}
use Rattle.facet_json_document.proofs.OneDocuments.{breaks-off, document-lacks, strict-lacks, stuck-same}

-- ---- where the value that comes has this node

module _ (depth : ℕ) (now : Now) (root : Node) (same : beyond (future_of now) (Some depth) ≡ first_beyond depth root) where
  no-deeper : beyond (future_of now) (Some depth) ≡ None → (s : Span) → first_beyond depth root ≡ Some s → ⊥
  no-deeper none s e = cc

  shallow-only : (r : Refusal) → LacksMemory r ⊎ GetsStuckWithin (Some depth) now r → depth_of root ≤ depth → LacksMemory r ⊎ GetsStuck now r
  shallow-only r (inl lacks) h = inl lacks
  shallow-only r (inr (as_ever b none)) h = inr b
  shallow-only r (inr (opens_beyond span found so)) h = let none = shallow-none depth root h in cc

  deeper-refused : (r : Refusal) → LacksMemory r ⊎ GetsStuckWithin (Some depth) now r → (s : Span) → first_beyond depth root ≡ Some s →
      LacksMemory r ⊎ (r ≡ too_deep_at s)
  deeper-refused r (inl lacks) s e = inl lacks
  deeper-refused r (inr (as_ever b none)) s e = cc
  deeper-refused r (inr (opens_beyond span found so)) s e = let one : span ≡ s = cc in inr (so ∙ ap too_deep_at one)

-- ---- lenient documents

module _ (text : List ℕ) (mode : Mode) (depth : ℕ) where
  same : (root : Node) (value : Tree) → IsDocument text mode root value → beyond (future_of (fresh text mode)) (Some depth) ≡ first_beyond depth root
  same root value d = comes-beyond text depth root value d.reads.has_tree _ (document-comes text mode root value d)

  pub read-within : (nodes : List DocumentNode) → AddsAll (fresh text mode) nodes → beyond (future_of (fresh text mode)) (Some depth) ≡ None →
      (root : Node) × IsDocument text mode root (first_value nodes) × (depth_of root ≤ depth)
  read-within nodes all none =
      let d = value-read text mode nodes all in (d.0, d.1, none-shallow depth d.0 (sym (same d.0 _ d.1) ∙ none))

  -- No document that nests deeper is read.
  pub none-deeper : beyond (future_of (fresh text mode)) (Some depth) ≡ None → (root : Node) (value : Tree) (s : Span) →
      IsDocument text mode root value → first_beyond depth root ≡ Some s → ⊥
  none-deeper none root value s d = no-deeper depth (fresh text mode) root (same root value d) none s

  -- One that nests no deeper is refused for lack of memory alone,
  pub only-lacks : (r : Refusal) → LacksMemory r ⊎ GetsStuckWithin (Some depth) (fresh text mode) r → (root : Node) (value : Tree) →
      IsDocument text mode root value → depth_of root ≤ depth → LacksMemory r
  only-lacks r refused root value d h =
      document-lacks text mode r (root, value, d) (breaks-off text mode r (shallow-only depth (fresh text mode) root (same root value d) r refused h))

  -- and one that nests deeper for its first bracket beyond.
  pub deeper-is_refused : (r : Refusal) → LacksMemory r ⊎ GetsStuckWithin (Some depth) (fresh text mode) r → (root : Node) (value : Tree) (s : Span) →
      IsDocument text mode root value → first_beyond depth root ≡ Some s → LacksMemory r ⊎ (r ≡ too_deep_at s)
  deeper-is_refused r refused root value s d = deeper-refused depth (fresh text mode) root (same root value d) r refused s

  so_by : (r : Refusal) → GetsStuckWithin (Some depth) (fresh text mode) r → RootComes text mode → RefusesWithin text mode depth r
  so_by r (as_ever b none) (document_comes node tree d comes) = absurd (no_end text b.events (walk text node) b.place b.rest (sym b.comes ∙ comes))
  so_by r (opens_beyond span found so) (document_comes node tree d comes) = in_document node tree span d (sym (same node tree d) ∙ found) so
  so_by r (as_ever b none) (prefix_comes events here left front comes) =
      let one = stuck-same b.events events b.place here b.rest left (sym b.comes ∙ comes) in
      let first = ap (λ f. beyond f (Some depth)) comes ∙ stuck-beyond events here left (Some depth) in
      has_none events (record { here = here; rest = left; prefix = front; stuck = rw (← one.0, ← one.1) b.so }) (sym first ∙ none)
  so_by r (opens_beyond span found so) (prefix_comes events here left front comes) =
      let first = ap (λ f. beyond f (Some depth)) comes ∙ stuck-beyond events here left (Some depth) in
      in_prefix events here left span front (sym first ∙ found) so

  -- What is refused is so refused within the depth.
  pub refused-so : (r : Refusal) → LacksMemory r ⊎ GetsStuckWithin (Some depth) (fresh text mode) r → LacksMemory r ⊎ RefusesWithin text mode depth r
  refused-so r (inl lacks) = inl lacks
  refused-so r (inr b) = inr (so_by r b (input-comes text mode))

-- ---- strict ones

module _ (text : List ℕ) (depth : ℕ) where
  abbrev start : Now
  start = fresh_in text (strict plain)

  strictly : (root : Node) (value : Tree) → IsStrictDocument text root value → beyond (future_of start) (Some depth) ≡ first_beyond depth root
  strictly root value d = comes-beyond text depth root value d.whole.reads.has_tree _ (strict_document-comes text root value d)

  pub strict_read-within : (nodes : List DocumentNode) → AddsAll start nodes → beyond (future_of start) (Some depth) ≡ None →
      (root : Node) × IsStrictDocument text root (first_value nodes) × (depth_of root ≤ depth)
  strict_read-within nodes all none =
      let d = strict-read text nodes all in (d.0, d.1, none-shallow depth d.0 (sym (strictly d.0 _ d.1) ∙ none))

  pub strict_none-deeper : beyond (future_of start) (Some depth) ≡ None → (root : Node) (value : Tree) (s : Span) →
      IsStrictDocument text root value → first_beyond depth root ≡ Some s → ⊥
  strict_none-deeper none root value s d = no-deeper depth start root (strictly root value d) none s

  pub strict_only-lacks : (r : Refusal) → LacksMemory r ⊎ GetsStuckWithin (Some depth) start r → (root : Node) (value : Tree) →
      IsStrictDocument text root value → depth_of root ≤ depth → LacksMemory r
  strict_only-lacks r refused root value d h =
      strict-lacks text r (root, value, d) (shallow-only depth start root (strictly root value d) r refused h)

  pub strict_deeper-is_refused : (r : Refusal) → LacksMemory r ⊎ GetsStuckWithin (Some depth) start r → (root : Node) (value : Tree) (s : Span) →
      IsStrictDocument text root value → first_beyond depth root ≡ Some s → LacksMemory r ⊎ (r ≡ too_deep_at s)
  strict_deeper-is_refused r refused root value s d = deeper-refused depth start root (strictly root value d) r refused s
