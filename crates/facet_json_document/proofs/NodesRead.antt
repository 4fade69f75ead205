-- The nodes of all events of an input are its document's.
use Rattle.std.proofs.Common.{◌≡◌, ◌⊎◌, inl, inr, ℕ, Bool, true, false, List, [], ◌∷◌, ◌++◌, sym, ap, ◌∙◌, subst}
use Rattle.std.specs.Prelude.{Option, Some, None}
use Rattle.std.proofs.lemmas.List.{append-nil}
use Rattle.facet_format.specs.Complaint.{Refusal}
use Rattle.facet_format.specs.Event.{Event, Passed}
use Rattle.facet_json_token.specs.Gap.{Mode, plain}
use Rattle.facet_json_core.specs.Reading.{LacksMemory}
use Rattle.facet_json_grammar.specs.Document.{IsDocument}
use Rattle.facet_json_grammar.specs.EventLaws.{RootComes, document_comes, prefix_comes}
use Rattle.facet_json_grammar.specs.Future.{finished, events_before}
use Rattle.facet_json_grammar.specs.Language.{strict}
use Rattle.facet_json_grammar.specs.Meaning.{tree_of}
use Rattle.facet_json_grammar.specs.Next.{PassesNext}
use Rattle.facet_json_grammar.specs.Node.{Node}
use Rattle.facet_json_grammar.specs.Now.{Now, fresh, fresh_in, future_of}
use Rattle.facet_json_grammar.specs.StrictDocument.{IsStrictDocument}
use Rattle.facet_json_grammar.specs.StrictLaws as strictly
use Rattle.facet_json_grammar.specs.Tree.{Tree}
use Rattle.facet_json_grammar.specs.Walk.{walk}
use Rattle.facet_json_grammar.proofs.LongestPrefix.{input-comes}
use Rattle.facet_json_grammar.proofs.MovesNext.{next-passes, next-over}
use Rattle.facet_json_grammar.proofs.StrictRoot.{no_end, strict_input-comes, strict_document-comes}
use Rattle.facet_json_grammar.proofs.WalkComes.{document-comes, events_before-append, events_before-same}
use Rattle.facet_json_document.specs.Formatted.{GetsStuck, GetsStuckWithin, as_ever, opens_beyond}
use Rattle.facet_json_document.specs.Nodes.{Node as DocumentNode, as_nodes, first_value}
use Rattle.facet_json_document.specs.Inner.Building.{NodesSoFar, added, all_added, none_yet, AddsNext, AddsSome, AddsAll, IsTooDeep, RefusesNext, stops, too_deep}
use Rattle.facet_json_tree.specs.Depth.{beyond}
use Rattle.facet_json_tree.specs.Inner.Beyond.{SameBeyond}
use Rattle.facet_json_tree.proofs.BeyondEvents.{unlimited-none}
use Rattle.facet_json_document.proofs.EventsUp.{refused-next, stops-later}
use Rattle.facet_json_document.proofs.NodesBuilt.{added-append, added-input, begins, builds}

-- ---- one call

-- One event more.
pub adds-more : (old now new : Now) (was is : NodesSoFar) → AddsSome old now was → AddsNext true now new was is → AddsSome old new is
adds-more old now new was is some told =
    let one = next-passes now new told.0 told.1 in
    let p : Passed = record { event = told.0; last = one.last } in
    record {
      events = some.events ++ p ∷ [];
      comes = some.comes ∙ ap (events_before some.events) one.comes ∙ sym (events_before-append some.events (p ∷ []) (future_of new));
      nodes = told.2 ∙ ap (added told.0.kind told.0.span) some.nodes ∙ sym (added-append some.events (p ∷ []) (none_yet old.buffer));
    }

-- No more.
pub adds-end : (old now new : Now) (was is : NodesSoFar) → AddsSome old now was → AddsNext false now new was is → AddsAll old is.nodes
adds-end old now new was is some told = record {
  events = some.events;
  comes = some.comes ∙ ap (events_before some.events) (next-over now new told.0).over;
  made = ap (λ (s : NodesSoFar). s.nodes) (told.1 ∙ some.nodes);
}

-- Or a refusal.
pub adds-refused : (limit room : Option ℕ) (old now new : Now) (was : NodesSoFar) (r : Refusal) → AddsSome old now was →
    SameBeyond (future_of old) limit (future_of now) room → now.buffer ≡ old.buffer → now.cursor.refusal ≡ None →
    LacksMemory r ⊎ RefusesNext room now new r → LacksMemory r ⊎ GetsStuckWithin limit old r
adds-refused limit room old now new was r some level same free (inl lacks) = inl lacks
adds-refused limit room old now new was r some level same free (inr (too_deep span found so)) = inr (opens_beyond span (level.same ∙ found) so)
adds-refused limit room old now new was r some level same free (inr (stops move)) = elim (refused-next now new r free move) [
  | inl lacks ↦ inl lacks
  | inr s ↦ inr (as_ever (stops-later old now some.events r some.comes same s) (level.same ∙ ap (λ f. beyond f room) s.comes))
]

-- ---- one event within a depth

pub refused-deep : (room : Option ℕ) (old new : Now) (e : Event) (r : Refusal) → PassesNext old e new →
    LacksMemory r ⊎ IsTooDeep room e.kind e.span r → LacksMemory r ⊎ RefusesNext room old new r
refused-deep room old new e r passed (inl lacks) = inl lacks
refused-deep room old new e r passed (inr deep) =
    inr (too_deep e.span (ap (λ f. beyond f room) passed.comes ∙ deep.opens (beyond (future_of new))) deep.so)

-- Without a limit none is too deep.
pub unlimited : (now : Now) (r : Refusal) → LacksMemory r ⊎ GetsStuckWithin None now r → LacksMemory r ⊎ GetsStuck now r
unlimited now r (inl lacks) = inl lacks
unlimited now r (inr (as_ever b none)) = inr b
unlimited now r (inr (opens_beyond span found so)) = let none = unlimited-none (future_of now) in cc

-- The parser is not refused.
pub adds-free : (some : Bool) (old new : Now) (was is : NodesSoFar) → AddsNext some old new was is → new.cursor.refusal ≡ None
adds-free true old new was is told = (next-passes old new told.0 told.1).free
adds-free false old new was is told = (next-over old new told.0).free

-- They are nodes of the same input.
pub adds-input : (some : Bool) (old new : Now) (was is : NodesSoFar) → AddsNext some old new was is → is.input ≡ was.input
adds-input true old new was is told = ap (λ (s : NodesSoFar). s.input) told.2 ∙ added-input told.0.kind told.0.span was
adds-input false old new was is told = ap (λ (s : NodesSoFar). s.input) told.1

-- ---- whole documents

-- Where a document's walk comes, the nodes are the document's.
walk-nodes : (now : Now) (node : Node) (value : Tree) (nodes : List DocumentNode) → AddsAll now nodes →
    future_of now ≡ events_before (walk now.buffer node) finished → tree_of now.buffer node ≡ Some value → nodes ≡ as_nodes now.buffer node
walk-nodes now node value nodes all comes has =
    let same : all.events ≡ walk now.buffer node = events_before-same all.events (walk now.buffer node) (sym all.comes ∙ comes) in
    all.made ∙ ap (λ l. (all_added l (none_yet now.buffer)).nodes) same ∙ ap (λ (s : NodesSoFar). s.nodes) (builds node (none_yet now.buffer) value has)

-- There the document's value begins.
nodes-value : (text : List ℕ) (node : Node) (value : Tree) (nodes : List DocumentNode) → nodes ≡ as_nodes text node → tree_of text node ≡ Some value →
    first_value nodes ≡ value
nodes-value text node value nodes e has = ap first_value (e ∙ sym (append-nil (as_nodes text node))) ∙ begins text node value has []

module _ (text : List ℕ) (mode : Mode) where
  -- They are those of the document that is read,
  pub nodes-only : (nodes : List DocumentNode) → AddsAll (fresh text mode) nodes → (root : Node) (value : Tree) → IsDocument text mode root value →
      nodes ≡ as_nodes text root
  nodes-only nodes all root value d = walk-nodes (fresh text mode) root value nodes all (document-comes text mode root value d) d.reads.has_tree

  -- and their value is its own.
  pub value-only : (nodes : List DocumentNode) (root : Node) (value : Tree) → AddsAll (fresh text mode) nodes → IsDocument text mode root value →
      first_value nodes ≡ value
  value-only nodes root value all d = nodes-value text root value nodes (nodes-only nodes all root value d) d.reads.has_tree

  read_by : (nodes : List DocumentNode) → AddsAll (fresh text mode) nodes → RootComes text mode →
      (root : Node) × IsDocument text mode root (first_value nodes)
  read_by nodes all (document_comes root value d comes) =
      (root, subst (IsDocument text mode root) (sym (value-only nodes root value all d)) d)
  read_by nodes all (prefix_comes events here rest front comes) = absurd (no_end text events all.events here rest (sym comes ∙ all.comes))

  pub value-read : (nodes : List DocumentNode) → AddsAll (fresh text mode) nodes → (root : Node) × IsDocument text mode root (first_value nodes)
  value-read nodes all = read_by nodes all (input-comes text mode)

module _ (text : List ℕ) where
  pub strict_nodes-only : (nodes : List DocumentNode) → AddsAll (fresh_in text (strict plain)) nodes → (root : Node) (value : Tree) →
      IsStrictDocument text root value → nodes ≡ as_nodes text root
  strict_nodes-only nodes all root value d =
      walk-nodes (fresh_in text (strict plain)) root value nodes all (strict_document-comes text root value d) d.whole.reads.has_tree

  pub strict-only : (nodes : List DocumentNode) (root : Node) (value : Tree) → AddsAll (fresh_in text (strict plain)) nodes →
      IsStrictDocument text root value → first_value nodes ≡ value
  strict-only nodes root value all d = nodes-value text root value nodes (strict_nodes-only nodes all root value d) d.whole.reads.has_tree

  strict_by : (nodes : List DocumentNode) → AddsAll (fresh_in text (strict plain)) nodes → strictly.StrictRootComes text →
      (root : Node) × IsStrictDocument text root (first_value nodes)
  strict_by nodes all (strictly.document_comes root value d comes) =
      (root, subst (IsStrictDocument text root) (sym (strict-only nodes root value all d)) d)
  strict_by nodes all (strictly.no_document_comes events here rest none comes) =
      absurd (no_end text events all.events here rest (sym comes ∙ all.comes))

  pub strict-read : (nodes : List DocumentNode) → AddsAll (fresh_in text (strict plain)) nodes →
      (root : Node) × IsStrictDocument text root (first_value nodes)
  strict-read nodes all = strict_by nodes all (strict_input-comes text)
