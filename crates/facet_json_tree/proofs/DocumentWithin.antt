-- From a reader of the value at the root within a depth to a reader of a document, in either mode.
use Rattle.std.proofs.Common.{◌≡◌, ◌≤◌, ◌⊎◌, inl, inr, ℕ, List, Some, sym, ap, ◌∙◌, subst}
use Rattle.facet_format.specs.Complaint.{Refusal}
use Rattle.facet_format.specs.Span.{Span}
use Rattle.facet_json_token.specs.Gap.{Mode}
use Rattle.facet_json_grammar.specs.Node.{Node}
use Rattle.facet_json_grammar.specs.Tree.{Tree}
use Rattle.facet_json_grammar.specs.Document.{IsDocument}
use Rattle.facet_json_grammar.specs.Future.{finished, events_before}
use Rattle.facet_json_grammar.specs.Walk.{walk}
use Rattle.facet_json_grammar.specs.Now.{fresh, future_of}
use Rattle.facet_json_grammar.specs.EventLaws.{RootComes, document_comes, prefix_comes}
use Rattle.facet_json_grammar.proofs.StandsOnWalk.{fresh-stands}
use Rattle.facet_json_grammar.proofs.LongestPrefix.{input-comes}
use Rattle.facet_json_core.specs.Told.{Breaks}
use Rattle.facet_json_core.specs.Reading.{LacksMemory}
use Rattle.facet_json_core.proofs.DocumentFromRoot.{read-only, read-document, unread-only}
use Rattle.facet_json_core.proofs.PrefixBreaksOff.{begun-breaks}
use Rattle.facet_json_tree.specs.Depth.{depth_of, first_beyond, too_deep_at, RefusesWithin, has_none, in_document, in_prefix, beyond}
use Rattle.facet_json_tree.specs.Inner.Beyond.{IsReadWithin, as_ever, too_deep, IsValueUnreadWithin}
use Rattle.facet_json_tree.proofs.BeyondEvents.{stuck-beyond}
use Rattle.facet_json_tree.proofs.DepthOfNodes.{none-shallow}
use Rattle.facet_json_tree.proofs.WalkWithin.{comes-beyond, read-shallow, unread-shallow, unread-deep}

module _ (buffer : List ℕ) (mode : Mode) (depth : ℕ) where
  root-comes : (root : Node) (value : Tree) → IsDocument buffer mode root value →
      future_of (fresh buffer mode) ≡ events_before (walk buffer root) finished
  root-comes root value d = (fresh-stands buffer mode root value d).spot.place.comes

  -- ---- what is read

  -- What is read is a document that nests no deeper.
  pub read-document-within : (t : Tree) → IsReadWithin (Some depth) (future_of (fresh buffer mode)) t →
      (root : Node) × IsDocument buffer mode root t × (depth_of root ≤ depth)
  read-document-within t h =
      let d = read-document buffer mode t h.behind h.read in
      let none = read-shallow buffer depth d.0 t d.1.reads.has_tree _ (root-comes d.0 t d.1) t h in
      (d.0, d.1, none-shallow depth d.0 none)

  -- What is read is the document's tree.
  pub read-only-within : (t : Tree) → IsReadWithin (Some depth) (future_of (fresh buffer mode)) t → (root : Node) (value : Tree) →
      IsDocument buffer mode root value → t ≡ value
  read-only-within t h root value d = read-only buffer mode t h.behind h.read root value d

  -- No document that nests deeper is read.
  pub read-no_deeper : (t : Tree) → IsReadWithin (Some depth) (future_of (fresh buffer mode)) t → (root : Node) (value : Tree) (s : Span) →
      IsDocument buffer mode root value → first_beyond depth root ≡ Some s → ⊥
  read-no_deeper t h root value s d e =
      let none = read-shallow buffer depth root value d.reads.has_tree _ (root-comes root value d) t h in cc

  -- ---- what is refused

  -- Where there is a document that nests no deeper, only out of memory is refused.
  pub unread-only-within : (r : Refusal) → IsValueUnreadWithin (Some depth) buffer (future_of (fresh buffer mode)) r →
      (root : Node) (value : Tree) → IsDocument buffer mode root value → depth_of root ≤ depth → LacksMemory r
  unread-only-within r unread root value d h = unread-shallow buffer depth root value d.reads.has_tree _ (root-comes root value d) r unread h

  -- Where the document nests deeper, its first bracket beyond is refused.
  pub unread-deeper : (r : Refusal) → IsValueUnreadWithin (Some depth) buffer (future_of (fresh buffer mode)) r →
      (root : Node) (value : Tree) (s : Span) → IsDocument buffer mode root value → first_beyond depth root ≡ Some s →
      LacksMemory r ⊎ (r ≡ too_deep_at s)
  unread-deeper r unread root value s d e = unread-deep buffer depth root value d.reads.has_tree _ (root-comes root value d) r unread s e

  refused_by : (r : Refusal) → IsValueUnreadWithin (Some depth) buffer (future_of (fresh buffer mode)) r → RootComes buffer mode →
      LacksMemory r ⊎ RefusesWithin buffer mode depth r
  refused_by r (as_ever unread shallow) (document_comes node value d comes) = inl (unread-only buffer mode r unread node value d)
  refused_by r (too_deep span comes is) (document_comes node value d e) =
      let same = comes-beyond buffer depth node value d.reads.has_tree _ (root-comes node value d) in
      inr (in_document node value span d (sym same ∙ comes) is)
  refused_by r (as_ever unread shallow) (prefix_comes events here left prefix e) =
      let broken : Breaks here left (future_of (fresh buffer mode)) = subst (λ f. Breaks here left f) (sym e) (begun-breaks buffer prefix.begun) in
      let same = ap (λ f. beyond f (Some depth)) e ∙ stuck-beyond events here left (Some depth) in
      elim (unread.broken here left broken) [
        | inl h ↦ inl h
        | inr s ↦ elim (shallow here left broken) [
          | inl h ↦ inl h
          | inr none ↦ inr (has_none events (record { here = here; rest = left; prefix = prefix; stuck = s }) (sym same ∙ none))
        ]
      ]
  refused_by r (too_deep span comes is) (prefix_comes events here left prefix e) =
      let same = ap (λ f. beyond f (Some depth)) e ∙ stuck-beyond events here left (Some depth) in
      inr (in_prefix events here left span prefix (sym same ∙ comes) is)

  -- What is refused for anything but out of memory is so refused within the depth.
  pub unread-refused-within : (r : Refusal) → IsValueUnreadWithin (Some depth) buffer (future_of (fresh buffer mode)) r →
      LacksMemory r ⊎ RefusesWithin buffer mode depth r
  unread-refused-within r unread = refused_by r unread (input-comes buffer mode)
