-- From a reader of the value at the root, and of the end behind it, to a reader of a document, where RFC 8259 alone is read.
use Rattle.std.proofs.Common.{◌≡◌, ◌≤◌, ◌⊎◌, ℕ, List, Option, None, Some}
use Rattle.facet_format.specs.Complaint.{Refusal}
use Rattle.facet_format.specs.Span.{Span}
use Rattle.facet_json_token.specs.Gap.{plain}
use Rattle.facet_json_grammar.specs.Future.{Future, finished, events_before}
use Rattle.facet_json_grammar.specs.Language.{strict}
use Rattle.facet_json_grammar.specs.Node.{Node}
use Rattle.facet_json_grammar.specs.StrictDocument.{IsStrictDocument}
use Rattle.facet_json_grammar.specs.Tree.{Tree}
use Rattle.facet_json_grammar.specs.Walk.{walk}
use Rattle.facet_json_grammar.specs.Now.{fresh_in, future_of}
use Rattle.facet_json_grammar.proofs.StrictAnswered.{strict-stands}
use Rattle.facet_json_core.specs.Reading.{LacksMemory}
use Rattle.facet_json_core.proofs.StrictFromRoot.{strict-read, strict-read_only, strict-unread_only}
use Rattle.facet_json_tree.specs.Depth.{depth_of, first_beyond, too_deep_at}
use Rattle.facet_json_tree.specs.Inner.Beyond.{IsValueUnreadWithin, IsAllRead, IsNotAllRead, no_value, not_over}
use Rattle.facet_json_tree.proofs.DepthOfNodes.{none-shallow}
use Rattle.facet_json_tree.proofs.ReadingWithin.{unlimited-unread}
use Rattle.facet_json_tree.proofs.WalkWithin.{read-shallow, unread-shallow, unread-deep}

module _ (buffer : List ℕ) where
  abbrev start : Future
  start = future_of (fresh_in buffer (strict plain))

  strict_root-comes : (root : Node) (value : Tree) → IsStrictDocument buffer root value → start ≡ events_before (walk buffer root) finished
  strict_root-comes root value d = (strict-stands buffer root value d).spot.place.comes

  module _ (limit : Option ℕ) where
    -- All that is read is a strict document.
    pub all_read-strict : (t : Tree) → IsAllRead limit start t → (root : Node) × IsStrictDocument buffer root t
    all_read-strict t h = strict-read buffer t h.first.behind h.first.read h.over

    -- Where there is a strict document, its tree is read.
    pub all_read-only : (t : Tree) → IsAllRead limit start t → (root : Node) (value : Tree) → IsStrictDocument buffer root value → t ≡ value
    all_read-only t h root value d = (strict-read_only buffer t h.first.behind h.first.read root value d).0

    -- Where there is a strict document, the end is behind its value, so that it is the value that was refused.
    strict-no_value : (r : Refusal) → IsNotAllRead limit buffer start r → (root : Node) (value : Tree) → IsStrictDocument buffer root value →
        IsValueUnreadWithin limit buffer start r
    strict-no_value r (no_value unread) root value d = unread
    strict-no_value r (not_over t first more) root value d =
        absurd (more (strict-read_only buffer t first.behind first.read root value d).1)

  -- Where there is a strict document, and no limit, only out of memory is refused.
  pub not_all_read-only : (r : Refusal) → IsNotAllRead None buffer start r → (root : Node) (value : Tree) → IsStrictDocument buffer root value →
      LacksMemory r
  not_all_read-only r unread root value d =
      strict-unread_only buffer r (unlimited-unread (strict-no_value None r unread root value d)) root value d

  module _ (depth : ℕ) where
    -- All that is read within a depth is a strict document that nests no deeper.
    pub all_read-strict-within : (t : Tree) → IsAllRead (Some depth) start t →
        (root : Node) × IsStrictDocument buffer root t × (depth_of root ≤ depth)
    all_read-strict-within t h =
        let d = all_read-strict (Some depth) t h in
        let none = read-shallow buffer depth d.0 t d.1.whole.reads.has_tree _ (strict_root-comes d.0 t d.1) t h.first in
        (d.0, d.1, none-shallow depth d.0 none)

    -- No strict document that nests deeper is read.
    pub all_read-no_deeper : (t : Tree) → IsAllRead (Some depth) start t → (root : Node) (value : Tree) (s : Span) →
        IsStrictDocument buffer root value → first_beyond depth root ≡ Some s → ⊥
    all_read-no_deeper t h root value s d e =
        let none = read-shallow buffer depth root value d.whole.reads.has_tree _ (strict_root-comes root value d) t h.first in cc

    -- Where there is a strict document that nests no deeper, only out of memory is refused.
    pub not_all_read-only-within : (r : Refusal) → IsNotAllRead (Some depth) buffer start r → (root : Node) (value : Tree) →
        IsStrictDocument buffer root value → depth_of root ≤ depth → LacksMemory r
    not_all_read-only-within r unread root value d h =
        unread-shallow buffer depth root value d.whole.reads.has_tree _ (strict_root-comes root value d) r
        (strict-no_value (Some depth) r unread root value d) h

    -- Where the strict document nests deeper, its first bracket beyond is refused.
    pub not_all_read-deeper : (r : Refusal) → IsNotAllRead (Some depth) buffer start r → (root : Node) (value : Tree) (s : Span) →
        IsStrictDocument buffer root value → first_beyond depth root ≡ Some s → LacksMemory r ⊎ (r ≡ too_deep_at s)
    not_all_read-deeper r unread root value s d e =
        unread-deep buffer depth root value d.whole.reads.has_tree _ (strict_root-comes root value d) r
        (strict-no_value (Some depth) r unread root value d) s e
