-- From a reader of the value at the root to a reader of a document, in either mode.
use Rattle.std.proofs.Common.{◌≡◌, ◌⊎◌, inl, inr, ℕ, List, sym, subst}
use Rattle.facet_format.specs.Complaint.{Refusal}
use Rattle.facet_json_token.specs.Gap.{Mode}
use Rattle.facet_json_grammar.specs.Node.{Node}
use Rattle.facet_json_grammar.specs.Tree.{Tree}
use Rattle.facet_json_grammar.specs.Document.{IsDocument}
use Rattle.facet_json_grammar.specs.Future.{Future, finished}
use Rattle.facet_json_grammar.specs.Now.{fresh, future_of}
use Rattle.facet_json_grammar.specs.EventLaws.{RootComes, document_comes, prefix_comes}
use Rattle.facet_json_grammar.specs.PrefixRefusal.{Refuses}
use Rattle.facet_json_grammar.proofs.StandsOnWalk.{fresh-stands}
use Rattle.facet_json_grammar.proofs.LongestPrefix.{input-comes}
use Rattle.facet_json_core.specs.Told.{Tells, Breaks}
use Rattle.facet_json_core.specs.Reading.{LacksMemory, IsValueRead, IsValueUnread}
use Rattle.facet_json_core.proofs.WalkTells.{walk-tells}
use Rattle.facet_json_core.proofs.PrefixBreaksOff.{begun-breaks}

module _ (buffer : List ℕ) (mode : Mode) where
  -- From the start of a document events tell its tree.
  pub document-told : (root : Node) (value : Tree) → IsDocument buffer mode root value →
      Tells (future_of (fresh buffer mode)) value finished
  document-told root value d =
      let comes = (fresh-stands buffer mode root value d).spot.place.comes in
      subst (λ f. Tells f value finished) (sym comes) (walk-tells buffer root value finished d.reads.has_tree)

  -- What is read is the document's tree.
  pub read-only : (t : Tree) (rest : Future) → IsValueRead (future_of (fresh buffer mode)) t rest →
      (root : Node) (value : Tree) → IsDocument buffer mode root value → t ≡ value
  read-only t rest read root value d = (read.told value finished (document-told root value d)).0

  -- Where there is a document, only out of memory is refused.
  pub unread-only : (r : Refusal) → IsValueUnread buffer (future_of (fresh buffer mode)) r →
      (root : Node) (value : Tree) → IsDocument buffer mode root value → LacksMemory r
  unread-only r unread root value d = unread.told value finished (document-told root value d)

  read_by : (t : Tree) (rest : Future) → IsValueRead (future_of (fresh buffer mode)) t rest → RootComes buffer mode →
      (root : Node) × IsDocument buffer mode root t
  read_by t rest read (document_comes node value d comes) =
      (node, subst (λ v. IsDocument buffer mode node v) (sym (read-only t rest read node value d)) d)
  read_by t rest read (prefix_comes events here left front e) =
      absurd (read.whole here left (subst (λ f. Breaks here left f) (sym e) (begun-breaks buffer front.begun)))

  -- What is read is a document.
  pub read-document : (t : Tree) (rest : Future) → IsValueRead (future_of (fresh buffer mode)) t rest →
      (root : Node) × IsDocument buffer mode root t
  read-document t rest read = read_by t rest read (input-comes buffer mode)

  unread_by : (r : Refusal) → IsValueUnread buffer (future_of (fresh buffer mode)) r → RootComes buffer mode →
      LacksMemory r ⊎ Refuses buffer mode r
  unread_by r unread (document_comes node value d comes) = inl (unread-only r unread node value d)
  unread_by r unread (prefix_comes events here left prefix e) =
      elim (unread.broken here left (subst (λ f. Breaks here left f) (sym e) (begun-breaks buffer prefix.begun))) [
        | inl h ↦ inl h
        | inr s ↦ inr (record { events = events; after = record { here = here; rest = left; prefix = prefix; stuck = s } })
      ]

  -- What is refused for anything but out of memory is so refused after the longest prefix.
  pub unread-refused : (r : Refusal) → IsValueUnread buffer (future_of (fresh buffer mode)) r → LacksMemory r ⊎ Refuses buffer mode r
  unread-refused r unread = unread_by r unread (input-comes buffer mode)
