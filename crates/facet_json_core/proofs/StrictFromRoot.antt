-- From a reader of the value at the root to a reader of a document, where RFC 8259 alone is read: what is read, and then finished, is one.
use Rattle.std.proofs.Common.{◌≡◌, ℕ, List, [], ◌∷◌, ◌++◌, Option, Some, refl, sym, ap, ◌∙◌, subst}
use Rattle.facet_format.specs.Complaint.{Refusal}
use Rattle.facet_format.specs.Event.{Passed}
use Rattle.facet_json_token.specs.Gap.{plain}
use Rattle.facet_json_token.specs.Tokens.{Tokens}
use Rattle.facet_json_grammar.specs.Future.{Future, gives, finished, events_before, behind_root}
use Rattle.facet_json_grammar.specs.Language.{strict, strict_rules}
use Rattle.facet_json_grammar.specs.Node.{Node}
use Rattle.facet_json_grammar.specs.Place.{Place}
use Rattle.facet_json_grammar.specs.StrictDocument.{IsStrictDocument, IsStrict}
use Rattle.facet_json_grammar.specs.StrictTokens.{tokens_in}
use Rattle.facet_json_grammar.specs.Tree.{Tree, Trees, Pairs}
use Rattle.facet_json_grammar.proofs.WalkComes.{events_before-append}
use Rattle.facet_json_grammar.specs.StrictLaws.{StrictRootComes, document_comes, no_document_comes}
use Rattle.facet_json_grammar.proofs.StrictRoot.{no_end, strict_input-comes}
use Rattle.facet_json_grammar.specs.Now.{fresh_in, future_of}
use Rattle.facet_json_grammar.proofs.StrictAnswered.{strict-stands}
use Rattle.facet_json_serializer.specs.Serializer.{Writing}
use Rattle.facet_json_serializer.specs.TreeCalls.{with_tree}
use Rattle.facet_json_core.specs.Told.{Tells, a_scalar, a_list, an_object, TellsItems, no_item, one_item, TellsMembers, no_member, one_member, Breaks}
use Rattle.facet_json_core.specs.Reading.{LacksMemory, IsValueRead, IsValueUnread}
use Rattle.facet_json_core.specs.Transcode.{IsWritten}
use Rattle.facet_json_core.specs.TranscodeViews.{IsUnwritten, TranscodeLacksMemory as LacksMemoryFor}
use Rattle.facet_json_core.specs.declared.transcode_error.TranscodeError.{TranscodeError}
use Rattle.facet_json_core.proofs.ValueOrBreak.{ValueOrBreak, a_value, a_break, root-value_or_break}
use Rattle.facet_json_core.proofs.WalkTells.{walk-tells}

-- ---- what tells a value is events, and then what comes

abbrev Leads : Future → Future → Type 0
Leads f g = (ps : List Passed) × (f ≡ events_before ps g)

leads-then : (f g h : Future) → Leads f g → Leads g h → Leads f h
leads-then f g h first others = (first.0 ++ others.0, first.1 ∙ ap (events_before first.0) others.1 ∙ sym (events_before-append first.0 others.0 h))

leads-past : (p : Passed) (f g : Future) → Leads f g → Leads (gives p f) g
leads-past p f g others = (p ∷ others.0, ap (gives p) others.1)

mutual
  tells-events : {f g : Future} {t : Tree} → Tells f t g → Leads f g
  tells-events (a_scalar p rest v t k e) = (p ∷ [], refl)
  tells-events (a_list p inner rest kind items k inside) = leads-past p inner rest (items-events inside)
  tells-events (an_object p inner rest kind members k inside) = leads-past p inner rest (members-events inside)

  items-events : {f g : Future} {ts : Trees} → TellsItems f ts g → Leads f g
  items-events (no_item last rest k) = (last ∷ [], refl)
  items-events (one_item f others rest t items told more) = leads-then f others rest (tells-events told) (items-events more)

  members-events : {f g : Future} {ps : Pairs} → TellsMembers f ps g → Leads f g
  members-events (no_member last rest k) = (last ∷ [], refl)
  members-events (one_member key inner others rest name t members k told more) =
      leads-past key inner rest (leads-then inner others rest (tells-events told) (members-events more))

-- ---- documents

module _ (buffer : List ℕ) where
  -- what comes from the root on
  abbrev start : Future
  start = future_of (fresh_in buffer (strict plain))

  -- From the start of a strict document events tell its tree.
  pub strict-told : (root : Node) (value : Tree) → IsStrictDocument buffer root value → Tells start value finished
  strict-told root value d =
      let comes = (strict-stands buffer root value d).spot.place.comes in
      subst (λ f. Tells f value finished) (sym comes) (walk-tells buffer root value finished d.whole.reads.has_tree)

  -- What tells a value, and is then finished, has a strict document.
  told-strict : (t : Tree) → Tells start t finished → IsStrict buffer
  told-strict t told = by_root (strict_input-comes buffer)
    where
      by_root : StrictRootComes buffer → IsStrict buffer
      by_root (document_comes root value d comes) = (root, value, d)
      by_root (no_document_comes events here rest none comes) =
          let leads = tells-events told in
          absurd (no_end buffer events leads.0 here rest (sym comes ∙ leads.1))

  -- Where all that tells a value from the start tells such a one, and nothing breaks off, and nothing is left behind, the input is a strict
  -- document, and its tree is such.
  whole-document : (P : Tree → Type 0) (left : Future) → ((v : Tree) (rest : Future) → Tells start v rest → P v × (left ≡ rest)) →
      ((place : Place) (rest : Tokens) → Breaks place rest start → ⊥) → left ≡ finished →
      (root : Node) × (value : Tree) × IsStrictDocument buffer root value × P value
  whole-document P left such whole over = by_value (root-value_or_break strict_rules buffer (tokens_in (strict plain) buffer 0))
    where
      of_document : IsStrict buffer → (root : Node) × (value : Tree) × IsStrictDocument buffer root value × P value
      of_document d = (d.0, d.1, d.2, (such d.1 finished (strict-told d.0 d.1 d.2)).0)

      by_value : ValueOrBreak strict_rules start → (root : Node) × (value : Tree) × IsStrictDocument buffer root value × P value
      by_value (a_break place rest b) = absurd (whole place rest b)
      by_value (a_value t ts told) =
          let ends = sym (such t (behind_root strict_rules ts) told).1 ∙ over in
          of_document (told-strict t (subst (Tells start t) ends told))

  -- What is read is the tree of a strict document, where nothing is left behind it.
  pub strict-read : (t : Tree) (left : Future) → IsValueRead start t left → left ≡ finished → (root : Node) × IsStrictDocument buffer root t
  strict-read t left read over =
      let d = whole-document (λ v. t ≡ v) left read.told read.whole over in
      (d.0, subst (λ v. IsStrictDocument buffer d.0 v) (sym d.3) d.2)

  -- Where there is a strict document, its tree is read, and nothing is left behind it.
  pub strict-read_only : (t : Tree) (left : Future) → IsValueRead start t left → (root : Node) (value : Tree) → IsStrictDocument buffer root value →
      (t ≡ value) × (left ≡ finished)
  strict-read_only t left read root value d = read.told value finished (strict-told root value d)

  -- Where there is a strict document, only out of memory is refused.
  pub strict-unread_only : (r : Refusal) → IsValueUnread buffer start r → (root : Node) (value : Tree) → IsStrictDocument buffer root value → LacksMemory r
  strict-unread_only r unread root value d = unread.told value finished (strict-told root value d)

  -- What is written is the tree of a strict document, where nothing is left behind it.
  pub strict-written : (w : Writing) (left : Future) (after : Option Writing) → IsWritten start w left after → left ≡ finished →
      (root : Node) × (value : Tree) × IsStrictDocument buffer root value × (after ≡ Some (with_tree w value))
  strict-written w left after written over = whole-document (λ v. after ≡ Some (with_tree w v)) left written.told written.whole over

  -- Where there is a strict document, its tree is written, and nothing is left behind it.
  pub strict-written_only : (w : Writing) (left : Future) (after : Option Writing) → IsWritten start w left after → (root : Node) (value : Tree) →
      IsStrictDocument buffer root value → (after ≡ Some (with_tree w value)) × (left ≡ finished)
  strict-written_only w left after written root value d = written.told value finished (strict-told root value d)

  -- Where there is a strict document, only out of memory is refused.
  pub strict-unwritten_only : (e : TranscodeError) → IsUnwritten buffer start e → (root : Node) (value : Tree) → IsStrictDocument buffer root value →
      LacksMemoryFor e
  strict-unwritten_only e unwritten root value d = unwritten.told value finished (strict-told root value d)
