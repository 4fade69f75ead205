-- From the events up to the end, or up to a refusal, to documents.
use Rattle.std.proofs.Common.{◌≡◌, ◌⊎◌, inl, inr, ℕ, List, [], ◌∷◌, refl, sym, ap, ◌∙◌, subst}
use Rattle.facet_format.specs.Complaint.{Refusal}
use Rattle.facet_format.specs.Event.{Passed, sequence_start, sequence_end, struct_start, struct_end}
use Rattle.facet_format.specs.Event as event
use Rattle.facet_format.specs.Span.{Span, stop, span_at}
use Rattle.facet_json_token.specs.Gap.{Mode, plain}
use Rattle.facet_json_token.specs.Tokens.{Tokens, ended}
use Rattle.facet_json_token.specs.TokenList.{tokens, tokens_from}
use Rattle.facet_json_grammar.specs.Document.{Reads}
use Rattle.facet_json_grammar.specs.EventLaws.{RootComes, document_comes, prefix_comes}
use Rattle.facet_json_grammar.specs.Future.{stuck, events_before}
use Rattle.facet_json_grammar.specs.Language.{strict}
use Rattle.facet_json_grammar.specs.Node.{Node, scalar, array, object}
use Rattle.facet_json_grammar.specs.Now.{fresh, fresh_in}
use Rattle.facet_json_grammar.specs.Place.{Place}
use Rattle.facet_json_grammar.specs.PrefixRefusal.{Refuses}
use Rattle.facet_json_grammar.specs.RunLaws.{last_token_of}
use Rattle.facet_json_grammar.specs.StrictDocument.{IsStrict}
use Rattle.facet_json_grammar.specs.StrictLaws as strictly
use Rattle.facet_json_grammar.specs.Tree.{Tree}
use Rattle.facet_json_grammar.specs.Walk.{event_at, walk, walk_items, walk_members}
use Rattle.facet_json_grammar.proofs.LongestPrefix.{input-comes}
use Rattle.facet_json_grammar.proofs.Parts.TokensAfterRuns.{tokens_from-run}
use Rattle.facet_json_grammar.proofs.RefusedHasNone.{refused_has_none}
use Rattle.facet_json_grammar.proofs.Runs.SpelledRuns.{spelled_is_run}
use Rattle.facet_json_grammar.proofs.Spelling.OneSpelling.{one_spelling}
use Rattle.facet_json_grammar.proofs.StrictRoot.{no_end, strict_input-comes, strict_document-comes}
use Rattle.facet_json_grammar.proofs.WalkComes.{events_before-same}
use Rattle.facet_json_core.specs.Reading.{LacksMemory}
use Rattle.facet_json_document.specs.Formatted.{BeginsDocument, HasOneDocument, RefusesOne, no_document, more_follows, GetsStuck, LacksOrGetsStuck}
use Rattle.facet_json_document.specs.Inner.Checking.{last_after, PassesUp, IsStuckBehind}
use Rattle.facet_json_document.proofs.EventsUp.{last-append}

-- ---- how events end

pub stuck-same : (a b : List Passed) (place here : Place) (ts rest : Tokens) → events_before a (stuck place ts) ≡ events_before b (stuck here rest) →
    (place ≡ here) × (ts ≡ rest)
stuck-same [] [] place here ts rest e = (cc, cc)
stuck-same [] (q ∷ b) place here ts rest e = cc
stuck-same (p ∷ a) [] place here ts rest e = cc
stuck-same (p ∷ a) (q ∷ b) place here ts rest e =
    let more : events_before a (stuck place ts) ≡ events_before b (stuck here rest) = cc in stuck-same a b place here ts rest more

-- A walk ends with its value's last token.
walk-last : (text : List ℕ) (last : Span) (node : Node) → last_after last (walk text node) ≡ (last_token_of node).span
unfolding walk
walk-last text last (scalar t) = refl
walk-last text last (array first end nodes) = last-append last (event_at (sequence_start event.array) first ∷ walk_items text nodes) (event_at sequence_end end)
walk-last text last (object first end members) = last-append last (event_at (struct_start event.object) first ∷ walk_members text members) (event_at struct_end end)

-- ---- lenient documents

module _ (text : List ℕ) (mode : Mode) where
  -- What was passed up to the end is a document, and these tokens stand behind it.
  pub record PassesDocument (last : Span) : Type 0 where
    pub root : Node
    pub tree : Tree
    pub reads : Reads text (tokens text mode) root tree (tokens_from text mode (stop last))

  up_by : (last : Span) → PassesUp (fresh text mode) last → RootComes text mode → PassesDocument last
  up_by last up (document_comes node tree d comes) =
      let same = events_before-same up.events (walk text node) (sym up.comes ∙ comes) in
      let ends : last ≡ (last_token_of node).span = up.ends ∙ ap (last_after (span_at 0 0)) same ∙ walk-last text (span_at 0 0) node in
      let run = spelled_is_run (tokens text mode) d.rest node d.reads.spells in
      let rest : d.rest ≡ tokens_from text mode (stop last) =
      sym (tokens_from-run text mode 0 (tokens text mode) d.rest (last_token_of node) run refl) ∙ ap (λ s. tokens_from text mode (stop s)) (sym ends) in
      record { root = node; tree = tree; reads = subst (Reads text (tokens text mode) node tree) rest d.reads }
  up_by last up (prefix_comes events here left front comes) = absurd (no_end text events up.events here left (sym comes ∙ up.comes))

  pub document-passed : (last : Span) → PassesUp (fresh text mode) last → PassesDocument last
  document-passed last up = up_by last up (input-comes text mode)

  off_by : (r : Refusal) → GetsStuck (fresh text mode) r → RootComes text mode → Refuses text mode r
  off_by r b (document_comes node tree d comes) = absurd (no_end text b.events (walk text node) b.place b.rest (sym b.comes ∙ comes))
  off_by r b (prefix_comes events here left front comes) =
      let same = stuck-same b.events events b.place here b.rest left (sym b.comes ∙ comes) in
      record { events = events; after = record { here = here; rest = left; prefix = front; stuck = rw (← same.0, ← same.1) b.so } }

  -- What breaks off is refused so.
  pub breaks-off : (r : Refusal) → LacksMemory r ⊎ GetsStuck (fresh text mode) r → LacksMemory r ⊎ Refuses text mode r
  breaks-off r (inl lacks) = inl lacks
  breaks-off r (inr b) = inr (off_by r b (input-comes text mode))

  -- The text begins with a document.
  pub has-document : (last : Span) → PassesUp (fresh text mode) last → BeginsDocument text mode
  has-document last up =
      let d = document-passed last up in
      (d.root, d.tree, record { rest = tokens_from text mode (stop last); reads = d.reads })

  -- Where it does, only memory is lacked.
  pub document-lacks : (r : Refusal) → BeginsDocument text mode → LacksMemory r ⊎ Refuses text mode r → LacksMemory r
  document-lacks r d (inl lacks) = lacks
  document-lacks r d (inr refuses) = absurd (refused_has_none text mode r d.0 d.1 refuses d.2)

  -- Where it begins with none, it is not one.
  pub none-there : (r : Refusal) → LacksMemory r ⊎ Refuses text mode r → LacksMemory r ⊎ RefusesOne text mode r
  none-there r (inl lacks) = inl lacks
  none-there r (inr refuses) = inr (no_document refuses)

  -- Behind the document nothing stands, or it is refused for that.
  pub nothing-behind : (last : Span) → PassesUp (fresh text mode) last → tokens_from text mode (stop last) ≡ ended → HasOneDocument text mode
  nothing-behind last up none =
      let d = document-passed last up in
      (d.root, d.tree, subst (Reads text (tokens text mode) d.root d.tree) none d.reads)

  pub more-behind : (last : Span) (r : Refusal) → PassesUp (fresh text mode) last → IsStuckBehind text (tokens_from text mode (stop last)) r →
      LacksMemory r ⊎ RefusesOne text mode r
  more-behind last r up behind =
      let d = document-passed last up in
      inr (more_follows d.root d.tree (tokens_from text mode (stop last)) d.reads behind.some behind.so)

  -- One document is not refused.
  one-not_refused : (r : Refusal) → HasOneDocument text mode → RefusesOne text mode r → ⊥
  one-not_refused r one (no_document refuses) =
      refused_has_none text mode r one.0 one.1 refuses (record { rest = ended; reads = one.2 })
  one-not_refused r one (more_follows root tree rest reads some so) =
      let same = one_spelling (tokens text mode) _ _ _ _ reads.spells one.2.spells in
      some same.1

  -- Where the text is one, only memory is lacked.
  pub one-lacks : (r : Refusal) → HasOneDocument text mode → LacksMemory r ⊎ RefusesOne text mode r → LacksMemory r
  one-lacks r one (inl lacks) = lacks
  one-lacks r one (inr refuses) = absurd (one-not_refused r one refuses)

-- ---- strict ones

module _ (text : List ℕ) where
  strict_by : (last : Span) → PassesUp (fresh_in text (strict plain)) last → strictly.StrictRootComes text → IsStrict text
  strict_by last up (strictly.document_comes root tree d comes) = (root, tree, d)
  strict_by last up (strictly.no_document_comes events here rest none comes) = absurd (no_end text events up.events here rest (sym comes ∙ up.comes))

  pub strict-passed : (last : Span) → PassesUp (fresh_in text (strict plain)) last → IsStrict text
  strict-passed last up = strict_by last up (strict_input-comes text)

  strict-not_refused : (r : Refusal) → IsStrict text → GetsStuck (fresh_in text (strict plain)) r → ⊥
  strict-not_refused r (root, tree, d) b =
      no_end text b.events (walk text root) b.place b.rest (sym b.comes ∙ strict_document-comes text root tree d)

  pub strict-lacks : (r : Refusal) → IsStrict text → LacksOrGetsStuck text r → LacksMemory r
  strict-lacks r one (inl lacks) = lacks
  strict-lacks r one (inr b) = absurd (strict-not_refused r one b)
