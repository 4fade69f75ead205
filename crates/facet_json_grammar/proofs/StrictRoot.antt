-- What comes from the root of an input where RFC 8259 alone is read.
use Rattle.std.specs.Prelude.{ℕ, List}
use Rattle.std.proofs.Common.{◌≡◌, ℕ, Bool, true, false, List, [], ◌∷◌, refl, sym, ap, ◌∙◌, subst}
use Rattle.facet_format.specs.Event.{ContainerKind, object, array, EventKind, Passed}
use Rattle.facet_format.specs.Event as event
use Rattle.facet_json_token.specs.Gap.{plain}
use Rattle.facet_json_token.specs.Token.{Kind, Token}
use Rattle.facet_json_token.specs.Token as token
use Rattle.facet_json_token.specs.Tokens.{Tokens, ended, refused, next}
use Rattle.facet_json_token.specs.TokenList.{tokens}
use Rattle.facet_json_grammar.specs.Document.{IsDocument}
use Rattle.facet_json_grammar.specs.Future.{Future, gives, finished, stuck, events_before, Stage, within, over, after_value, around, behind_root, stage_after, is_meaningless, reads, reads_by, reads_colon, reads_colon_by}
use Rattle.facet_json_grammar.specs.Language.{strict, lenient_rules, strict_rules}
use Rattle.facet_json_grammar.specs.Node.{Node, Spells}
use Rattle.facet_json_grammar.specs.Place.{Place, root, before_key, after_key, after_colon, after_member, before_item, after_item, next_key, next_item, after_root, Turn, stops, passes, says, says_scalar, names, place_turn, leads_on, goes_on, led}
use Rattle.facet_json_grammar.specs.StrictDocument.{AreStrict, IsStrictDocument}
use Rattle.facet_json_grammar.specs.StrictTokens.{tokens_in}
use Rattle.facet_json_grammar.specs.Tree.{Tree}
use Rattle.facet_json_grammar.specs.Walk.{event_at, scalar_event, key_event, walk}
use Rattle.facet_json_grammar.proofs.Parts.FinishedComes.{begins-with, never-stuck, takes_turn}
use Rattle.facet_json_grammar.proofs.StrictComes.{finished-strict, strict-same}
use Rattle.facet_json_grammar.proofs.WalkComes.{at_root, follows, reads-turn, turn-sensible, reads-meaningless, reads-ended, reads-refused, colon-ended, colon-refused, colon-missing, colon-stands, walk_comes_by}
use Rattle.facet_json_grammar.proofs.LongestPrefix.{input-comes}
use Rattle.facet_json_grammar.specs.EventLaws.{RootComes, document_comes, prefix_comes}
use Rattle.facet_json_grammar.specs.StrictLaws as laws
use Rattle.facet_json_grammar.specs.StrictLaws.{StrictIsPlain, StrictRootComes, StrictInputComes}

-- ---- places

-- the place of a lenient document that stands for this one
abbrev loose : Place → Place
loose next_key = before_key
loose next_item = before_item
loose place = place

abbrev loosened : Stage → Stage
loosened (within place) = within (loose place)
loosened over = over

-- A turn that leads on is the same there.
loose_turn : (place : Place) (k : Kind) (way : Turn) → place_turn place k ≡ way → leads_on way ≡ true → place_turn (loose place) k ≡ way
loose_turn next_key (token.string start finish has_escapes) way e l = e
loose_turn next_key token.object_end way e l = let no : leads_on way ≡ false = ap leads_on (sym e) in cc
loose_turn next_key token.object_start way e l = let no : leads_on way ≡ false = ap leads_on (sym e) in cc
loose_turn next_key token.array_start way e l = let no : leads_on way ≡ false = ap leads_on (sym e) in cc
loose_turn next_key token.array_end way e l = let no : leads_on way ≡ false = ap leads_on (sym e) in cc
loose_turn next_key token.colon way e l = let no : leads_on way ≡ false = ap leads_on (sym e) in cc
loose_turn next_key token.comma way e l = let no : leads_on way ≡ false = ap leads_on (sym e) in cc
loose_turn next_key token.null way e l = let no : leads_on way ≡ false = ap leads_on (sym e) in cc
loose_turn next_key token.true_literal way e l = let no : leads_on way ≡ false = ap leads_on (sym e) in cc
loose_turn next_key token.false_literal way e l = let no : leads_on way ≡ false = ap leads_on (sym e) in cc
loose_turn next_key (token.number start finish hint) way e l = let no : leads_on way ≡ false = ap leads_on (sym e) in cc
loose_turn next_item token.array_end way e l = let no : leads_on way ≡ false = ap leads_on (sym e) in cc
loose_turn next_item _ way e l = e
loose_turn root k way e l = e
loose_turn before_key k way e l = e
loose_turn after_key k way e l = e
loose_turn after_colon k way e l = e
loose_turn after_member k way e l = e
loose_turn before_item k way e l = e
loose_turn after_item k way e l = e
loose_turn after_root k way e l = e

-- A separator leads to the same place there.
loose_led : (place : Place) (k : Kind) (other : Place) → place_turn place k ≡ passes other → loose (led strict_rules other) ≡ other
loose_led after_key token.colon other e = let is : after_colon ≡ other = cc in subst (λ p. loose (led strict_rules p) ≡ p) is refl
loose_led after_member token.comma other e = let is : before_key ≡ other = cc in subst (λ p. loose (led strict_rules p) ≡ p) is refl
loose_led after_item token.comma other e = let is : before_item ≡ other = cc in subst (λ p. loose (led strict_rules p) ≡ p) is refl
loose_led root token.null other e = cc
loose_led before_key token.null other e = cc
loose_led after_colon token.null other e = cc
loose_led before_item token.null other e = cc
loose_led next_key token.null other e = cc
loose_led next_item token.null other e = cc
loose_led _ _ other e = cc

loose_after : (stack : List ContainerKind) → loosened (after_value stack) ≡ after_value stack
loose_after [] = refl
loose_after (object ∷ stack) = refl
loose_after (array ∷ stack) = refl

loose_stage : (kind : EventKind) (stack : List ContainerKind) → loosened (stage_after kind stack) ≡ stage_after kind stack
loose_stage (event.struct_start kind) stack = refl
loose_stage event.struct_end stack = loose_after (around stack)
loose_stage (event.sequence_start kind) stack = refl
loose_stage event.sequence_end stack = loose_after (around stack)
loose_stage (event.field_key name) stack = refl
loose_stage (event.scalar value) stack = loose_after stack

module _ (buffer : List ℕ) where
  -- ---- what is finished by strict rules is so by lenient ones

  abbrev LooseFrom : Tokens → Type 0
  LooseFrom ts = (stack : List ContainerKind) (stage : Stage) (ps : List Passed) →
      reads_by strict_rules buffer stack stage ts ≡ events_before ps finished → reads buffer stack (loosened stage) ts ≡ events_before ps finished

  abbrev LooseAfterKey : Tokens → Type 0
  LooseAfterKey ts = (stack : List ContainerKind) (key : Token) (ps : List Passed) →
      reads_colon_by strict_rules buffer stack key ts ≡ events_before ps finished → reads_colon buffer stack key ts ≡ events_before ps finished

  -- An event comes first in both.
  event-loose : (p : Passed) (stack : List ContainerKind) (stage there : Stage) (ts : Tokens) (ps : List Passed) → LooseFrom ts →
      loosened stage ≡ there → gives p (reads_by strict_rules buffer stack stage ts) ≡ events_before ps finished →
      gives p (reads buffer stack there ts) ≡ events_before ps finished
  event-loose p stack stage there ts ps h at e =
      let first = begins-with p _ ps e in
      ap (gives p) (ap (λ x. reads buffer stack x ts) (sym at) ∙ h stack stage first.others first.behind)
      ∙ ap (λ x. events_before x finished) (sym first.same)

  follows-loose : (place : Place) (t : Token) (stack : List ContainerKind) (ts : Tokens) (way : Turn) (ps : List Passed) →
      place_turn place t.kind ≡ way → LooseFrom ts → LooseAfterKey ts → follows strict_rules buffer place t stack ts way ≡ events_before ps finished →
      follows lenient_rules buffer (loose place) t stack ts way ≡ events_before ps finished
  follows-loose place t stack ts stops ps is h g e = absurd (never-stuck place (next t ts) ps e)
  follows-loose place t stack ts (passes other) ps is h g e =
      ap (λ x. reads buffer stack (within x) ts) (sym (loose_led place t.kind other is)) ∙ h stack (within (led strict_rules other)) ps e
  follows-loose place t stack ts (says kind) ps is h g e = event-loose (event_at kind t) _ _ _ ts ps h (loose_stage kind stack) e
  follows-loose place t stack ts says_scalar ps is h g e = event-loose (scalar_event buffer t) _ _ _ ts ps h (loose_after stack) e
  follows-loose place t stack ts names ps is h g e = g stack t ps e

  leads-somewhere : (place : Place) (t : Token) (stack : List ContainerKind) (ts : Tokens) (way : Turn) (ps : List Passed) →
      follows strict_rules buffer place t stack ts way ≡ events_before ps finished → leads_on way ≡ true
  leads-somewhere place t stack ts stops ps e = absurd (never-stuck place (next t ts) ps e)
  leads-somewhere place t stack ts (passes other) ps e = refl
  leads-somewhere place t stack ts (says kind) ps e = refl
  leads-somewhere place t stack ts says_scalar ps e = refl
  leads-somewhere place t stack ts names ps e = refl

  token-loose : (stack : List ContainerKind) (place : Place) (t : Token) (ts : Tokens) (ps : List Passed) (b : Bool) →
      is_meaningless buffer t ≡ b → LooseFrom ts → LooseAfterKey ts →
      reads_by strict_rules buffer stack (within place) (next t ts) ≡ events_before ps finished →
      reads buffer stack (within (loose place)) (next t ts) ≡ events_before ps finished
  token-loose stack place t ts ps true m h g e =
      absurd (never-stuck place (next t ts) ps (sym (reads-meaningless strict_rules buffer stack place t ts m) ∙ e))
  token-loose stack place t ts ps false m h g e =
      let way = place_turn place t.kind in
      let taken = takes_turn strict_rules buffer stack place t ts ps way refl e in
      let same = loose_turn place t.kind way refl (leads-somewhere place t stack ts way ps taken) in
      reads-turn lenient_rules buffer stack (loose place) t ts way (turn-sensible buffer (loose place) t m ∙ same)
      ∙ follows-loose place t stack ts way ps refl h g taken

  mark-loose : (stack : List ContainerKind) (key mark : Token) (ts : Tokens) (ps : List Passed) (b : Bool) → goes_on after_key mark.kind ≡ b →
      LooseFrom ts → reads_colon_by strict_rules buffer stack key (next mark ts) ≡ events_before ps finished →
      reads_colon buffer stack key (next mark ts) ≡ events_before ps finished
  mark-loose stack key mark ts ps false c h e =
      absurd (never-stuck after_key (next mark ts) ps (sym (colon-missing strict_rules buffer stack key mark ts c) ∙ e))
  mark-loose stack key mark ts ps true c h e =
      colon-stands lenient_rules buffer stack key mark ts c
      ∙ event-loose (key_event buffer key mark) stack (within after_colon) (within after_colon) ts ps h refl (sym (colon-stands strict_rules buffer stack key mark ts c) ∙ e)

  behind-loose : (ts : Tokens) (ps : List Passed) → behind_root strict_rules ts ≡ events_before ps finished → finished ≡ events_before ps finished
  behind-loose ended ps e = e
  behind-loose (refused f) ps e = absurd (never-stuck after_root (refused f) ps e)
  behind-loose (next t ts) ps e = absurd (never-stuck after_root (next t ts) ps e)

  over-loose : (ts : Tokens) (stack : List ContainerKind) (ps : List Passed) → reads_by strict_rules buffer stack over ts ≡ events_before ps finished →
      reads buffer stack over ts ≡ events_before ps finished
  unfolding reads_by
  over-loose ts stack ps e = behind-loose ts ps e

  mutual
    pub loose-from : (ts : Tokens) → LooseFrom ts
    loose-from ts stack over ps e = over-loose ts stack ps e
    loose-from ended stack (within place) ps e = absurd (never-stuck place ended ps (sym (reads-ended strict_rules buffer stack place) ∙ e))
    loose-from (refused f) stack (within place) ps e =
        absurd (never-stuck place (refused f) ps (sym (reads-refused strict_rules buffer stack place f) ∙ e))
    loose-from (next t ts) stack (within place) ps e = token-loose stack place t ts ps (is_meaningless buffer t) refl (loose-from ts) (loose-colon ts) e

    loose-colon : (ts : Tokens) → LooseAfterKey ts
    loose-colon ended stack key ps e = absurd (never-stuck after_key ended ps (sym (colon-ended strict_rules buffer stack key) ∙ e))
    loose-colon (refused f) stack key ps e =
        absurd (never-stuck after_key (refused f) ps (sym (colon-refused strict_rules buffer stack key f) ∙ e))
    loose-colon (next mark ts) stack key ps e = mark-loose stack key mark ts ps (goes_on after_key mark.kind) refl (loose-from ts) e

  -- ---- how reading ends

  -- Events, and then the end or a place where nothing goes on.
  data Ending : Future → Type 0 where
    ends : (ps : List Passed) → Ending (events_before ps finished)
    sticks : (ps : List Passed) (place : Place) (ts : Tokens) → Ending (events_before ps (stuck place ts))

  one-ahead : (p : Passed) (future : Future) → Ending future → Ending (gives p future)
  one-ahead p _ (ends ps) = ends (p ∷ ps)
  one-ahead p _ (sticks ps place ts) = sticks (p ∷ ps) place ts

  ending : (future : Future) → Ending future
  ending (gives p future) = one-ahead p future (ending future)
  ending finished = ends []
  ending (stuck place ts) = sticks [] place ts

  -- What sticks doesn't end.
  pub no_end : (a b : List Passed) (place : Place) (ts : Tokens) → events_before a (stuck place ts) ≡ events_before b finished → ⊥
  no_end [] b place ts e = never-stuck place ts b e
  no_end (p ∷ a) [] place ts e = cc
  no_end (p ∷ a) (q ∷ b) place ts e = let more : events_before a (stuck place ts) ≡ events_before b finished = cc in no_end a b place ts more

  -- ---- documents

  -- Behind the root of strict tokens that are finished nothing is left.
  pub none-behind : (a b : List Passed) (rest : Tokens) → events_before a (behind_root strict_rules rest) ≡ events_before b finished → rest ≡ ended
  none-behind a b ended e = refl
  none-behind a b (refused f) e = absurd (no_end a b after_root (refused f) e)
  none-behind a b (next t ts) e = absurd (no_end a b after_root (next t ts) e)

  strict-comes : (node : Node) (value : Tree) (rest : Tokens) → Spells (tokens buffer plain) node rest → AreStrict buffer (tokens buffer plain) →
      (d : IsDocument buffer plain node value) → d.rest ≡ rest →
      reads_by strict_rules buffer [] (within root) (tokens buffer plain) ≡ events_before (walk buffer node) (behind_root strict_rules rest)
  unfolding reads_by
  strict-comes node value rest s are d e = walk_comes_by strict_rules buffer value s d.reads.has_tree are [] root at_root

  -- Where what comes is finished, the input has a strict document.
  record HasDocument (ps : List Passed) : Type 0 where
    node : Node
    value : Tree
    is : IsStrictDocument buffer node value
    events : events_before (walk buffer node) finished ≡ events_before ps finished

  has-document : (ps : List Passed) → reads_by strict_rules buffer [] (within root) (tokens_in (strict plain) buffer 0) ≡ events_before ps finished → HasDocument ps
  has-document ps e = by_root (input-comes buffer plain)
    where
      by_root : RootComes buffer plain → HasDocument ps
      by_root (document_comes node value d comes) =
          let a = finished-strict buffer (tokens buffer plain) [] (within root) ps e in
          let whole = ap (reads_by strict_rules buffer [] (within root)) (sym (strict-same buffer (tokens buffer plain) a)) ∙ e in
          let walked = strict-comes node value d.rest d.reads.spells a d refl in
          let none = none-behind (walk buffer node) ps d.rest (sym walked ∙ whole) in
          record {
            node = node;
            value = value;
            is = record {
              whole = record { reads = record { spells = subst (Spells (tokens buffer plain) node) none d.reads.spells; has_tree = d.reads.has_tree } };
              strict = a;
            };
            events = ap (λ r. events_before (walk buffer node) (behind_root strict_rules r)) (sym none) ∙ sym walked ∙ whole;
          }
      by_root (prefix_comes events here rest longest comes) =
          let a = finished-strict buffer (tokens buffer plain) [] (within root) ps e in
          let whole = ap (reads_by strict_rules buffer [] (within root)) (sym (strict-same buffer (tokens buffer plain) a)) ∙ e in
          absurd (no_end events ps here rest (sym comes ∙ loose-from (tokens buffer plain) [] (within root) ps whole))

  -- A strict document's walk comes.
  pub strict_document-comes : (node : Node) (value : Tree) → IsStrictDocument buffer node value →
      reads_by strict_rules buffer [] (within root) (tokens_in (strict plain) buffer 0) ≡ events_before (walk buffer node) finished
  unfolding reads_by
  strict_document-comes node value d =
      ap (reads_by strict_rules buffer [] (within root)) (strict-same buffer (tokens buffer plain) d.strict)
      ∙ walk_comes_by strict_rules buffer value d.whole.reads.spells d.whole.reads.has_tree d.strict [] root at_root

-- A strict document is the same plain document.
pub strict_is_plain : StrictIsPlain
strict_is_plain buffer node value d = record { rest = ended; reads = d.whole.reads }

-- What comes from the root of an input.
pub strict_input-comes : StrictInputComes
strict_input-comes buffer = by_ending (ending buffer (reads_by strict_rules buffer [] (within root) (tokens_in (strict plain) buffer 0))) refl
  where
    by_ending : {f : Future} → Ending buffer f → reads_by strict_rules buffer [] (within root) (tokens_in (strict plain) buffer 0) ≡ f → StrictRootComes buffer
    by_ending (ends ps) e =
        let d = has-document buffer ps e in
        laws.document_comes d.node d.value d.is (e ∙ sym d.events)
    by_ending (sticks ps place ts) e =
        laws.no_document_comes ps place ts (λ node value d. no_end buffer ps (walk buffer node) place ts (sym e ∙ strict_document-comes buffer node value d)) e
