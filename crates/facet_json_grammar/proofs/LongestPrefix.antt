-- Of begun documents: what comes after a prefix of tokens, the longest prefix, and an input that has no document.
use Rattle.std.specs.Prelude.{ℕ, List}
use Rattle.std.proofs.Common.{◌≡◌, ℕ, suc, ◌+◌, ◌≤◌, Bool, true, false, List, [], ◌∷◌, ◌++◌, length, Some, refl, sym, ap, ◌∙◌, subst, arith}
use Rattle.std.proofs.lemmas.List.{append-nil}
use Rattle.facet_json_token.specs.Gap.{Mode}
use Rattle.facet_json_token.specs.Token.{Token}
use Rattle.facet_json_token.specs.Tokens.{Tokens, ended, refused, next}
use Rattle.facet_json_token.specs.TokenList.{tokens}
use Rattle.facet_json_grammar.specs.Language.{lenient_rules}
use Rattle.facet_json_grammar.specs.Node.{Node, Spells}
use Rattle.facet_json_grammar.specs.Tree.{Tree}
use Rattle.facet_json_grammar.specs.Meaning.{tree_of}
use Rattle.facet_json_grammar.specs.Document.{IsDocument}
use Rattle.facet_json_grammar.specs.Order.{count}
use Rattle.facet_json_grammar.specs.Place.{Place, root, before_key, after_key, after_colon, before_item, Turn, stops, passes, says, says_scalar, names, goes_on}
use Rattle.facet_format.specs.Event.{ContainerKind, object, array, Passed}
use Rattle.facet_format.specs.Event as event
use Rattle.facet_json_grammar.specs.Walk.{event_at, key_event, walk}
use Rattle.facet_json_grammar.specs.Future.{Future, gives, finished, stuck, events_before, Stage, within, over, after_value, stack_after, stage_after, turn, reads, reads_by, reads_colon, reads_colon_by}
use Rattle.facet_json_grammar.specs.Begun.{Begun, nothing, whole, in_list, in_object, ListBegun, begins_item, past_item, ObjectBegun, no_key, key_alone, begins_member, past_member, BegunDocument, LongestPrefix}
use Rattle.facet_json_grammar.specs.EventLaws.{RootComes, document_comes, prefix_comes, InputComes, OneGiven}
use Rattle.facet_json_grammar.proofs.WalkComes.{TakesValue, at_root, of_member, of_list, events_before-append, follows, reads-turn, reads-array, reads-object, reads-item_comma, reads-member_comma, reads-key, reads-names, walk-comes, document-comes}
use Rattle.facet_json_grammar.proofs.ValueOrPrefix.{ValueComes, value_stands, value_stops, root-comes}

-- ---- what comes after a prefix

-- The future is what is read from these tokens on, from this stage, or after some key.
pub data IsReadAt (buffer : List ℕ) (future : Future) (here : Stage) (ts : Tokens) : Type 0 where
  at_stage : (stack : List ContainerKind) → future ≡ reads buffer stack here ts → IsReadAt buffer future here ts
  at_key : (stack : List ContainerKind) (key : Token) → here ≡ within after_key → future ≡ reads_colon buffer stack key ts →
      IsReadAt buffer future here ts

-- These events come, and then what is read from the last tokens on.
pub record Leads (buffer : List ℕ) (start : Future) (events : List Passed) (here : Stage) (rest : Tokens) : Type 0 where
  pub behind : Future
  pub comes : start ≡ events_before events behind
  pub from : IsReadAt buffer behind here rest

-- The same after further events.
leads_after : (buffer : List ℕ) (before : List Passed) (first start : Future) (events total : List Passed) (here : Stage) (rest : Tokens) →
    first ≡ events_before before start → total ≡ before ++ events → Leads buffer start events here rest → Leads buffer first total here rest
leads_after buffer before first start events total here rest e a l = record {
  behind = l.behind;
  comes = e ∙ ap (events_before before) l.comes ∙ sym (events_before-append before events l.behind) ∙ ap (λ es. events_before es l.behind) (sym a);
  from = l.from;
}

module _ (buffer : List ℕ) where
  mutual
    -- From the start of a begun value on its events come.
    pub begun-leads : (stack : List ContainerKind) {place : Place} {after here : Stage} {ts rest : Tokens} {events : List Passed} →
        Begun buffer place after ts events here rest → TakesValue place → after ≡ after_value stack →
        Leads buffer (reads buffer stack (within place) ts) events here rest
    begun-leads stack (nothing place after ts) at e =
        record { behind = reads buffer stack (within place) ts; comes = refl; from = at_stage stack refl }
    begun-leads stack (whole place after ts rest node value s t) at e = record {
      behind = reads buffer stack (after_value stack) rest;
      comes = walk-comes buffer value s t stack place at;
      from = at_stage stack (ap (λ s. reads buffer stack s rest) (sym e));
    }
    begun-leads stack (in_list place after here first inner rest events k b) at e =
        leads_after buffer (event_at (event.sequence_start array) first ∷ []) _ _ events _ here rest (reads-array lenient_rules buffer stack place first inner at k) refl (list-leads stack b)
    begun-leads stack (in_object place after here first inner rest events k b) at e =
        leads_after buffer (event_at (event.struct_start object) first ∷ []) _ _ events _ here rest (reads-object lenient_rules buffer stack place first inner at k) refl (object-leads stack b)

    list-leads : (stack : List ContainerKind) {here : Stage} {ts rest : Tokens} {events : List Passed} →
        ListBegun buffer ts events here rest → Leads buffer (reads buffer (array ∷ stack) (within before_item) ts) events here rest
    list-leads stack (begins_item ts rest events here b) = begun-leads (array ∷ stack) b of_list refl
    list-leads stack (past_item ts others rest node value separator events total here s t k b a) =
        leads_after buffer (walk buffer node) _ _ events total here rest
        (walk-comes buffer value s t (array ∷ stack) before_item of_list ∙ ap (events_before (walk buffer node)) (reads-item_comma lenient_rules buffer (array ∷ stack) separator others k))
        a (list-leads stack b)

    object-leads : (stack : List ContainerKind) {here : Stage} {ts rest : Tokens} {events : List Passed} →
        ObjectBegun buffer ts events here rest → Leads buffer (reads buffer (object ∷ stack) (within before_key) ts) events here rest
    object-leads stack (no_key ts) =
        record { behind = reads buffer (object ∷ stack) (within before_key) ts; comes = refl; from = at_stage (object ∷ stack) refl }
    object-leads stack (key_alone key rest name k n) = record {
      behind = reads_colon buffer (object ∷ stack) key rest;
      comes = reads-names lenient_rules buffer (object ∷ stack) key rest name k n;
      from = at_key (object ∷ stack) key refl refl;
    }
    object-leads stack (begins_member key mark ts rest name events here k n c b) =
        leads_after buffer (key_event buffer key mark ∷ []) _ _ events _ here rest (reads-key lenient_rules buffer (object ∷ stack) key mark ts name k n c) refl (begun-leads (object ∷ stack) b of_member refl)
    object-leads stack (past_member key mark ts others rest name node value separator events total here k n c s t p b a) =
        leads_after buffer (key_event buffer key mark ∷ walk buffer node) _ _ events total here rest
        (reads-key lenient_rules buffer (object ∷ stack) key mark ts name k n c
        ∙ ap (gives (key_event buffer key mark)) (walk-comes buffer value s t (object ∷ stack) after_colon of_member
        ∙ ap (events_before (walk buffer node)) (reads-member_comma lenient_rules buffer (object ∷ stack) separator others p)))
        a (object-leads stack b)

  -- ---- where nothing comes any more

  -- Wherever these tokens are stuck at the end, they are as many more as the events that they give, or more.
  abbrev pub EndsAmong : Tokens → Type 0
  EndsAmong ts = (stack : List ContainerKind) (stage : Stage) (events : List Passed) (here : Place) (rest : Tokens) →
      reads buffer stack stage ts ≡ events_before events (stuck here rest) → count rest + length events ≤ count ts

  -- the same after a key
  abbrev pub EndsAfterKey : Tokens → Type 0
  EndsAfterKey ts = (stack : List ContainerKind) (key : Token) (events : List Passed) (here : Place) (rest : Tokens) →
      reads_colon buffer stack key ts ≡ events_before events (stuck here rest) → count rest + length events ≤ count ts

  -- Where nothing is given, all tokens are left.
  none_given : (ts rest : Tokens) (place here : Place) → stuck place ts ≡ stuck here rest → count rest + 0 ≤ count ts
  none_given ts rest place here e =
      let same : ts ≡ rest = cc in
      omega (arith, ap count same)

  turn-count : (stack : List ContainerKind) (place : Place) (t : Token) (ts : Tokens) (way : Turn) → EndsAmong ts →
      EndsAfterKey ts → (events : List Passed) (here : Place) (rest : Tokens) →
      follows lenient_rules buffer place t stack ts way ≡ events_before events (stuck here rest) → count rest + length events ≤ suc (count ts)
  turn-count stack place t ts stops h g [] here rest e = none_given (next t ts) rest place here e
  turn-count stack place t ts stops h g (p ∷ events) here rest e = cc
  turn-count stack place t ts (passes other) h g events here rest e = omega (arith, h stack (within other) events here rest e)
  turn-count stack place t ts (says kind) h g [] here rest e = cc
  turn-count stack place t ts (says kind) h g (p ∷ events) here rest e =
      let others = stack_after kind stack in
      let stage = stage_after kind stack in
      let same : reads buffer others stage ts ≡ events_before events (stuck here rest) = cc in
      omega (arith, h others stage events here rest same)
  turn-count stack place t ts says_scalar h g [] here rest e = cc
  turn-count stack place t ts says_scalar h g (p ∷ events) here rest e =
      let same : reads buffer stack (after_value stack) ts ≡ events_before events (stuck here rest) = cc in
      omega (arith, h stack (after_value stack) events here rest same)
  turn-count stack place t ts names h g events here rest e = omega (arith, g stack t events here rest e)

  mark-count : (stack : List ContainerKind) (key mark : Token) (ts : Tokens) (b : Bool) → EndsAmong ts → goes_on after_key mark.kind ≡ b →
      (events : List Passed) (here : Place) (rest : Tokens) →
      reads_colon buffer stack key (next mark ts) ≡ events_before events (stuck here rest) → count rest + length events ≤ suc (count ts)
  unfolding reads_colon_by
  mark-count stack key mark ts false h c [] here rest e =
      let same : stuck after_key (next mark ts) ≡ stuck here rest = rw (c, reads_colon_by) at e in
      none_given (next mark ts) rest after_key here same
  mark-count stack key mark ts false h c (p ∷ events) here rest e =
      let same : stuck after_key (next mark ts) ≡ gives p (events_before events (stuck here rest)) = rw (c, reads_colon_by) at e in cc
  mark-count stack key mark ts true h c [] here rest e =
      let same : gives (key_event buffer key mark) (reads buffer stack (within after_colon) ts) ≡ stuck here rest = rw (c, reads_colon_by) at e in cc
  mark-count stack key mark ts true h c (p ∷ events) here rest e =
      let same : gives (key_event buffer key mark) (reads buffer stack (within after_colon) ts) ≡ gives p (events_before events (stuck here rest)) = rw (c, reads_colon_by) at e in
      let behind : reads buffer stack (within after_colon) ts ≡ events_before events (stuck here rest) = cc in
      omega (arith, h stack (within after_colon) events here rest behind)

  mutual
    unfolding reads_by

    -- Each event that is given takes a token at least.
    pub stuck-count : (ts : Tokens) → EndsAmong ts
    stuck-count ts stack over [] here rest e = cc
    stuck-count ts stack over (p ∷ events) here rest e = cc
    stuck-count ended stack (within place) [] here rest e = none_given ended rest place here e
    stuck-count ended stack (within place) (p ∷ events) here rest e = cc
    stuck-count (refused f) stack (within place) [] here rest e = none_given (refused f) rest place here e
    stuck-count (refused f) stack (within place) (p ∷ events) here rest e = cc
    stuck-count (next t ts) stack (within place) events here rest e =
        turn-count stack place t ts (turn buffer place t) (stuck-count ts) (colon-count ts) events here rest
        (sym (reads-turn lenient_rules buffer stack place t ts (turn buffer place t) refl) ∙ e)

    pub colon-count : (ts : Tokens) → EndsAfterKey ts
    colon-count ended stack key [] here rest e = none_given ended rest after_key here e
    colon-count ended stack key (p ∷ events) here rest e = cc
    colon-count (refused f) stack key [] here rest e = none_given (refused f) rest after_key here e
    colon-count (refused f) stack key (p ∷ events) here rest e = cc
    colon-count (next mark ts) stack key events here rest e =
        mark-count stack key mark ts (goes_on after_key mark.kind) (stuck-count ts) refl events here rest e

  from-count : (future : Future) (stage : Stage) (ts : Tokens) → IsReadAt buffer future stage ts → (events : List Passed) (here : Place) (rest : Tokens) →
      future ≡ events_before events (stuck here rest) → count rest + length events ≤ count ts
  from-count future stage ts (at_stage stack f) events here rest e = stuck-count ts stack stage events here rest (sym f ∙ e)
  from-count future stage ts (at_key stack key k f) events here rest e = colon-count ts stack key events here rest (sym f ∙ e)

  -- ---- where nothing comes, and no fewer tokens are left

  -- A token that is not passed is stuck where it stands.
  turn-stays : (stack : List ContainerKind) (place : Place) (t : Token) (ts : Tokens) (way : Turn) (here : Place) (rest : Tokens) →
      follows lenient_rules buffer place t stack ts way ≡ stuck here rest → suc (count ts) ≤ count rest → stuck place (next t ts) ≡ stuck here rest
  turn-stays stack place t ts stops here rest e h = e
  turn-stays stack place t ts (passes other) here rest e h = absurd (omega (arith, stuck-count ts stack (within other) [] here rest e))
  turn-stays stack place t ts (says kind) here rest e h = cc
  turn-stays stack place t ts says_scalar here rest e h = cc
  turn-stays stack place t ts names here rest e h = absurd (omega (arith, colon-count ts stack t [] here rest e))

  mark-stays : (stack : List ContainerKind) (key mark : Token) (ts : Tokens) (b : Bool) (here : Place) (rest : Tokens) →
      goes_on after_key mark.kind ≡ b → reads_colon buffer stack key (next mark ts) ≡ stuck here rest → stuck after_key (next mark ts) ≡ stuck here rest
  unfolding reads_colon_by
  mark-stays stack key mark ts false here rest c e = rw (c, reads_colon_by) at e
  mark-stays stack key mark ts true here rest c e =
      let no : gives (key_event buffer key mark) (reads buffer stack (within after_colon) ts) ≡ stuck here rest = rw (c, reads_colon_by) at e in cc

  stage-stays : (stack : List ContainerKind) (place : Place) (ts : Tokens) (here : Place) (rest : Tokens) →
      reads buffer stack (within place) ts ≡ stuck here rest → count ts ≤ count rest → stuck place ts ≡ stuck here rest
  unfolding reads_by
  stage-stays stack place ended here rest e h = e
  stage-stays stack place (refused f) here rest e h = e
  stage-stays stack place (next t ts) here rest e h =
      turn-stays stack place t ts (turn buffer place t) here rest
      (sym (reads-turn lenient_rules buffer stack place t ts (turn buffer place t) refl) ∙ e) h

  colon-stays : (stack : List ContainerKind) (key : Token) (ts : Tokens) (here : Place) (rest : Tokens) →
      reads_colon buffer stack key ts ≡ stuck here rest → stuck after_key ts ≡ stuck here rest
  unfolding reads_colon_by
  colon-stays stack key ended here rest e = e
  colon-stays stack key (refused f) here rest e = e
  colon-stays stack key (next mark ts) here rest e = mark-stays stack key mark ts (goes_on after_key mark.kind) here rest refl e

  -- What is read there is stuck there.
  from-stays : (place : Place) (ts : Tokens) (here : Place) (rest : Tokens) → IsReadAt buffer (stuck here rest) (within place) ts →
      count ts ≤ count rest → stuck place ts ≡ stuck here rest
  from-stays place ts here rest (at_stage stack f) h = stage-stays stack place ts here rest (sym f) h
  from-stays place ts here rest (at_key stack key k f) h =
      let same : place ≡ after_key = cc in
      ap (λ p. stuck p ts) same ∙ colon-stays stack key ts here rest (sym f)

-- ---- the longest prefix

-- What comes after fewer events ends in the same way.
tail-stuck : (first events : List Passed) (future : Future) (here : Place) (rest : Tokens) →
    events_before first future ≡ events_before events (stuck here rest) →
    (more : List Passed) × (future ≡ events_before more (stuck here rest)) × (events ≡ first ++ more)
tail-stuck [] events future here rest e = (events, e, refl)
tail-stuck (p ∷ first) [] future here rest e = cc
tail-stuck (p ∷ first) (q ∷ events) future here rest e =
    let same : events_before first future ≡ events_before events (stuck here rest) = cc in
    let found = tail-stuck first events future here rest same in
    let other = found.2 in
    (found.0, found.1, cc)

-- After a longest prefix no more events come than after another that begins there and leaves no more tokens.
no_more : (n : ℕ) (more : List Passed) → n + length more ≤ n → more ≡ []
no_more n [] h = refl
no_more n (p ∷ more) h = absurd (omega arith)

-- The prefix before which nothing comes any more is the longest.
pub stuck-longest : (buffer : List ℕ) (ts : Tokens) (events : List Passed) (here : Place) (rest : Tokens) →
    BegunDocument buffer ts events (within here) rest → reads buffer [] (within root) ts ≡ events_before events (stuck here rest) →
    LongestPrefix buffer ts events here rest
stuck-longest buffer ts events here rest begun e =
    let no_longer : (others : List Passed) (there : Stage) (left : Tokens) → BegunDocument buffer ts others there left → count rest ≤ count left =
    λ others there left b.
    (let leads = begun-leads buffer [] b at_root refl in
    let more = tail-stuck others events leads.behind here rest (sym leads.comes ∙ e) in
    omega (arith, from-count buffer leads.behind there left leads.from more.0 here rest more.1)) in
    record { begun = begun; longest = no_longer }

-- All longest prefixes are one: they give the same events, and lead to the same place, before the same tokens.
pub longest-once : (buffer : List ℕ) (ts : Tokens) (events others : List Passed) (here there : Place) (rest left : Tokens) →
    BegunDocument buffer ts events (within here) rest → reads buffer [] (within root) ts ≡ events_before events (stuck here rest) →
    LongestPrefix buffer ts others there left → (others ≡ events) × (there ≡ here) × (left ≡ rest)
longest-once buffer ts events others here there rest left begun e prefix =
    let leads = begun-leads buffer [] prefix.begun at_root refl in
    let more = tail-stuck others events leads.behind here rest (sym leads.comes ∙ e) in
    let fewer = from-count buffer leads.behind (within there) left leads.from more.0 here rest more.1 in
    let shortest = prefix.longest events (within here) rest begun in
    let none = no_more (count rest) more.0 (omega arith) in
    let halts = more.1 ∙ ap (λ x. events_before x (stuck here rest)) none in
    let from = subst (λ f. IsReadAt buffer f (within there) left) halts leads.from in
    let same : stuck there left ≡ stuck here rest = from-stays buffer there left here rest from shortest in
    (sym (append-nil others) ∙ ap (λ x. others ++ x) (sym none) ∙ sym more.2, cc, cc)

outcome : (buffer : List ℕ) (mode : Mode) → ValueComes buffer [] root (tokens buffer mode) → RootComes buffer mode
outcome buffer mode (value_stands rest node value s t) =
    let d : IsDocument buffer mode node value = record { rest = rest; reads = record { spells = s; has_tree = t } } in
    document_comes node value d (document-comes buffer mode node value d)
outcome buffer mode (value_stops events here rest b e) =
    prefix_comes events here rest (stuck-longest buffer (tokens buffer mode) events here rest b e) e

-- Each input has a document, or a longest prefix after which nothing comes.
pub input-comes : InputComes
input-comes buffer mode = outcome buffer mode (root-comes buffer (tokens buffer mode))

-- ---- events of a prefix

-- What comes after fewer events of a walk are its others.
pub tail-finished : (first w : List Passed) (future : Future) → events_before first future ≡ events_before w finished →
    (more : List Passed) × (w ≡ first ++ more) × (future ≡ events_before more finished)
tail-finished [] w future e = (w, refl, e)
tail-finished (p ∷ first) [] future e = cc
tail-finished (p ∷ first) (q ∷ w) future e =
    let same : events_before first future ≡ events_before w finished = cc in
    let found = tail-finished first w future same in
    let other = found.1 in
    (found.0, cc, found.2)

-- After the end of the root nothing comes.
over-finished : (buffer : List ℕ) (ts : Tokens) → reads buffer [] over ts ≡ finished
unfolding reads_by
over-finished buffer ts = refl

-- A prefix gives the first events of the walk of each value that goes on from it.
pub front-walk : (buffer : List ℕ) (ts mid rest : Tokens) (node : Node) (value : Tree) (events : List Passed) (here : Stage) →
    BegunDocument buffer ts events here mid → Spells ts node rest → tree_of buffer node ≡ Some value →
    (more : List Passed) × (walk buffer node ≡ events ++ more) × IsReadAt buffer (events_before more finished) here mid
front-walk buffer ts mid rest node value events here b s t =
    let leads = begun-leads buffer [] b at_root refl in
    let whole_walk = walk-comes buffer value s t [] root at_root ∙ ap (events_before (walk buffer node)) (over-finished buffer rest) in
    let found = tail-finished events (walk buffer node) leads.behind (sym leads.comes ∙ whole_walk) in
    (found.0, found.1, subst (λ f. IsReadAt buffer f here mid) found.2 leads.from)

-- An input without a document has one longest prefix.
pub one_given : OneGiven
one_given buffer mode none = elim (input-comes buffer mode) [
  | document_comes node value d e ↦ absurd (none node value d)
  | prefix_comes events here rest prefix e ↦
      (events, here, rest, prefix, λ others there left. longest-once buffer (tokens buffer mode) events others here there rest left prefix.begun e)
]
