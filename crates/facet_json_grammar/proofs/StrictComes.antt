-- Where the rules are strict: what comes is finished exactly where the tokens are those of a document of RFC 8259 alone.
use Rattle.std.specs.Prelude.{ℕ, List}
use Rattle.std.proofs.Common.{◌≡◌, ◌⊎◌, inl, inr, ℕ, Bool, true, false, List, Option, Some, None, refl, sym, ap, ◌∙◌}
use Rattle.facet_format.specs.Event.{ContainerKind, Passed}
use Rattle.facet_json_token.specs.Token.{Kind, Token, Fault}
use Rattle.facet_json_token.specs.Token as token
use Rattle.facet_json_token.specs.Tokens.{Tokens, ended, refused, next}
use Rattle.facet_json_token.specs.Strict.{strict_fault}
use Rattle.facet_json_grammar.specs.Future.{Future, finished, events_before, Stage, within, over, behind_root, stack_after, stage_after, after_value, reads_by, reads_colon_by}
use Rattle.facet_json_grammar.specs.Language.{strict_rules}
use Rattle.facet_json_grammar.specs.Place.{Place, root, before_key, after_key, after_colon, after_member, before_item, after_item, next_key, next_item, after_root, Turn, stops, passes, says, says_scalar, names, place_turn, goes_on, led}
use Rattle.facet_json_grammar.specs.StrictDocument.{is_closing, begins_closing, AreStrict, none_left, one_more}
use Rattle.facet_json_grammar.specs.StrictTokens.{strict_tokens}
use Rattle.facet_json_grammar.specs.Walk.{event_at, scalar_event, key_event}
use Rattle.facet_json_grammar.proofs.Parts.FinishedComes.{begins-with, never-stuck, takes_turn}
use Rattle.facet_json_grammar.proofs.WalkComes.{follows, reads-ended, reads-refused, colon-ended, colon-refused, colon-missing, colon-stands}

-- ---- commas

-- what a comma is at a place
data IsComma : Turn → Type 0 where
  misplaced : IsComma stops
  leads_key : IsComma (passes before_key)
  leads_item : IsComma (passes before_item)

comma_there : (place : Place) → IsComma (place_turn place token.comma)
comma_there root = misplaced
comma_there before_key = misplaced
comma_there after_key = misplaced
comma_there after_colon = misplaced
comma_there after_member = leads_key
comma_there before_item = misplaced
comma_there after_item = leads_item
comma_there next_key = misplaced
comma_there next_item = misplaced
comma_there after_root = misplaced

-- No closing bracket stands at these places.
closing_stops : (place : Place) (k : Kind) → is_closing k ≡ true → (place ≡ next_key) ⊎ (place ≡ next_item) → place_turn place k ≡ stops
closing_stops place token.object_end c (inl e) = rw e refl
closing_stops place token.object_end c (inr e) = rw e refl
closing_stops place token.array_end c (inl e) = rw e refl
closing_stops place token.array_end c (inr e) = rw e refl
closing_stops place _ c e = cc

module _ (buffer : List ℕ) where
  -- ---- tokens that RFC 8259 has

  strict-next : (t : Token) (rest : Tokens) (o : Option Fault) → strict_fault buffer t ≡ o →
      strict_tokens buffer (next t rest) ≡ (elim o as (λ _. Tokens) [ None ↦ next t (strict_tokens buffer rest) | Some f ↦ refused f ])
  unfolding strict_tokens
  strict-next t rest o e = rw (e, strict_tokens) refl

  -- Tokens that are strict are the same.
  pub strict-same : (ts : Tokens) → AreStrict buffer ts → strict_tokens buffer ts ≡ ts
  unfolding strict_tokens
  strict-same _ none_left = refl
  strict-same _ (one_more t rest a c more) = rw (a, strict_tokens) (ap (next t) (strict-same rest more))

  abbrev Reads : List ContainerKind → Stage → Tokens → Future
  Reads stack stage ts = reads_by strict_rules buffer stack stage (strict_tokens buffer ts)

  -- What is finished is read from strict tokens.
  abbrev StrictFrom : Tokens → Type 0
  StrictFrom ts = (stack : List ContainerKind) (stage : Stage) (ps : List Passed) → Reads stack stage ts ≡ events_before ps finished →
      AreStrict buffer ts

  abbrev StrictAfterKey : Tokens → Type 0
  StrictAfterKey ts = (stack : List ContainerKind) (key : Token) (ps : List Passed) →
      reads_colon_by strict_rules buffer stack key (strict_tokens buffer ts) ≡ events_before ps finished → AreStrict buffer ts

  -- After a comma no closing bracket stands.
  not_closing : (ts : Tokens) (stack : List ContainerKind) (place : Place) (ps : List Passed) → (place ≡ next_key) ⊎ (place ≡ next_item) →
      Reads stack (within place) ts ≡ events_before ps finished → begins_closing ts ≡ false
  not_closing ended stack place ps at e = refl
  not_closing (refused f) stack place ps at e = refl
  not_closing (next t rest) stack place ps at e = by_kind (is_closing t.kind) refl (strict_fault buffer t) refl
    where
      by_kind : (b : Bool) → is_closing t.kind ≡ b → (o : Option Fault) → strict_fault buffer t ≡ o → b ≡ false
      by_kind false c o a = refl
      by_kind true c (Some f) a =
          absurd (never-stuck place (refused f) ps (sym (ap (reads_by strict_rules buffer stack (within place)) (strict-next t rest (Some f) a) ∙ reads-refused strict_rules buffer stack place f) ∙ e))
      by_kind true c None a =
          let there = sym (ap (reads_by strict_rules buffer stack (within place)) (strict-next t rest None a)) ∙ e in
          absurd (never-stuck place (next t (strict_tokens buffer rest)) ps
          (takes_turn strict_rules buffer stack place t (strict_tokens buffer rest) ps _ (closing_stops place t.kind c at) there))

  -- Whatever its turn, what follows a token is strict.
  follows-strict : (place : Place) (t : Token) (stack : List ContainerKind) (rest : Tokens) (way : Turn) (ps : List Passed) →
      StrictFrom rest → StrictAfterKey rest →
      follows strict_rules buffer place t stack (strict_tokens buffer rest) way ≡ events_before ps finished → AreStrict buffer rest
  follows-strict place t stack rest stops ps h g e = absurd (never-stuck place _ ps e)
  follows-strict place t stack rest (passes other) ps h g e = h stack (within (led strict_rules other)) ps e
  follows-strict place t stack rest (says kind) ps h g e =
      let first = begins-with (event_at kind t) _ ps e in h (stack_after kind stack) (stage_after kind stack) first.others first.behind
  follows-strict place t stack rest says_scalar ps h g e =
      let first = begins-with (scalar_event buffer t) _ ps e in h stack (after_value stack) first.others first.behind
  follows-strict place t stack rest names ps h g e = g stack t ps e

  -- No closing bracket stands after a comma.
  comma-strict : (place : Place) (t : Token) (stack : List ContainerKind) (rest : Tokens) (way : Turn) (ps : List Passed) → IsComma way →
      follows strict_rules buffer place t stack (strict_tokens buffer rest) way ≡ events_before ps finished → begins_closing rest ≡ false
  comma-strict place t stack rest _ ps misplaced e = absurd (never-stuck place _ ps e)
  comma-strict place t stack rest _ ps leads_key e = not_closing rest stack next_key ps (inl refl) e
  comma-strict place t stack rest _ ps leads_item e = not_closing rest stack next_item ps (inr refl) e

  no_comma : (k : Kind) → goes_on after_key k ≡ true → k ≡ token.comma → ⊥
  no_comma token.comma e c = cc
  no_comma _ e c = cc

  mark-strict : (stack : List ContainerKind) (key mark : Token) (rest : Tokens) (ps : List Passed) (b : Bool) → StrictFrom rest →
      goes_on after_key mark.kind ≡ b → strict_fault buffer mark ≡ None →
      reads_colon_by strict_rules buffer stack key (next mark (strict_tokens buffer rest)) ≡ events_before ps finished → AreStrict buffer (next mark rest)
  mark-strict stack key mark rest ps false h c a e =
      absurd (never-stuck after_key _ ps (sym (colon-missing strict_rules buffer stack key mark (strict_tokens buffer rest) c) ∙ e))
  mark-strict stack key mark rest ps true h c a e =
      let first = begins-with (key_event buffer key mark) _ ps (sym (colon-stands strict_rules buffer stack key mark (strict_tokens buffer rest) c) ∙ e) in
      one_more mark rest a (λ k. absurd (no_comma mark.kind c k)) (h stack (within after_colon) first.others first.behind)

  -- Behind the root nothing is left.
  behind-strict : (ts : Tokens) (ps : List Passed) → behind_root strict_rules (strict_tokens buffer ts) ≡ events_before ps finished →
      AreStrict buffer ts
  unfolding strict_tokens
  behind-strict ended ps e = none_left
  behind-strict (refused f) ps e = absurd (never-stuck after_root (refused f) ps e)
  behind-strict (next t rest) ps e = by_fault (strict_fault buffer t) refl
    where
      by_fault : (o : Option Fault) → strict_fault buffer t ≡ o → AreStrict buffer (next t rest)
      by_fault None a = absurd (never-stuck after_root _ ps (sym (ap (behind_root strict_rules) (strict-next t rest None a)) ∙ e))
      by_fault (Some f) a = absurd (never-stuck after_root _ ps (sym (ap (behind_root strict_rules) (strict-next t rest (Some f) a)) ∙ e))

  over-strict : (ts : Tokens) (stack : List ContainerKind) (ps : List Passed) → Reads stack over ts ≡ events_before ps finished →
      AreStrict buffer ts
  unfolding reads_by
  over-strict ts stack ps e = behind-strict ts ps e

  token-strict : (stack : List ContainerKind) (place : Place) (t : Token) (rest : Tokens) (ps : List Passed) (o : Option Fault) →
      strict_fault buffer t ≡ o → StrictFrom rest → StrictAfterKey rest → Reads stack (within place) (next t rest) ≡ events_before ps finished →
      AreStrict buffer (next t rest)
  token-strict stack place t rest ps (Some f) a h g e =
      absurd (never-stuck place (refused f) ps (sym (ap (reads_by strict_rules buffer stack (within place)) (strict-next t rest (Some f) a) ∙ reads-refused strict_rules buffer stack place f) ∙ e))
  token-strict stack place t rest ps None a h g e =
      let there = sym (ap (reads_by strict_rules buffer stack (within place)) (strict-next t rest None a)) ∙ e in
      let taken = takes_turn strict_rules buffer stack place t (strict_tokens buffer rest) ps (place_turn place t.kind) refl there in
      let comma : t.kind ≡ token.comma → begins_closing rest ≡ false =
      λ k. comma-strict place t stack rest (place_turn place token.comma) ps (comma_there place)
      (takes_turn strict_rules buffer stack place t (strict_tokens buffer rest) ps (place_turn place token.comma) (ap (place_turn place) k) there) in
      one_more t rest a comma (follows-strict place t stack rest (place_turn place t.kind) ps h g taken)

  colon-token : (stack : List ContainerKind) (key mark : Token) (rest : Tokens) (ps : List Passed) (o : Option Fault) →
      strict_fault buffer mark ≡ o → StrictFrom rest →
      reads_colon_by strict_rules buffer stack key (strict_tokens buffer (next mark rest)) ≡ events_before ps finished → AreStrict buffer (next mark rest)
  colon-token stack key mark rest ps (Some f) a h e =
      absurd (never-stuck after_key (refused f) ps (sym (ap (reads_colon_by strict_rules buffer stack key) (strict-next mark rest (Some f) a) ∙ colon-refused strict_rules buffer stack key f) ∙ e))
  colon-token stack key mark rest ps None a h e =
      mark-strict stack key mark rest ps (goes_on after_key mark.kind) h refl a
      (sym (ap (reads_colon_by strict_rules buffer stack key) (strict-next mark rest None a)) ∙ e)

  mutual
    unfolding strict_tokens

    pub finished-strict : (ts : Tokens) → StrictFrom ts
    finished-strict ts stack over ps e = over-strict ts stack ps e
    finished-strict ended stack (within place) ps e = absurd (never-stuck place ended ps (sym (reads-ended strict_rules buffer stack place) ∙ e))
    finished-strict (refused f) stack (within place) ps e =
        absurd (never-stuck place (refused f) ps (sym (reads-refused strict_rules buffer stack place f) ∙ e))
    finished-strict (next t rest) stack (within place) ps e =
        token-strict stack place t rest ps (strict_fault buffer t) refl (finished-strict rest) (colon-strict rest) e

    colon-strict : (ts : Tokens) → StrictAfterKey ts
    colon-strict ended stack key ps e = absurd (never-stuck after_key ended ps (sym (colon-ended strict_rules buffer stack key) ∙ e))
    colon-strict (refused f) stack key ps e =
        absurd (never-stuck after_key (refused f) ps (sym (colon-refused strict_rules buffer stack key f) ∙ e))
    colon-strict (next mark rest) stack key ps e = colon-token stack key mark rest ps (strict_fault buffer mark) refl (finished-strict rest) e
