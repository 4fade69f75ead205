-- One part at most stands at a place of an input.
use Rattle.std.proofs.Common.{◌≡◌, ℕ, true, false, not, List, refl, sym, ap, subst, ◌∙◌, Result, Err}
use Rattle.facet_format.specs.Complaint.{Refusal}
use Rattle.facet_format.specs.Event.{ContainerKind}
use Rattle.facet_format.specs.Event as event
use Rattle.facet_format.specs.Part.{Part, value, broken, key, closing, nothing}
use Rattle.facet_format.specs.Span.{stop}
use Rattle.facet_json_token.specs.Token.{Token}
use Rattle.facet_json_token.specs.Tokens.{Tokens, next}
use Rattle.facet_json_grammar.specs.Future.{Stage, within, over, around}
use Rattle.facet_json_grammar.specs.Reader.{Reader}
use Rattle.facet_json_grammar.specs.Language.{Language, Rules, rules}
use Rattle.facet_json_grammar.specs.Node.{is_scalar}
use Rattle.facet_json_grammar.specs.Place.{Place, after_key, Turn, stops, passes, says, says_scalar, names, place_turn, leads_on, led}
use Rattle.facet_json_grammar.specs.Run.{Run, BreaksOff}
use Rattle.facet_json_grammar.specs.Unread.{IsStuckUnread, at_end, at_fault, misplaced, begins_value, closes_container, past_value, HasColon, colon_stands, colon_missing, PartFrom, separator, a_value, a_broken_value, a_key, a_closing, none_of_them, PartIn}
use Rattle.facet_json_grammar.specs.UnreadLaws.{OnePart}
use Rattle.facet_json_grammar.proofs.Runs.OneRun.{one_run, no_run_breaks_off, one_break}

-- ---- what a token is to a part

data Role : Type 0 where
  -- a comma, or a colon after a key: this place follows
  separates : Place → Role
  -- a value's first token
  begins : Role
  -- a key
  names_member : Role
  -- a closing bracket
  closes : Role
  is_misplaced : Role
  -- no place has such a token
  is_never : Role

-- the role of a token by what it is to a document
abbrev role : Turn → Role
role stops = is_misplaced
role (passes place) = separates place
role (says (event.struct_start kind)) = begins
role (says event.struct_end) = closes
role (says (event.sequence_start kind)) = begins
role (says event.sequence_end) = closes
role (says (event.field_key name)) = is_never
role (says (event.scalar v)) = is_never
role says_scalar = begins
role names = names_member

-- What begins a value has the role of that.
role-begins : (t : Turn) → begins_value t ≡ true → role t ≡ begins
role-begins (says (event.struct_start kind)) e = refl
role-begins (says (event.sequence_start kind)) e = refl
role-begins says_scalar e = refl
role-begins _ e = cc

-- What closes a container has the role of that.
role-closes : (t : Turn) → closes_container t ≡ true → role t ≡ closes
role-closes (says event.struct_end) e = refl
role-closes (says event.sequence_end) e = refl
role-closes _ e = cc

-- What no document goes on with is misplaced.
role-misplaced : (t : Turn) → leads_on t ≡ false → role t ≡ is_misplaced
role-misplaced stops e = refl
role-misplaced _ e = cc

-- ---- by the role of the first token

module _ (buffer : List ℕ) where
  -- Where no document goes on whatever the texts mean, tokens are refused in one way.
  stuck_unread-once : (place : Place) (ts : Tokens) (r s : Refusal) → IsStuckUnread buffer place ts r →
      IsStuckUnread buffer place ts s → r ≡ s
  stuck_unread-once place _ _ _ (at_end _) (at_end _) = refl
  stuck_unread-once place _ _ _ (at_fault _ f) (at_fault _ _) = refl
  stuck_unread-once place _ _ _ (misplaced _ t rest e) (misplaced _ _ _ f) = refl

  module _ (by : Rules) (stack : List ContainerKind) where
    -- A colon stands there or is missing, and is missing in one way.
    colon-once : (ts : Tokens) (a b : Result Reader Refusal) → HasColon buffer stack ts a → HasColon buffer stack ts b → a ≡ b
    colon-once _ _ _ (colon_stands mark rest e) (colon_stands _ _ f) = refl
    colon-once _ _ _ (colon_stands mark rest e) (colon_missing _ r (misplaced _ _ _ f)) = cc
    colon-once _ _ _ (colon_missing _ r (misplaced _ _ _ f)) (colon_stands mark rest e) = cc
    colon-once ts _ _ (colon_missing _ r p) (colon_missing _ s q) = ap Err (stuck_unread-once after_key ts r s p q)

    -- What the part is where the first token has this role.
    data PartBy (place : Place) (t : Token) (rest : Tokens) : Role → Part Reader → Type 0 where
      by_separator : (other : Place) (part : Part Reader) → PartFrom buffer by stack (led by other) rest part →
          PartBy place t rest (separates other) part
      by_value : (last : Token) (others : Tokens) → Run (next t rest) last others →
          PartBy place t rest begins (value (not (is_scalar t.kind)) t.span.offset (stop last.span) (past_value last.span stack))
      by_broken : (r : Refusal) → BreaksOff buffer (next t rest) r → PartBy place t rest begins (broken r)
      by_key : (result : Result Reader Refusal) → HasColon buffer stack rest result →
          PartBy place t rest names_member (key t.span.offset result)
      by_closing : PartBy place t rest closes (closing t.span.offset (past_value t.span (around stack)))
      by_nothing : (r : Refusal) → IsStuckUnread buffer place (next t rest) r → PartBy place t rest is_misplaced (nothing r)

    -- It is the same where the role is named otherwise.
    by-same : (place : Place) (t : Token) (rest : Tokens) {r s : Role} {part : Part Reader} → r ≡ s → PartBy place t rest r part →
        PartBy place t rest s part
    by-same place t rest {r} {s} {part} e p = subst (λ x. PartBy place t rest x part) e p

    -- A part is so by the first token's role.
    part-by : (place : Place) (t : Token) (rest : Tokens) (part : Part Reader) (r : Role) → role (place_turn place t.kind) ≡ r →
        PartFrom buffer by stack place (next t rest) part → PartBy place t rest r part
    part-by place t rest part r f (separator _ other _ _ _ e more) =
        by-same place t rest (sym (ap role e) ∙ f) (by_separator other part more)
    part-by place t rest _ r f (a_value _ _ last _ others e run) =
        by-same place t rest (sym (role-begins _ e) ∙ f) (by_value last others run)
    part-by place t rest _ r f (a_broken_value _ _ _ refusal e b) =
        by-same place t rest (sym (role-begins _ e) ∙ f) (by_broken refusal b)
    part-by place t rest _ r f (a_key _ _ _ result e colon) = by-same place t rest (sym (ap role e) ∙ f) (by_key result colon)
    part-by place t rest _ r f (a_closing _ _ _ e) = by-same place t rest (sym (role-closes _ e) ∙ f) by_closing
    part-by place t rest _ r f (none_of_them _ _ refusal (misplaced _ _ _ e)) =
        by-same place t rest (sym (role-misplaced _ e) ∙ f) (by_nothing refusal (misplaced place t rest e))

    -- ---- one part

    -- After a separator the part stands at the next place.
    part-separated : (place other : Place) (t : Token) (rest : Tokens) (part : Part Reader) → PartBy place t rest (separates other) part →
        PartFrom buffer by stack (led by other) rest part
    part-separated place other t rest part (by_separator _ _ more) = more

    -- A run is one value only.
    value-once : (place : Place) (t last : Token) (rest others : Tokens) (b : Part Reader) → Run (next t rest) last others →
        PartBy place t rest begins b →
        value (not (is_scalar t.kind)) t.span.offset (stop last.span) (past_value last.span stack) ≡ b
    value-once place t last rest others _ run (by_value end after other_run) =
        ap (λ (x : Token). value (not (is_scalar t.kind)) t.span.offset (stop x.span) (past_value x.span stack))
        (one_run (next t rest) others after last end run other_run).0
    value-once place t last rest others _ run (by_broken r b) = absurd (no_run_breaks_off buffer (next t rest) others last r run b)

    -- What breaks off is one broken value only.
    broken-once : (place : Place) (t : Token) (rest : Tokens) (r : Refusal) (b : Part Reader) → BreaksOff buffer (next t rest) r →
        PartBy place t rest begins b → broken r ≡ b
    broken-once place t rest r _ breaks (by_value end after run) = absurd (no_run_breaks_off buffer (next t rest) after end r run breaks)
    broken-once place t rest r _ breaks (by_broken s b) = ap broken (one_break buffer (next t rest) r s breaks b)

    -- A key is one only.
    key-once : (place : Place) (t : Token) (rest : Tokens) (result : Result Reader Refusal) (b : Part Reader) →
        HasColon buffer stack rest result → PartBy place t rest names_member b → key t.span.offset result ≡ b
    key-once place t rest result _ colon (by_key other other_colon) =
        ap (key t.span.offset) (colon-once rest result other colon other_colon)

    -- So is a closing bracket.
    closing-once : (place : Place) (t : Token) (rest : Tokens) (b : Part Reader) → PartBy place t rest closes b →
        closing t.span.offset (past_value t.span (around stack)) ≡ b
    closing-once place t rest _ by_closing = refl

    -- So is a token that is misplaced.
    nothing-once : (place : Place) (t : Token) (rest : Tokens) (r : Refusal) (b : Part Reader) →
        IsStuckUnread buffer place (next t rest) r → PartBy place t rest is_misplaced b → nothing r ≡ b
    nothing-once place t rest r _ stuck (by_nothing s other) = ap nothing (stuck_unread-once place (next t rest) r s stuck other)

    -- Tokens begin with one part at most.
    one-from : (place : Place) (ts : Tokens) (a b : Part Reader) → PartFrom buffer by stack place ts a → PartFrom buffer by stack place ts b →
        a ≡ b
    one-from place _ a b (separator _ other t rest _ e more) q =
        one-from (led by other) rest a b more (part-separated place other t rest b (part-by place t rest b _ (ap role e) q))
    one-from place _ _ b (a_value _ t last rest others e run) q =
        value-once place t last rest others b run (part-by place t rest b _ (role-begins _ e) q)
    one-from place _ _ b (a_broken_value _ t rest r e breaks) q =
        broken-once place t rest r b breaks (part-by place t rest b _ (role-begins _ e) q)
    one-from place _ _ b (a_key _ t rest result e colon) q =
        key-once place t rest result b colon (part-by place t rest b _ (ap role e) q)
    one-from place _ _ b (a_closing _ t rest e) q = closing-once place t rest b (part-by place t rest b _ (role-closes _ e) q)
    one-from place _ _ b (none_of_them _ _ r (at_end _)) (none_of_them _ _ s other) =
        ap nothing (stuck_unread-once place _ r s (at_end place) other)
    one-from place _ _ b (none_of_them _ _ r (at_fault _ f)) (none_of_them _ _ s other) =
        ap nothing (stuck_unread-once place _ r s (at_fault place f) other)
    one-from place _ _ b (none_of_them _ _ r (misplaced _ t rest e)) q =
        nothing-once place t rest r b (misplaced place t rest e) (part-by place t rest b _ (role-misplaced _ e) q)

-- At a stage one part stands at most.
one-in : (buffer : List ℕ) (language : Language) (s : Reader) (stage : Stage) (a b : Part Reader) → PartIn buffer language s stage a →
    PartIn buffer language s stage b → a ≡ b
one-in buffer language s over a b p q = p ∙ sym q
one-in buffer language s (within place) a b p q = one-from buffer (rules language) s.stack place _ a b p q

pub one-part : OnePart
one-part buffer language s a b p q = one-in buffer language s s.stage a b p q
