-- How the part that stands first is passed, or refused.
use Rattle.std.specs.Prelude.{MatchResult, slice_range, codes}
use Rattle.std.specs.Str.{is_utf8}
use Rattle.std.proofs.Common.{◌≡◌, ◌∙◌, ◌-◌, inl, inr, ℕ, Bool, true, false, not, List, Result, Ok, Err, refl, sym, ap}
use Rattle.facet_format.specs.declared.event.Span.{Span as RustSpan}
use Rattle.facet_json_token.specs.declared.token.SpannedToken.{SpannedToken}
use Rattle.facet_json_reader.specs.declared.refusal.Refused.{Refused}
use Rattle.facet_json_parser.specs.declared.part.Part.TheVariants as parts
use Rattle.facet_format.specs.Complaint.{Refusal}
use Rattle.facet_format.specs.Cursor.{no_memory_at}
use Rattle.facet_format.specs.Event.{ContainerKind, object, array}
use Rattle.facet_format.specs.Part.{Part, value, broken, key, closing, has_brackets, no_raw, captured}
use Rattle.facet_format.specs.Span.{Span, span_at, stop}
use Rattle.facet_format.specs.Views.{span_of}
use Rattle.facet_json_token.specs.Token.{Kind, Token}
use Rattle.facet_json_token.specs.Token as token
use Rattle.facet_json_token.specs.Tokens.{Tokens, ended, refused, next}
use Rattle.facet_json_token.specs.TokenList.{tokens_from}
use Rattle.facet_json_grammar.specs.Reader.{Reader}
use Rattle.facet_json_grammar.specs.Future.{around}
use Rattle.facet_json_grammar.specs.Language.{Language, gaps}
use Rattle.facet_json_grammar.specs.Node.{is_scalar}
use Rattle.facet_json_grammar.specs.Place.{Place, root, before_key, after_key, after_colon, after_member, before_item, next_key, next_item, after_item, Turn, stops, leads_on, place_turn, value_turn, says_scalar, goes_on}
use Rattle.facet_json_grammar.specs.Run.{opening}
use Rattle.facet_json_grammar.specs.Unread.{begins_value, past_value, past_key, at_end, at_fault, misplaced, HasColon, colon_stands, colon_missing, a_value, a_broken_value, a_key, a_closing, PartAt}
use Rattle.facet_json_grammar.proofs.Runs.OneRun.{runs_or_breaks_off}
use Rattle.facet_json_reader.specs.PlaceViews.{refused_of}
use Rattle.facet_json_parser.specs.RunViews.{EndsRun, IsRunRefused, breaks_off, without_memory, AnswersRun}
use Rattle.facet_json_parser.specs.PartViews.{IsFirst, Skips, skips, skips_without_memory, skips_nothing, Captures, captures, captures_without_memory, captures_nothing}

-- ---- values

begins-on : (w : Turn) → begins_value w ≡ true → leads_on w ≡ true
begins-on stops e = cc
begins-on _ e = refl

-- Where a token begins a value, it is there what it is wherever a value may stand.
value-anywhere : (place : Place) (kind : Kind) → begins_value (place_turn place kind) ≡ true → place_turn place kind ≡ value_turn kind
value-anywhere root kind e = refl
value-anywhere after_colon kind e = refl
value-anywhere before_item token.array_end e = cc
value-anywhere before_item kind e = refl
value-anywhere before_key token.object_end e = cc
value-anywhere before_key (token.string a b h) e = cc
value-anywhere before_key _ e = cc
value-anywhere after_key token.colon e = cc
value-anywhere after_member token.comma e = cc
value-anywhere after_member token.object_end e = cc
value-anywhere after_item token.comma e = cc
value-anywhere after_item token.array_end e = cc
value-anywhere next_item kind e = refl
value-anywhere next_key (token.string a b h) e = cc
value-anywhere next_key _ e = cc
value-anywhere _ _ e = cc

-- So it begins one at the root.
pub value-root : (place : Place) (kind : Kind) → begins_value (place_turn place kind) ≡ true → goes_on root kind ≡ true
value-root place kind e = begins-on (value_turn kind) (sym (ap begins_value (value-anywhere place kind e)) ∙ e)

-- What reads as a scalar is one.
scalar-value : (kind : Kind) → value_turn kind ≡ says_scalar → is_scalar kind ≡ true
scalar-value token.null e = refl
scalar-value token.true_literal e = refl
scalar-value token.false_literal e = refl
scalar-value (token.string a b h) e = refl
scalar-value (token.number a b h) e = refl
scalar-value _ e = cc

pub scalar-turns : (place : Place) (kind : Kind) → place_turn place kind ≡ says_scalar → is_scalar kind ≡ true
scalar-turns place kind e = scalar-value kind (sym (value-anywhere place kind (ap begins_value e)) ∙ e)

-- An opening bracket is no scalar.
bracket-no_scalar : (kind : ContainerKind) (k : Kind) → k ≡ opening kind → not (is_scalar k) ≡ true
bracket-no_scalar object k e = ap (λ x. not (is_scalar x)) e
bracket-no_scalar array k e = ap (λ x. not (is_scalar x)) e

-- the kind of the first of some tokens
abbrev first_kind : Tokens → Kind
first_kind (next t ts) = t.kind
first_kind _ = token.null

module _ (buffer : List ℕ) (language : Language) (s : Reader) (last : Span) where
  module _ (first : SpannedToken) (i : IsFirst buffer language s (parts.Value first)) where
    abbrev here : Token
    here = record { kind = i.kind; span = span_of first.span }

    abbrev rest : Tokens
    rest = tokens_from buffer (gaps language) (stop (span_of first.span))

    -- A value stands there, which ends with these bytes.
    pub record ValueEnds (final : Span) : Type 0 where
      pub brackets : Bool
      pub stands : PartAt buffer language s (value brackets first.span.offset (stop final) (past_value final s.stack))

    -- A value stands there, which breaks off and is refused so; or for whose brackets there is no memory.
    pub data ValueRefused : Refusal → Type 0 where
      it_breaks : (r : Refusal) → PartAt buffer language s (broken r) → ValueRefused r
      no_memory : (p : Part Reader) → PartAt buffer language s p → has_brackets p ≡ true → ValueRefused (no_memory_at last)

    -- The run of a value is passed.
    pub value-ends : (final : Span) → EndsRun buffer (gaps language) (next here rest) final → ValueEnds final
    value-ends final ends =
        let is = ends.is_last in
        record {
          brackets = not (is_scalar i.kind);
          stands = rw is (i.leads _ (a_value i.place here ends.last rest _ i.begins.1 ends.run));
        }

    unremembered : (kind : ContainerKind) → i.kind ≡ opening kind → ValueRefused (no_memory_at last)
    unremembered kind e = elim (runs_or_breaks_off buffer kind here rest e) [
      | inl run ↦ no_memory _ (i.leads _ (a_value i.place here run.0 rest run.1 i.begins.1 run.2)) (bracket-no_scalar kind i.kind e)
      | inr breaks ↦ no_memory _ (i.leads _ (a_broken_value i.place here rest breaks.0 i.begins.1 breaks.1)) refl
    ]

    refused_by : (ts : Tokens) (r : Refusal) → IsRunRefused buffer last ts r → ts ≡ next here rest → ValueRefused r
    refused_by _ _ (breaks_off ts r b) e = it_breaks r (i.leads _ (a_broken_value i.place here rest r i.begins.1 (rw e at b)))
    refused_by _ _ (without_memory kind bracket inner opens) e = unremembered kind (sym (ap first_kind e) ∙ opens)

    -- It is refused.
    pub value-refused : (r : Refusal) → IsRunRefused buffer last (next here rest) r → ValueRefused r
    value-refused r is = refused_by _ r is refl

    skip-refused : (r : Refusal) → ValueRefused r → Skips buffer language s last (parts.Value first) (Err r)
    skip-refused _ (it_breaks r stands) = skips_nothing (broken r) r stands refl
    skip-refused _ (no_memory p stands brackets) = skips_without_memory p stands brackets

    -- A value is skipped as its run is passed.
    pub value-skips : (result : Result RustSpan Refused) → AnswersRun buffer (gaps language) here last result →
        MatchResult result
        (λ final. Skips buffer language s last (parts.Value first) (Ok (span_of final)))
        (λ r. Skips buffer language s last (parts.Value first) (Err (refused_of r)))
    value-skips (Ok final) ends = skips _ (span_of final) (value-ends (span_of final) ends).stands refl
    value-skips (Err r) is = skip-refused (refused_of r) (value-refused (refused_of r) is)

    -- A value that is refused is not captured.
    pub capture-refused : (r : Refusal) → ValueRefused r → Captures buffer language s last (parts.Value first) (Err r)
    capture-refused _ (it_breaks r stands) = captures_nothing (broken r) r stands refl
    capture-refused _ (no_memory p stands brackets) = captures_without_memory p stands brackets

    module _ (final : Span) (ends : ValueEnds final) (finish : ℕ) (e : finish ≡ stop final) where
      -- the value's bytes
      abbrev pub bytes : List ℕ
      bytes = slice_range buffer first.span.offset finish

      captured-as : (b : Bool) → is_utf8 bytes ≡ b →
          captured first.span.offset (stop final) (past_value final s.stack) (slice_range buffer first.span.offset (stop final))
          (is_utf8 (slice_range buffer first.span.offset (stop final)))
          ≡ captured first.span.offset finish (past_value final s.stack) bytes b
      captured-as b is = rw (← e, is) refl

      -- A value that is UTF-8 is captured.
      pub text-captured : (text : List ℕ) → text ≡ bytes → is_utf8 bytes ≡ true →
          Captures buffer language s last (parts.Value first) (Ok (text, final))
      text-captured text t is = rw t (captures _ bytes final ends.stands (captured-as true is))

      -- A value that is not UTF-8 is refused.
      pub text-refused : (r : Refusal) → is_utf8 bytes ≡ false →
          r ≡ no_raw (codes "invalid UTF-8 in raw JSON") (span_at first.span.offset (finish - first.span.offset)) →
          Captures buffer language s last (parts.Value first) (Err r)
      text-refused r is t = rw t (captures_nothing _ _ ends.stands (captured-as false is))

  -- ---- keys

  module _ (span : RustSpan) (i : IsFirst buffer language s (parts.Key span)) where
    abbrev after : Tokens
    after = tokens_from buffer (gaps language) (stop (span_of span))

    key-stands : (result : Result Reader Refusal) → HasColon buffer s.stack after result →
        PartAt buffer language s (key span.offset result)
    key-stands result colon = i.leads _ (a_key i.place (record { kind = i.kind; span = span_of span }) after result i.begins colon)

    -- A key is skipped with its colon, or refused.
    pub key-skips : (result : Result RustSpan Refused) →
        MatchResult result
        (λ mark. HasColon buffer s.stack after (Ok (past_key (span_of mark) s.stack)))
        (λ r. HasColon buffer s.stack after (Err (refused_of r))) →
        MatchResult result
        (λ mark. Skips buffer language s last (parts.Key span) (Ok (span_of mark)))
        (λ r. Skips buffer language s last (parts.Key span) (Err (refused_of r)))
    key-skips (Ok mark) colon = skips _ (span_of mark) (key-stands _ colon) refl
    key-skips (Err r) colon = skips_nothing _ (refused_of r) (key-stands _ colon) refl

    by_mark : (mark : Token) (ts : Tokens) (b : Bool) → goes_on after_key mark.kind ≡ b →
        (result : Result Reader Refusal) × HasColon buffer s.stack (next mark ts) result
    by_mark mark ts true e = (Ok (past_key mark.span s.stack), colon_stands mark ts e)
    by_mark mark ts false e = (Err _, colon_missing (next mark ts) _ (misplaced after_key mark ts e))

    -- A colon stands after it, or is missing.
    colon_or_none : (ts : Tokens) → (result : Result Reader Refusal) × HasColon buffer s.stack ts result
    colon_or_none ended = (Err _, colon_missing ended _ (at_end after_key))
    colon_or_none (refused f) = (Err _, colon_missing (refused f) _ (at_fault after_key f))
    colon_or_none (next mark ts) = by_mark mark ts (goes_on after_key mark.kind) refl

    -- A key is not captured.
    pub key-captures : (r : Refusal) → r ≡ no_raw (codes "unexpected field key in capture_raw") (span_at span.offset 0) →
        Captures buffer language s last (parts.Key span) (Err r)
    key-captures r e =
        let colon = colon_or_none after in
        captures_nothing (key span.offset colon.0) r (key-stands colon.0 colon.1) (ap Err (sym e))

  -- ---- closing brackets

  module _ (span : RustSpan) (i : IsFirst buffer language s (parts.Closing span)) where
    closing-stands : PartAt buffer language s (closing span.offset (past_value (span_of span) (around s.stack)))
    closing-stands = i.leads _ (a_closing i.place (record { kind = i.kind; span = span_of span }) _ i.begins)

    -- A closing bracket is skipped.
    pub closing-skips : Skips buffer language s last (parts.Closing span) (Ok (span_of span))
    closing-skips = skips _ (span_of span) closing-stands refl

    -- A closing bracket is not captured.
    pub closing-captures : (r : Refusal) → r ≡ no_raw (codes "unexpected end event in capture_raw") (span_at span.offset 0) →
        Captures buffer language s last (parts.Closing span) (Err r)
    closing-captures r e = captures_nothing _ r closing-stands (ap Err (sym e))
