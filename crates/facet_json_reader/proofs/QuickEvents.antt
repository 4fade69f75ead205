-- What the token at an offset gives where the reader reaches it.
use Rattle.std.proofs.Common.{◌≡◌, ℕ, ◌+◌, ◌-◌, ◌≤◌, ◌<◌, Bool, true, false, List, [], ◌∷◌, Option, Some, None, length, drop, slice_get, refl, sym, ap, ap₂, ◌∙◌, arith}
use Rattle.std.specs.Prelude.{codes, IfSome}
use Rattle.std.specs.Option.{option_map}
use Rattle.std.proofs.lemmas.Option.{slice_get_within}
use Rattle.facet_json_reader.specs.declared.reader.Reader.{Reader}
use Rattle.facet_format.specs.declared.event.Span.{Span as RustSpan}
use Rattle.facet_format.specs.declared.event.ContainerKind.{ContainerKind as RustContainerKind}
use Rattle.facet_format.specs.declared.event.ContainerKind.TheVariants as containers
use Rattle.facet_format.specs.Bytes.{lower_n, lower_t, lower_f}
use Rattle.facet_format.specs.Bytes as mark_byte
use Rattle.facet_format.specs.Event.{ContainerKind, EventKind, Event, Passed, Scalar, borrowed}
use Rattle.facet_format.specs.Event as event
use Rattle.facet_format.specs.Span.{Span, stop, span_at}
use Rattle.facet_format.specs.Views.{span_of}
use Rattle.facet_format.specs.Number.{Hint}
use Rattle.facet_format.specs.NumberParts.{parts, parts_len, parts_hint, is_bare}
use Rattle.facet_json_token.specs.Gap.{Mode, plain}
use Rattle.facet_json_token.specs.Cut.{cut_here, past_gap, common_len, token_at, punctuation, start_of, opens_number, cut_number}
use Rattle.facet_json_token.proofs.FirstBytes.{cut_here-number}
use Rattle.facet_json_grammar.specs.Language.{Language, gaps, rules}
use Rattle.facet_json_grammar.specs.Refusal.{needs_meaning}
use Rattle.facet_json_grammar.specs.StrictTokens.{tokens_in, Allows}
use Rattle.facet_json_grammar.proofs.TokensIn.{allowed-plain}
use Rattle.facet_json_token.specs.Token.{Kind, Token, colon, comma, string}
use Rattle.facet_json_token.specs.Token as token
use Rattle.facet_json_token.specs.Tokens.{Tokens, next}
use Rattle.facet_json_grammar.specs.Future.{gives, Stage, within, after_value, stack_after, stage_after, turn, reads_by, reads_colon_by}
use Rattle.facet_json_grammar.specs.Meaning.{meaning_of, text_in_tree as text_in}
use Rattle.facet_json_grammar.specs.Place.{Place, root, after_colon, before_item, next_item, Turn, passes, says, says_scalar, names, place_turn, led}
use Rattle.facet_json_grammar.specs.Tree.{Tree}
use Rattle.facet_json_grammar.specs.Tree as tree
use Rattle.facet_json_grammar.specs.Walk.{event_at, scalar_event, key_event, scalar_of, name_of}
use Rattle.facet_json_grammar.specs.Node.{is_scalar}
use Rattle.facet_json_grammar.proofs.WalkComes.{object_here, array_here, TakesValue, at_root, of_member, of_list, of_next_item, follows, reads-turn, turn-plain, turn-meant, scalar_here}
use Rattle.facet_json_reader.proofs.TokensThere.{mark-cut, tokens_in-past_gap, word-cut}
use Rattle.facet_json_reader.proofs.TurnsAtPlaces.{is_mark, mark-plain}
use Rattle.facet_json_reader.specs.PlaceViews.{opening_bracket, closing_bracket, opening_token, closing_token, opening_event}
use Rattle.facet_json_reader.specs.Values.{IsPlainText, IsScalarThere}
use Rattle.facet_json_reader.specs.Inner.Quick.{MayBeValue, Reaches, IsWord, null_stands, true_stands, false_stands, Leaves, PassesQuickly}
use Rattle.facet_json_reader.specs.Views.{stage_of, comes_at, coming}

-- The places where a value may stand.
pub takes_value : (place : Place) → MayBeValue place → TakesValue place
takes_value root h = at_root
takes_value after_colon h = of_member
takes_value before_item h = of_list
takes_value next_item h = of_next_item
takes_value _ h = absurd h

-- After a gap the reader reaches the offset where it ends.
pub stands-reaches : (buffer : List ℕ) (language : Language) (r : Reader) (place : Place) (position at : ℕ) → stage_of r.stage ≡ within place →
    stop (span_of r.last) ≤ length buffer → position ≡ stop (span_of r.last) → at ≡ past_gap buffer position (gaps language) → Reaches buffer language r place at
stands-reaches buffer language r place position at stage fits here gap = record {
  from = position;
  fits = omega arith;
  gap = gap;
  comes = ap₂ (λ (s : Stage) (p : ℕ). comes_at buffer language r.contexts s p) (sym stage) here;
}

-- A literal is a scalar.
abbrev literal : (buffer : List ℕ) (at len : ℕ) (kind : Kind) (meant : Tree) → ((mode : Mode) → cut_here mode at (drop at buffer) ≡ token_at kind at len) →
    is_scalar kind ≡ true → meaning_of buffer kind ≡ Some meant → IsScalarThere buffer at len (scalar_of kind (Some meant))
literal buffer at len kind meant cut scalar means =
    record { kind = kind; meant = meant; cut = cut; scalar = scalar; means = means; read = refl }

pub word-there : (buffer : List ℕ) (at first : ℕ) (word : List ℕ) (value : Scalar) → IsWord first word value → slice_get buffer at ≡ Some first →
    common_len word (drop at buffer) ≡ length word → IsScalarThere buffer at (length word) value
unfolding start_of
word-there buffer at _ _ _ null_stands here all =
    literal buffer at 4 token.null tree.null (λ mode. word-cut mode buffer at lower_n (codes "null") token.null here refl all) refl refl
word-there buffer at _ _ _ true_stands here all =
    literal buffer at 4 token.true_literal (tree.bool true) (λ mode. word-cut mode buffer at lower_t (codes "true") token.true_literal here refl all) refl refl
word-there buffer at _ _ _ false_stands here all =
    literal buffer at 5 token.false_literal (tree.bool false) (λ mode. word-cut mode buffer at lower_f (codes "false") token.false_literal here refl all) refl refl

-- What is cut at a number's first byte is a number.
number_by : (mode : Mode) (at len n : ℕ) (bytes : List ℕ) (kind : Kind) (hint : Hint) (bare : Bool) →
    cut_number at bytes n hint bare ≡ token_at kind at len → kind ≡ token.number at (at + len) hint
number_by mode at len n [] kind hint true e = cc
number_by mode at len n (b ∷ bytes) kind hint true e = cc
number_by mode at len n bytes kind hint false e =
    let here : Token = record { kind = token.number at (at + n) hint; span = span_at at n } in
    let there : Token = record { kind = kind; span = span_at at len } in
    let same : here ≡ there = cc in
    let kinds : token.number at (at + n) hint ≡ kind = ap (λ (t : Token). t.kind) same in
    let lens : n ≡ len = ap (λ (t : Token). t.span.len) same in
    sym kinds ∙ ap (λ k. token.number at (at + k) hint) lens

pub number-kind : (buffer : List ℕ) (at len first : ℕ) (value : Scalar) (there : IsScalarThere buffer at len value) → slice_get buffer at ≡ Some first →
    start_of first ≡ opens_number → (hint : Hint) × (there.kind ≡ token.number at (at + len) hint)
number-kind buffer at len first value there here begins =
    let p = parts (drop at buffer) in (
      parts_hint p,
      number_by plain at len (parts_len p) (drop (at + 1) buffer) there.kind (parts_hint p) (is_bare p)
          (cut_here-number plain buffer at first here begins ∙ there.cut plain),
    )

-- A literal needs no meaning.
pub word-plain : (buffer : List ℕ) (at first : ℕ) (word : List ℕ) (value : Scalar) (is : IsWord first word value) (here : slice_get buffer at ≡ Some first)
    (all : common_len word (drop at buffer) ≡ length word) → needs_meaning (word-there buffer at first word value is here all).kind ≡ false
unfolding word-there
word-plain buffer at _ _ _ null_stands here all = refl
word-plain buffer at _ _ _ true_stands here all = refl
word-plain buffer at _ _ _ false_stands here all = refl

-- Brackets are cut at their bytes.
pub opening-cut : (mode : Mode) (buffer : List ℕ) (at : ℕ) (kind : RustContainerKind) → slice_get buffer at ≡ Some (opening_bracket kind) →
    cut_here mode at (drop at buffer) ≡ token_at (opening_token kind) at 1
unfolding start_of
opening-cut mode buffer at containers.Object here = mark-cut mode buffer at mark_byte.left_brace token.object_start here refl
opening-cut mode buffer at containers.Array here = mark-cut mode buffer at mark_byte.left_bracket token.array_start here refl

pub closing-cut : (mode : Mode) (buffer : List ℕ) (at : ℕ) (kind : RustContainerKind) → slice_get buffer at ≡ Some (closing_bracket kind) →
    cut_here mode at (drop at buffer) ≡ token_at (closing_token kind) at 1
unfolding start_of
closing-cut mode buffer at containers.Object here = mark-cut mode buffer at mark_byte.right_brace token.object_end here refl
closing-cut mode buffer at containers.Array here = mark-cut mode buffer at mark_byte.right_bracket token.array_end here refl

-- A container may open where a value may stand.
pub opens-here : (place : Place) (kind : RustContainerKind) → MayBeValue place → place_turn place (opening_token kind) ≡ says (opening_event kind)
opens-here place containers.Object may = object_here [] place (takes_value place may)
opens-here place containers.Array may = array_here [] place (takes_value place may)

-- A colon begins its token.
colon_begins : start_of mark_byte.colon ≡ punctuation colon
unfolding start_of
colon_begins = refl

-- the event of a key with this meaning
abbrev key_of : Token → Token → Option Tree → Passed
key_of key mark m = record {
  event = record { kind = event.field_key (name_of key.kind (text_in m)); span = key.span };
  last = mark.span;
}

-- After a key its colon comes.
reads_colon-there : (language : Language) (buffer : List ℕ) (stack : List ContainerKind) (key mark : Token) (ts rest : Tokens) → ts ≡ next mark rest → mark.kind ≡ colon →
    reads_colon_by (rules language) buffer stack key ts ≡ gives (key_event buffer key mark) (reads_by (rules language) buffer stack (within after_colon) rest)
unfolding reads_colon_by
reads_colon-there language buffer stack key mark ts rest e k = rw (e, k, reads_colon_by) refl

module _ (buffer : List ℕ) (language : Language) (r : Reader) (place : Place) (at : ℕ) where
  -- What comes, by the turn of the token there.
  turn-comes : (is : Reaches buffer language r place at) (kind : Kind) (len : ℕ) (way : Turn) →
      Allows language buffer (record { kind = kind; span = span_at at len }) →
      cut_here (gaps language) at (drop at buffer) ≡ token_at kind at len → turn buffer place (record { kind = kind; span = span_at at len }) ≡ way →
      coming buffer language r ≡ follows (rules language) buffer place (record { kind = kind; span = span_at at len }) r.contexts (tokens_in language buffer (stop (span_at at len))) way
  turn-comes is kind len way allowed cuts turns =
      sym is.comes
      ∙ ap (reads_by (rules language) buffer r.contexts (within place)) (tokens_in-past_gap language buffer is.from at len kind is.fits is.gap cuts allowed)
      ∙ reads-turn (rules language) buffer r.contexts place _ _ way turns

  -- Punctuation is judged by its place.
  mark-comes : (is : Reaches buffer language r place at) (kind : Kind) (len : ℕ) (way : Turn) →
      cut_here (gaps language) at (drop at buffer) ≡ token_at kind at len → place_turn place kind ≡ way → is_mark way ≡ true →
      coming buffer language r ≡ follows (rules language) buffer place (record { kind = kind; span = span_at at len }) r.contexts (tokens_in language buffer (stop (span_at at len))) way
  mark-comes is kind len way cuts turns mark =
      let plain = mark-plain place kind (ap is_mark turns ∙ mark) in
      turn-comes is kind len way (allowed-plain language buffer (record { kind = kind; span = span_at at len }) plain) cuts (turn-plain buffer place (record { kind = kind; span = span_at at len }) kind refl plain ∙ turns)

  -- A comma leads to the place after it.
  pub comma-reaches : (other : Place) (to : ℕ) → Reaches buffer language r place at → place_turn place comma ≡ passes other →
      slice_get buffer at ≡ Some mark_byte.comma → to ≡ past_gap buffer (at + 1) (gaps language) → Reaches buffer language r (led (rules language) other) to
  unfolding start_of
  comma-reaches other to is turns here gap = record {
    from = at + 1;
    fits = omega (arith, slice_get_within buffer at mark_byte.comma here);
    gap = gap;
    comes = sym (mark-comes is comma 1 (passes other) (mark-cut (gaps language) buffer at mark_byte.comma comma here refl) turns refl);
  }

  -- A bracket gives its event.
  pub bracket-passes : (kind : Kind) (way : EventKind) (s : Span) (t : Reader) → Reaches buffer language r place at →
      cut_here (gaps language) at (drop at buffer) ≡ token_at kind at 1 → place_turn place kind ≡ says way → s ≡ span_at at 1 →
      Leaves r way (span_at at 1) (span_at at 1) t → PassesQuickly buffer language r (record { kind = way; span = s }) t
  bracket-passes kind way s t is cuts turns whole left =
      rw whole (record {
        p = record { event = record { kind = way; span = span_at at 1 }; last = span_at at 1 };
        rest = reads_by (rules language) buffer (stack_after way r.contexts) (stage_after way r.contexts) (tokens_in language buffer (stop (span_at at 1)));
        comes = mark-comes is kind 1 (says way) cuts turns refl;
        event = refl;
        new = left.new;
      })

  -- A bracket that opens a container gives its event, where there is memory for it.
  pub start-passes : (kind : RustContainerKind) (o : Option RustSpan) (t : Reader) → MayBeValue place → Reaches buffer language r place at →
      slice_get buffer at ≡ Some (opening_bracket kind) → IfSome o (λ s. span_of s ≡ span_at at 1) →
      IfSome o (λ s. Leaves r (opening_event kind) (span_at at 1) (span_at at 1) t) →
      IfSome o (λ s. PassesQuickly buffer language r (record { kind = opening_event kind; span = span_of s }) t)
  start-passes kind None t may is here whole left = tt
  start-passes kind (Some s) t may is here whole left =
      bracket-passes (opening_token kind) (opening_event kind) (span_of s) t is (opening-cut (gaps language) buffer at kind here) (opens-here place kind may) whole left

  -- A scalar gives its event.
  pub scalar-passes : (len : ℕ) (value : Scalar) (s : Span) (t : Reader) → MayBeValue place → Reaches buffer language r place at → s ≡ span_at at len →
      (there : IsScalarThere buffer at len value) → Allows language buffer (record { kind = there.kind; span = span_at at len }) →
      Leaves r (event.scalar value) s s t → PassesQuickly buffer language r (record { kind = event.scalar value; span = s }) t
  scalar-passes len value s t here is same there allowed left =
      let whole : Token = record { kind = there.kind; span = span_at at len } in
      let rest = tokens_in language buffer (stop (span_at at len)) in
      let way = turn-meant buffer place whole there.meant there.means ∙ scalar_here buffer place there.kind (takes_value place here) there.scalar in
      let after = reads_by (rules language) buffer r.contexts (after_value r.contexts) rest in
      let read : scalar_event buffer whole ≡ record { event = record { kind = event.scalar value; span = span_at at len }; last = span_at at len } =
      ap (λ (m : Option Tree). event_at (event.scalar (scalar_of there.kind m)) whole) there.means
      ∙ ap (λ (v : Scalar). event_at (event.scalar v) whole) (sym there.read) in
      let passed = rw same at left in
      rw same (record {
        p = record { event = record { kind = event.scalar value; span = span_at at len }; last = span_at at len };
        rest = after;
        comes = turn-comes is there.kind len says_scalar allowed (there.cut (gaps language)) way ∙ ap (λ (p : Passed). gives p after) read;
        event = refl;
        new = passed.new;
      })

  -- A key and its colon give their event.
  pub key-passes : (finish mark : ℕ) (name : List ℕ) (s : Span) (t : Reader) →
      place_turn place (string (at + 1) finish false) ≡ names → s ≡ span_at at ((finish + 1) - at) →
      Allows language buffer (record { kind = string (at + 1) finish false; span = span_at at ((finish + 1) - at) }) → Reaches buffer language r place at →
      (text : IsPlainText buffer at finish name) → at < finish → finish < length buffer → mark ≡ past_gap buffer (finish + 1) (gaps language) →
      slice_get buffer mark ≡ Some mark_byte.colon →
      Leaves r (event.field_key (borrowed name)) (span_at at ((finish + 1) - at)) (span_at mark 1) t →
      PassesQuickly buffer language r (record { kind = event.field_key (borrowed name); span = s }) t
  key-passes finish mark name s t key long allowed is text some room gap here left =
      let kind = string (at + 1) finish false in
      let len = (finish + 1) - at in
      let whole : Token = record { kind = kind; span = span_at at len } in
      let meant : meaning_of buffer kind ≡ Some (tree.text name) = ap (option_map tree.text) text.means in
      let way : turn buffer place whole ≡ names = turn-meant buffer place whole (tree.text name) meant ∙ key in
      let ends : stop (span_at at len) ≡ finish + 1 = omega arith in
      let last : Token = record { kind = colon; span = span_at mark 1 } in
      let colons : tokens_in language buffer (stop (span_at at len)) ≡ next last (tokens_in language buffer (stop (span_at mark 1))) =
      ap (tokens_in language buffer) ends
      ∙ tokens_in-past_gap language buffer (finish + 1) mark 1 colon (omega arith) gap (mark-cut (gaps language) buffer mark mark_byte.colon colon here colon_begins)
      (allowed-plain language buffer last refl) in
      let after = reads_by (rules language) buffer r.contexts (within after_colon) (tokens_in language buffer (stop (span_at mark 1))) in
      let read : key_event buffer whole last ≡ record { event = record { kind = event.field_key (borrowed name); span = span_at at len }; last = span_at mark 1 } =
      ap (λ (m : Option Tree). key_of whole last m) meant in
      rw long (record {
        p = record { event = record { kind = event.field_key (borrowed name); span = span_at at len }; last = span_at mark 1 };
        rest = after;
        comes = turn-comes is kind len names allowed (text.cut (gaps language)) way ∙ reads_colon-there language buffer r.contexts whole last _ _ colons refl
            ∙ ap (λ (p : Passed). gives p after) read;
        event = refl;
        new = left.new;
      })
