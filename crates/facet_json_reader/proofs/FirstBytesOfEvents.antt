-- What the first byte of the next token says of the event that comes.
use Rattle.std.proofs.Common.{◌≡◌, ◌≢◌, ◌⊎◌, inl, inr, ℕ, suc, ◌+◌, ◌≤◌, Bool, true, false, cond, ◌==◌, List, [], ◌∷◌, length, drop, slice_get, slice_range, Option, Some, None, refl, sym, ap, ◌∙◌, arith}
use Rattle.std.specs.Prelude.{is_none, ◌&&◌, codes}
use Rattle.std.specs.Option.{option_map}
use Rattle.facet_format.specs.Event.{EventKind, Passed, ContainerKind, object, array}
use Rattle.facet_format.specs.NumberValue.{Number}
use Rattle.facet_format.specs.NumberValue as numbers
use Rattle.facet_format.specs.Event as event
use Rattle.facet_format.specs.Number.{Hint}
use Rattle.facet_format.specs.NumberParts.{parts, parts_len, parts_hint, is_bare}
use Rattle.facet_format.specs.Bytes.{lower_n, slash, star}
use Rattle.facet_json_token.specs.Gap.{Mode, plain, jsonc}
use Rattle.facet_json_token.specs.Cut.{Cut, nothing_left, token as a_token, fault, Start, punctuation, letter, opens_text, opens_number, opens_comment, opens_nothing, start_of, cut_here, cut_by, cut_text, cut_number, cut_slash, common_len, content_len, token_at, fault_at, past_gap, cut}
use Rattle.facet_json_token.specs.Token.{Kind, Token, unexpected_char, unexpected_eof, in_literal, in_block_comment}
use Rattle.facet_json_token.specs.Token as token
use Rattle.facet_json_token.specs.Tokens.{Tokens, ended, refused, next}
use Rattle.facet_json_token.specs.TokenList.{tokens_from}
use Rattle.facet_json_token.proofs.FirstBytes.{cut_here-by}
use Rattle.facet_json_token.proofs.TokensSteps.{by_first, tokens_by_first}
use Rattle.facet_json_grammar.specs.Future.{Future, gives, within, turn, is_meaningless, reads_by}
use Rattle.facet_json_grammar.specs.Language.{Language, Rules, lenient, strict, gaps, rules}
use Rattle.facet_json_grammar.specs.Node.{is_scalar}
use Rattle.facet_json_grammar.specs.Meaning.{meaning_of, tree_of_number}
use Rattle.facet_json_grammar.specs.Refusal.{needs_meaning}
use Rattle.facet_json_grammar.specs.Tree.{Tree}
use Rattle.facet_json_grammar.specs.Tree as tree
use Rattle.facet_json_token.specs.Decoded.{decoded}
use Rattle.facet_json_grammar.specs.Place.{Place, root, after_colon, before_item, next_item, Turn, stops, passes, says, says_scalar, names, place_turn, value_turn}
use Rattle.facet_json_grammar.specs.StrictTokens.{tokens_in}
use Rattle.facet_json_grammar.specs.Walk.{scalar_of, scalar_event, event_at}
use Rattle.facet_json_grammar.proofs.TokensIn.{strict-begins}
use Rattle.facet_json_grammar.proofs.WalkComes.{follows, reads-turn}
use Rattle.facet_json_reader.specs.declared.reader.Reader.{Reader}
use Rattle.facet_json_reader.specs.Inner.Quick.{MayBeValue, Reaches, ComesNo}
use Rattle.facet_json_reader.specs.declared.sought.Sought.{Sought}
use Rattle.facet_json_reader.specs.declared.sought.Sought.TheVariants as sought
use Rattle.facet_json_reader.specs.Inner.Soughts.{event_of_sought, byte_of_sought}
use Rattle.facet_json_reader.specs.Values.{IsValueThere}
use Rattle.facet_json_reader.specs.Views.{coming}
use Rattle.facet_json_reader.proofs.Fronts.{scalar-fits}

-- ---- what a byte begins

-- a test of tokens that no string and no number passes
pub record IsMarkTest (is : Kind → Bool) : Type 0 where
  pub texts : (start finish : ℕ) (mark : Bool) → is (token.string start finish mark) ≡ false
  pub numbers : (start finish : ℕ) (hint : Hint) → is (token.number start finish hint) ≡ false

-- the test of the token that a byte begins
abbrev pub begins : (Kind → Bool) → Start → Bool
begins is (punctuation kind) = is kind
begins is (letter letters kind) = is kind
begins is _ = false

module _ (is : Kind → Bool) (test : IsMarkTest is) (t : Token) where
  kind-same : (kind : Kind) (at len : ℕ) → is kind ≡ false → token_at kind at len ≡ a_token t → is t.kind ≡ false
  kind-same kind at len e same =
      let there : record { kind = kind; span = record { offset = at; len = len } } ≡ t = cc in
      ap (λ (x : Token). is x.kind) (sym there) ∙ e

  word-other : (at n : ℕ) (kind : Kind) (all : Bool) (after : Option ℕ) → is kind ≡ false →
      cond all (token_at kind at n)
      (elim after [ None ↦ fault_at (unexpected_eof in_literal) at n | Some b ↦ fault_at (unexpected_char b) (at + n) 1 ]) ≡ a_token t → is t.kind ≡ false
  word-other at n kind true after e same = kind-same kind at n e same
  word-other at n kind false None e same = cc
  word-other at n kind false (Some b) e same = cc

  text-other : (at : ℕ) (bytes : List ℕ) (found : Option ℕ) → cut_text at bytes found ≡ a_token t → is t.kind ≡ false
  text-other at bytes None same = cc
  text-other at bytes (Some n) same = kind-same _ at (suc (suc n)) (test.texts _ _ _) same

  number-other : (at : ℕ) (bytes : List ℕ) (n : ℕ) (hint : Hint) (bare : Bool) → cut_number at bytes n hint bare ≡ a_token t → is t.kind ≡ false
  number-other at [] n hint true same = cc
  number-other at (b ∷ bytes) n hint true same = cc
  number-other at bytes n hint false same = kind-same _ at n (test.numbers _ _ _) same

  slash-none : (mode : Mode) (at : ℕ) (bytes : List ℕ) → cut_slash mode at bytes ≡ a_token t → is t.kind ≡ false
  slash-none plain at bytes same = cc
  slash-none jsonc at [] same = cc
  slash-none jsonc at (b ∷ bytes) same = opened (b == star) same
    where
      opened : (v : Bool) → cond v (fault_at (unexpected_eof in_block_comment) at (suc (suc (length bytes)))) (fault_at (unexpected_char slash) at 1) ≡ a_token t →
          is t.kind ≡ false
      opened true h = cc
      opened false h = cc

  start-other : (start : Start) (mode : Mode) (at b : ℕ) (bytes : List ℕ) → begins is start ≡ false → cut_by start mode at b bytes ≡ a_token t →
      is t.kind ≡ false
  start-other (punctuation kind) mode at b bytes e same = kind-same kind at 1 e same
  start-other (letter letters kind) mode at b bytes e same =
      let n = common_len letters (b ∷ bytes) in word-other at n kind (n == length letters) (slice_get (b ∷ bytes) n) e same
  start-other opens_text mode at b bytes e same = text-other at bytes (content_len false bytes) same
  start-other opens_number mode at b bytes e same =
      let p = parts (b ∷ bytes) in number-other at bytes (parts_len p) (parts_hint p) (is_bare p) same
  start-other opens_comment mode at b bytes e same = slash-none mode at bytes same
  start-other opens_nothing mode at b bytes e same = cc

  -- Where a byte stands that begins no such token, no such token is cut.
  here-other : (mode : Mode) (buffer : List ℕ) (at b : ℕ) → slice_get buffer at ≡ Some b → begins is (start_of b) ≡ false →
      cut_here mode at (drop at buffer) ≡ a_token t → is t.kind ≡ false
  here-other mode buffer at b here e same =
      start-other (start_of b) mode at b (drop (at + 1) buffer) e (cut_here-by mode buffer at b (start_of b) here refl ∙ same)

  -- ---- the next token

  cut-first : (buffer : List ℕ) (mode : Mode) (c : Cut) (ts : Tokens) → by_first buffer mode c ≡ next t ts → c ≡ a_token t
  cut-first buffer mode nothing_left ts e = cc
  cut-first buffer mode (fault f) ts e = cc
  cut-first buffer mode (a_token u) ts e = let same : u ≡ t = cc in ap a_token same

  from-cut : (buffer : List ℕ) (mode : Mode) (from : ℕ) (ts : Tokens) → tokens_from buffer mode from ≡ next t ts → cut buffer from mode ≡ a_token t
  from-cut buffer mode from ts e =
      cut-first buffer mode (cut buffer from mode) ts (sym (tokens_by_first buffer mode from (cut buffer from mode) refl) ∙ e)

  in-cut : (language : Language) (buffer : List ℕ) (from : ℕ) (ts : Tokens) → tokens_in language buffer from ≡ next t ts →
      cut buffer from (gaps language) ≡ a_token t
  in-cut (lenient mode) buffer from ts e = from-cut buffer mode from ts e
  in-cut (strict mode) buffer from ts e =
      let b = strict-begins buffer (tokens_from buffer mode from) t ts e in from-cut buffer mode from b.rest b.first

  next-other : (language : Language) (buffer : List ℕ) (from at b : ℕ) (ts : Tokens) → at ≡ past_gap buffer from (gaps language) →
      slice_get buffer at ≡ Some b → begins is (start_of b) ≡ false → tokens_in language buffer from ≡ next t ts → is t.kind ≡ false
  unfolding cut
  next-other language buffer from at b ts gap here e first =
      let mode = gaps language in
      here-other mode buffer at b here e (ap (λ (p : ℕ). cut_here mode p (drop p buffer)) gap ∙ in-cut language buffer from ts first)

-- ---- the event that it gives

-- a test of events, and one of the tokens that give them where a value may stand
pub record AreAlike (event_is : EventKind → Bool) (is : Kind → Bool) : Type 0 where
  pub test : IsMarkTest is
  pub structs : event_is (event.struct_start object) ≡ false
  pub lists : event_is (event.sequence_start array) ≡ false
  pub ends : is token.array_end ≡ false → event_is event.sequence_end ≡ false
  pub scalars : (buffer : List ℕ) (t : Token) → is_meaningless buffer t ≡ false → is_scalar t.kind ≡ true → is t.kind ≡ false →
      event_is (event.scalar (scalar_of t.kind (meaning_of buffer t.kind))) ≡ false

-- A token is judged as one where a value may stand, or ends a list.
as-value : (place : Place) (kind : Kind) → MayBeValue place →
    (place_turn place kind ≡ value_turn kind) ⊎ ((place_turn place kind ≡ says event.sequence_end) × (kind ≡ token.array_end))
as-value root kind may = inl refl
as-value after_colon kind may = inl refl
as-value next_item kind may = inl refl
as-value before_item token.array_end may = inr (refl, refl)
as-value before_item _ may = inl refl
as-value _ kind may = absurd may

no_separator : (kind : Kind) (other : Place) (A : Type 0) → value_turn kind ≡ passes other → A
no_separator token.object_start other A e = cc
no_separator token.array_start other A e = cc
no_separator _ other A e = cc

is_scalar-there : (kind : Kind) → value_turn kind ≡ says_scalar → is_scalar kind ≡ true
is_scalar-there token.object_start e = cc
is_scalar-there token.array_start e = cc
is_scalar-there token.object_end e = cc
is_scalar-there token.array_end e = cc
is_scalar-there token.colon e = cc
is_scalar-there token.comma e = cc
is_scalar-there _ e = refl

no_name : (kind : Kind) (A : Type 0) → value_turn kind ≡ names → A
no_name token.object_start A e = cc
no_name token.array_start A e = cc
no_name _ A e = cc

module _ (event_is : EventKind → Bool) (is : Kind → Bool) (alike : AreAlike event_is is) where
  value-says : (kind : Kind) (given : EventKind) → value_turn kind ≡ says given → event_is given ≡ false
  value-says token.object_start given e =
      let same : event.struct_start object ≡ given = cc in ap event_is (sym same) ∙ alike.structs
  value-says token.array_start given e =
      let same : event.sequence_start array ≡ given = cc in ap event_is (sym same) ∙ alike.lists
  value-says _ given e = cc

  says-other : (place : Place) (kind : Kind) (given : EventKind) → MayBeValue place → is kind ≡ false → place_turn place kind ≡ says given →
      event_is given ≡ false
  says-other place kind given may other e = elim (as-value place kind may) [
    | inl v ↦ value-says kind given (sym v ∙ e)
    | inr end ↦
        let same : event.sequence_end ≡ given = cc (end.0, e) in
        ap event_is (sym same) ∙ alike.ends (ap is (sym end.1) ∙ other)
  ]

  module _ (by : Rules) (buffer : List ℕ) (stack : List ContainerKind) (place : Place) (may : MayBeValue place) (t : Token) (other : is t.kind ≡ false)
      (us : Tokens) (p : Passed) (rest : Future) where
    given-other : (m : Bool) (way : Turn) → is_meaningless buffer t ≡ m → place_turn place t.kind ≡ way →
        follows by buffer place t stack us (cond m stops way) ≡ gives p rest → event_is p.event.kind ≡ false
    given-other true way meant turns e = cc
    given-other false stops meant turns e = cc
    given-other false (passes next_place) meant turns e = elim (as-value place t.kind may) [
      | inl v ↦ no_separator t.kind next_place _ (sym v ∙ turns)
      | inr end ↦ let never : says event.sequence_end ≡ passes next_place = sym end.0 ∙ turns in cc
    ]
    given-other false (says given) meant turns e =
        let same : event_at given t ≡ p = cc in
        ap (λ (x : Passed). event_is x.event.kind) (sym same) ∙ says-other place t.kind given may other turns
    given-other false says_scalar meant turns e =
        let same : scalar_event buffer t ≡ p = cc in
        let scalar : is_scalar t.kind ≡ true = elim (as-value place t.kind may) [
          | inl v ↦ is_scalar-there t.kind (sym v ∙ turns)
          | inr end ↦ let never : says event.sequence_end ≡ says_scalar = sym end.0 ∙ turns in cc
        ] in
        ap (λ (x : Passed). event_is x.event.kind) (sym same) ∙ alike.scalars buffer t meant scalar other
    given-other false names meant turns e = elim (as-value place t.kind may) [
      | inl v ↦ no_name t.kind _ (sym v ∙ turns)
      | inr end ↦ let never : says event.sequence_end ≡ names = sym end.0 ∙ turns in cc
    ]

  tokens-other : (by : Rules) (buffer : List ℕ) (stack : List ContainerKind) (place : Place) (ts : Tokens) (p : Passed) (rest : Future) → MayBeValue place →
      ((t : Token) (us : Tokens) → ts ≡ next t us → is t.kind ≡ false) → reads_by by buffer stack (within place) ts ≡ gives p rest →
      event_is p.event.kind ≡ false
  unfolding reads_by
  tokens-other by buffer stack place ended p rest may others e = cc
  tokens-other by buffer stack place (refused f) p rest may others e = cc
  tokens-other by buffer stack place (next t us) p rest may others e =
      given-other by buffer stack place may t (others t us refl) us p rest (is_meaningless buffer t) (place_turn place t.kind) refl refl
      (sym (reads-turn by buffer stack place t us (turn buffer place t) refl) ∙ e)

  -- Where a value may stand and a byte stands that begins no such token, no such event comes.
  pub byte-excludes : (buffer : List ℕ) (language : Language) (r : Reader) (place : Place) (at b : ℕ) → Reaches buffer language r place at → MayBeValue place →
      slice_get buffer at ≡ Some b → begins is (start_of b) ≡ false → (p : Passed) (rest : Future) → coming buffer language r ≡ gives p rest →
      event_is p.event.kind ≡ false
  byte-excludes buffer language r place at b reached may here e p rest comes =
      tokens-other (rules language) buffer r.contexts place (tokens_in language buffer reached.from) p rest may
      (λ t us first. next-other is alike.test t language buffer reached.from at b us reached.gap here e first)
      (reached.comes ∙ comes)

-- ---- the end of a list, and null

-- its token
abbrev is_sought : Sought → Kind → Bool
is_sought sought.ListEnd token.array_end = true
is_sought sought.Null token.null = true
is_sought _ _ = false

-- its event
abbrev is_event : Sought → EventKind → Bool
is_event sought.ListEnd event.sequence_end = true
is_event sought.Null (event.scalar event.null) = true
is_event _ _ = false

sought-test : (which : Sought) → IsMarkTest (is_sought which)
sought-test sought.ListEnd = record { texts = λ start finish mark. refl; numbers = λ start finish hint. refl }
sought-test sought.Null = record { texts = λ start finish mark. refl; numbers = λ start finish hint. refl }

text-no_null : (kind : Kind) (o : Option (List ℕ)) → is_none (option_map tree.text o) ≡ false →
    is_event sought.Null (event.scalar (scalar_of kind (option_map tree.text o))) ≡ false
text-no_null kind None e = cc
text-no_null kind (Some t) e = refl

number-no_null : (kind : Kind) (o : Option Number) → is_none (option_map tree_of_number o) ≡ false →
    is_event sought.Null (event.scalar (scalar_of kind (option_map tree_of_number o))) ≡ false
number-no_null kind None e = cc
number-no_null kind (Some (numbers.u64 n)) e = refl
number-no_null kind (Some (numbers.u128 n)) e = refl
number-no_null kind (Some (numbers.i64 n)) e = refl
number-no_null kind (Some (numbers.i128 n)) e = refl
number-no_null kind (Some (numbers.decimal text)) e = refl

no_null : (buffer : List ℕ) (kind : Kind) → (needs_meaning kind && is_none (meaning_of buffer kind)) ≡ false → is_scalar kind ≡ true →
    is_sought sought.Null kind ≡ false → is_event sought.Null (event.scalar (scalar_of kind (meaning_of buffer kind))) ≡ false
no_null buffer token.null meant scalar other = cc
no_null buffer (token.string start finish mark) meant scalar other = text-no_null (token.string start finish mark) (decoded (slice_range buffer start finish)) meant
no_null buffer (token.number start finish hint) meant scalar other =
    number-no_null (token.number start finish hint) (numbers.number (slice_range buffer start finish) hint) meant
no_null buffer token.true_literal meant scalar other = refl
no_null buffer token.false_literal meant scalar other = refl
no_null buffer _ meant scalar other = cc

sought-alike : (which : Sought) → AreAlike (is_event which) (is_sought which)
sought-alike sought.ListEnd = record {
  test = sought-test sought.ListEnd;
  structs = refl;
  lists = refl;
  ends = λ e. e;
  scalars = λ buffer t meant scalar other. refl;
}
sought-alike sought.Null = record {
  test = sought-test sought.Null;
  structs = refl;
  lists = refl;
  ends = λ e. refl;
  scalars = λ buffer t meant scalar other. no_null buffer t.kind meant scalar other;
}

-- Another byte begins another token.
by-tests : (which : Sought) (b0 b1 b2 b3 b4 b5 b6 b7 b8 b9 b10 b11 : Bool) → elim which [ sought.ListEnd ↦ b3 | sought.Null ↦ b7 ] ≡ false →
    begins (is_sought which)
    (cond b0 (punctuation token.object_start) (cond b1 (punctuation token.object_end)
    (cond b2 (punctuation token.array_start) (cond b3 (punctuation token.array_end)
    (cond b4 (punctuation token.colon) (cond b5 (punctuation token.comma)
    (cond b6 opens_text (cond b7 (letter (codes "null") token.null)
    (cond b8 (letter (codes "true") token.true_literal) (cond b9 (letter (codes "false") token.false_literal)
    (cond b10 opens_number (cond b11 opens_comment opens_nothing)))))))))))) ≡ false
by-tests sought.ListEnd true _ _ _ _ _ _ _ _ _ _ _ e = refl
by-tests sought.Null true _ _ _ _ _ _ _ _ _ _ _ e = refl
by-tests sought.ListEnd false true _ _ _ _ _ _ _ _ _ _ e = refl
by-tests sought.Null false true _ _ _ _ _ _ _ _ _ _ e = refl
by-tests sought.ListEnd false false true _ _ _ _ _ _ _ _ _ e = refl
by-tests sought.Null false false true _ _ _ _ _ _ _ _ _ e = refl
by-tests sought.ListEnd false false false true _ _ _ _ _ _ _ _ e = cc
by-tests sought.Null false false false true _ _ _ _ _ _ _ _ e = refl
by-tests sought.ListEnd false false false false true _ _ _ _ _ _ _ e = refl
by-tests sought.Null false false false false true _ _ _ _ _ _ _ e = refl
by-tests sought.ListEnd false false false false false true _ _ _ _ _ _ e = refl
by-tests sought.Null false false false false false true _ _ _ _ _ _ e = refl
by-tests sought.ListEnd false false false false false false true _ _ _ _ _ e = refl
by-tests sought.Null false false false false false false true _ _ _ _ _ e = refl
by-tests sought.ListEnd false false false false false false false true _ _ _ _ e = refl
by-tests sought.Null false false false false false false false true _ _ _ _ e = cc
by-tests sought.ListEnd false false false false false false false false true _ _ _ e = refl
by-tests sought.Null false false false false false false false false true _ _ _ e = refl
by-tests sought.ListEnd false false false false false false false false false true _ _ e = refl
by-tests sought.Null false false false false false false false false false true _ _ e = refl
by-tests sought.ListEnd false false false false false false false false false false true _ e = refl
by-tests sought.Null false false false false false false false false false false true _ e = refl
by-tests sought.ListEnd false false false false false false false false false false false true e = refl
by-tests sought.Null false false false false false false false false false false false true e = refl
by-tests sought.ListEnd false false false false false false false false false false false false e = refl
by-tests sought.Null false false false false false false false false false false false false e = refl

start-other_byte : (which : Sought) (b : ℕ) → (b == byte_of_sought which) ≡ false → begins (is_sought which) (start_of b) ≡ false
unfolding start_of
start-other_byte sought.ListEnd b e = by-tests sought.ListEnd _ _ _ _ _ _ _ _ _ _ _ _ e
start-other_byte sought.Null b e = by-tests sought.Null _ _ _ _ _ _ _ _ _ _ _ _ e

no_such : (which : Sought) (kind : EventKind) → is_event which kind ≡ false → kind ≢ event_of_sought which
no_such sought.ListEnd kind other e = let is : is_event sought.ListEnd kind ≡ true = ap (is_event sought.ListEnd) e in cc
no_such sought.Null kind other e = let is : is_event sought.Null kind ≡ true = ap (is_event sought.Null) e in cc

-- Where a value may stand and another byte stands, it does not come.
pub other-byte : (which : Sought) (buffer : List ℕ) (language : Language) (r : Reader) (place : Place) (at b : ℕ) → Reaches buffer language r place at →
    MayBeValue place → slice_get buffer at ≡ Some b → (b == byte_of_sought which) ≡ false → ComesNo (event_of_sought which) buffer language r
other-byte which buffer language r place at b reached may here other p rest comes =
    no_such which p.event.kind
    (byte-excludes (is_event which) (is_sought which) (sought-alike which) buffer language r place at b reached may here (start-other_byte which b other) p rest comes)

-- ---- null

meant-needs : (needs : Bool) (o : Option Tree) (meant : Tree) → o ≡ Some meant → (needs && is_none o) ≡ false
meant-needs true o meant e = rw e refl
meant-needs false o meant e = refl

-- A scalar that is null begins with its first letter.
pub null-begins : (language : Language) (buffer : List ℕ) (at len b : ℕ) → slice_get buffer at ≡ Some b → (b == lower_n) ≡ false →
    IsValueThere language buffer at len event.null → ⊥
null-begins language buffer at len b here other there =
    let is = there.0.there in
    let t : Token = record { kind = is.kind; span = record { offset = at; len = len } } in
    let kind = here-other (is_sought sought.Null) (sought-test sought.Null) t plain buffer at b here (start-other_byte sought.Null b other) (is.cut plain) in
    let told = no_null buffer is.kind (meant-needs (needs_meaning is.kind) (meaning_of buffer is.kind) is.meant is.means) is.scalar kind in
    let value : event.null ≡ scalar_of is.kind (meaning_of buffer is.kind) = sym there.1 ∙ is.read ∙ ap (scalar_of is.kind) (sym is.means) in
    let null : is_event sought.Null (event.scalar event.null) ≡ false = ap (λ v. is_event sought.Null (event.scalar v)) value ∙ told in
    cc

-- Where the buffer has ended, no scalar stands.
pub null-within : (language : Language) (buffer : List ℕ) (at len : ℕ) → length buffer ≤ at → IsValueThere language buffer at len event.null → ⊥
null-within language buffer at len after there =
    let fits = scalar-fits buffer at len there.0.value there.0.there in omega (arith, fits.0, fits.1, after)
