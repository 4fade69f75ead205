-- The fault that `first_fault` computes is the one that `FirstFault` gives (specs/Fault.antt), and a content has a text or a fault.
use Rattle.std.proofs.Common.{◌≡◌, ℕ, zero, suc, ◌+◌, ◌-◌, ◌<◌, ◌≤◌, ◌⊎◌, inl, inr, Bool, true, false, cond, ◌&&◌, List, [], ◌∷◌, ◌++◌, length, take, drop, Option, Some, None, refl, sym, ap, ◌∙◌, arith, length-append, length-drop, length-take}
use Rattle.std.specs.Prelude.{◌==◌, nat_lt, slice_range}
use Rattle.std.specs.Char.{encode_utf8}
use Rattle.std.specs.Str.{StartsWithNoChar}
use Rattle.std.proofs.lemmas.Bool.{and_parts, eqb-true, ltb-false}
use Rattle.std.proofs.lemmas.Bool.Decides.{nat_tests}
use Rattle.std.proofs.lemmas.List.{take-append-drop}
use Rattle.facet_format.specs.Bytes.{backslash, lower_u}
use Rattle.facet_json_token.specs.Decode.{short_escape, code_unit, is_high_surrogate, is_low_surrogate, surrogate_pair, Piece, Decodes, empty, piece}
use Rattle.facet_json_token.specs.Decoded.{utf8_at, pair_of, low_at, unit_of, unit_at, short_of, escape_at, piece_at, decoded}
use Rattle.facet_json_token.specs.Fault.{DecodeFault, decode_fault_at, fault_after, no_character, not_digits, ends_in_digits, ends_in_escape, goes_on_unit, FaultHere, lone_backslash, few_digits, other_digits, high_alone, second_digits, second_other, low_first, escaped_other, not_utf8, FirstFault, here, after}
use Rattle.facet_json_token.specs.FirstFault.{second_fault, pair_fault, digits_fault, unit_fault, escape_fault, fault_of, fault_past, first_fault, FirstFaultIsFound}
use Rattle.facet_json_token.specs.DecodeLaws.{TextOrFault}
use Rattle.facet_json_token.proofs.CharAt.{found, utf8_at-encoded, utf8_at-leads}
use Rattle.facet_json_token.proofs.DecodeLaws.{BeginsWithPiece, piece_at-begins, escape_at-short_of, escape_at-unit_of, piece_at-piece, decodes-decoded}
use Rattle.facet_json_token.proofs.EscapeSteps.{short_of-none}

-- ---- where no piece is found, the fault stands

-- a high surrogate's escape, after which no second half is found
pair-faulty : (a b c d high : ℕ) (bytes : List ℕ) → code_unit a b c d ≡ Some high → is_high_surrogate high ≡ true →
    low_at high bytes ≡ None → FaultHere (backslash ∷ lower_u ∷ a ∷ b ∷ c ∷ d ∷ bytes) (pair_fault bytes)
pair-faulty a b c d high (s ∷ t ∷ e ∷ f ∷ g ∷ h ∷ bytes) is is_high lost = by ((s == backslash) && (t == lower_u)) refl lost
  where
    low : (o : Option ℕ) → code_unit e f g h ≡ o → pair_of high o ≡ None →
        FaultHere (backslash ∷ lower_u ∷ a ∷ b ∷ c ∷ d ∷ backslash ∷ lower_u ∷ e ∷ f ∷ g ∷ h ∷ bytes) (second_fault o)
    low None same k = second_digits a b c d high e f g h bytes is is_high same
    low (Some u) same k = other (is_low_surrogate u) refl k
      where
        other : (x : Bool) → is_low_surrogate u ≡ x → cond x (found (surrogate_pair high u) 12) None ≡ None →
            FaultHere (backslash ∷ lower_u ∷ a ∷ b ∷ c ∷ d ∷ backslash ∷ lower_u ∷ e ∷ f ∷ g ∷ h ∷ bytes) (second_fault (Some u))
        other true test k = cc
        other false test k = second_other a b c d high e f g h u bytes is is_high same test

    by : (x : Bool) → ((s == backslash) && (t == lower_u)) ≡ x → cond x (pair_of high (code_unit e f g h)) None ≡ None →
        FaultHere (backslash ∷ lower_u ∷ a ∷ b ∷ c ∷ d ∷ s ∷ t ∷ e ∷ f ∷ g ∷ h ∷ bytes)
        (cond ((s == backslash) && (t == lower_u)) (second_fault (code_unit e f g h)) (decode_fault_at no_character 0 6))
    by true tests k =
        let both = and_parts (s == backslash) (t == lower_u) tests in
        rw (eqb-true s backslash both.0, eqb-true t lower_u both.1) (low (code_unit e f g h) refl k)
    by false tests k = rw tests (high_alone a b c d high (s ∷ t ∷ e ∷ f ∷ g ∷ h ∷ bytes) is is_high tests)
pair-faulty a b c d high [] is is_high lost = high_alone a b c d high _ is is_high refl
pair-faulty a b c d high (s ∷ []) is is_high lost = high_alone a b c d high _ is is_high refl
pair-faulty a b c d high (s ∷ t ∷ []) is is_high lost = high_alone a b c d high _ is is_high refl
pair-faulty a b c d high (s ∷ t ∷ e ∷ []) is is_high lost = high_alone a b c d high _ is is_high refl
pair-faulty a b c d high (s ∷ t ∷ e ∷ f ∷ []) is is_high lost = high_alone a b c d high _ is is_high refl
pair-faulty a b c d high (s ∷ t ∷ e ∷ f ∷ g ∷ []) is is_high lost = high_alone a b c d high _ is is_high refl

-- an escape with four bytes
digits-faulty : (a b c d : ℕ) (bytes : List ℕ) (o : Option ℕ) → code_unit a b c d ≡ o → unit_of bytes o ≡ None →
    FaultHere (backslash ∷ lower_u ∷ a ∷ b ∷ c ∷ d ∷ bytes) (digits_fault bytes o)
digits-faulty a b c d bytes None is lost = other_digits a b c d bytes is
digits-faulty a b c d bytes (Some u) is lost = by (is_high_surrogate u) (is_low_surrogate u) refl refl lost
  where
    by : (x y : Bool) → is_high_surrogate u ≡ x → is_low_surrogate u ≡ y →
        cond x (low_at u bytes) (cond y None (Some (u, 6))) ≡ None →
        FaultHere (backslash ∷ lower_u ∷ a ∷ b ∷ c ∷ d ∷ bytes) (cond x (pair_fault bytes) (decode_fault_at no_character 2 4))
    by true y p q k = pair-faulty a b c d u bytes is p k
    by false true p q k = low_first a b c d u bytes is q
    by false false p q k = cc

-- a backslash and `u`
unit-faulty : (bytes : List ℕ) → unit_at bytes ≡ None → FaultHere (backslash ∷ lower_u ∷ bytes) (unit_fault bytes)
unfolding unit_at
unit-faulty (a ∷ b ∷ c ∷ d ∷ bytes) lost = digits-faulty a b c d bytes (code_unit a b c d) refl lost
unit-faulty [] lost = few_digits [] (omega arith)
unit-faulty (a ∷ []) lost = few_digits (a ∷ []) (omega arith)
unit-faulty (a ∷ b ∷ []) lost = few_digits (a ∷ b ∷ []) (omega arith)
unit-faulty (a ∷ b ∷ c ∷ []) lost = few_digits (a ∷ b ∷ c ∷ []) (omega arith)

-- a backslash and any other byte
short-faulty : (b : ℕ) (bytes : List ℕ) (o : Option ℕ) → short_of b o ≡ None →
    FaultHere (backslash ∷ b ∷ bytes) (decode_fault_at no_character 1 1)
short-faulty b bytes (Some c) lost = cc
short-faulty b bytes None lost = by (nat_lt b 0x80) refl lost
  where
    by : (x : Bool) → nat_lt b 0x80 ≡ x → cond x (found b 2) None ≡ None →
        FaultHere (backslash ∷ b ∷ bytes) (decode_fault_at no_character 1 1)
    by true test k = cc
    by false test k = escaped_other b bytes test

-- a backslash
escape-faulty : (bytes : List ℕ) → escape_at bytes ≡ None → FaultHere (backslash ∷ bytes) (escape_fault bytes)
unfolding escape_at
escape-faulty [] lost = lone_backslash
escape-faulty (b ∷ bytes) lost = by (b == lower_u) refl lost
  where
    by : (x : Bool) → (b == lower_u) ≡ x → cond x (unit_at bytes) (short_of b (short_escape b)) ≡ None →
        FaultHere (backslash ∷ b ∷ bytes) (cond x (unit_fault bytes) (decode_fault_at no_character 1 1))
    by true is k = rw (eqb-true b lower_u is) (unit-faulty bytes k)
    by false is k = short-faulty b bytes (short_escape b) k

-- Where no character is found, none begins.
utf8_at-none : (l : List ℕ) → utf8_at l ≡ None → StartsWithNoChar l
utf8_at-none l lost c rest is e =
    let found : utf8_at l ≡ Some (c, length (encode_utf8 c)) = ap utf8_at e ∙ utf8_at-encoded c rest is in
    cc

-- Where no piece is found, the computed fault stands.
pub faulty : (l : List ℕ) → 0 < length l → piece_at l ≡ None → FaultHere l (fault_of l)
unfolding piece_at fault_of
faulty [] some lost = absurd (omega arith)
faulty (b ∷ bytes) some lost = by (b == backslash) refl lost
  where
    by : (x : Bool) → (b == backslash) ≡ x → cond x (escape_at bytes) (utf8_at (b ∷ bytes)) ≡ None →
        FaultHere (b ∷ bytes) (cond x (escape_fault bytes) (decode_fault_at no_character 0 1))
    by true is k = rw (eqb-true b backslash is) (escape-faulty bytes k)
    by false is k = not_utf8 b bytes is (utf8_at-none (b ∷ bytes) k)

-- ---- where a fault stands, no piece is found

-- No piece is found at the start of the bytes, and this is their fault.
pub record Lost (l : List ℕ) (f : DecodeFault) : Type 0 where
  pub none : piece_at l ≡ None
  pub computed : fault_of l ≡ f

lost-few : (digits : List ℕ) → length digits < 4 →
    Lost (backslash ∷ lower_u ∷ digits) (decode_fault_at ends_in_digits 0 (2 + length digits))
unfolding piece_at escape_at unit_at fault_of
lost-few [] few = record { none = refl; computed = refl }
lost-few (a ∷ []) few = record { none = refl; computed = refl }
lost-few (a ∷ b ∷ []) few = record { none = refl; computed = refl }
lost-few (a ∷ b ∷ c ∷ []) few = record { none = refl; computed = refl }
lost-few (a ∷ b ∷ c ∷ d ∷ bytes) few = absurd (omega arith)

-- an escape with four bytes
lost-digits : (a b c d : ℕ) (bytes : List ℕ) (o : Option ℕ) (f : DecodeFault) → code_unit a b c d ≡ o → unit_of bytes o ≡ None →
    digits_fault bytes o ≡ f → Lost (backslash ∷ lower_u ∷ a ∷ b ∷ c ∷ d ∷ bytes) f
unfolding fault_of
lost-digits a b c d bytes o f is lost fault =
    record { none = escape_at-unit_of a b c d bytes o is ∙ lost; computed = ap (digits_fault bytes) is ∙ fault }

-- the same, where the digits are a high surrogate
lost-high : (a b c d high : ℕ) (bytes : List ℕ) (f : DecodeFault) → code_unit a b c d ≡ Some high → is_high_surrogate high ≡ true →
    low_at high bytes ≡ None → pair_fault bytes ≡ f → Lost (backslash ∷ lower_u ∷ a ∷ b ∷ c ∷ d ∷ bytes) f
lost-high a b c d high bytes f is is_high lost fault =
    lost-digits a b c d bytes (Some high) f is
    (ap (λ t. cond t (low_at high bytes) (cond (is_low_surrogate high) None (Some (high, 6)))) is_high ∙ lost)
    (ap (λ t. cond t (pair_fault bytes) (decode_fault_at no_character 2 4)) is_high ∙ fault)

-- what is found after a high surrogate's escape where no second escape stands
low_at-alone : (high : ℕ) (bytes : List ℕ) → goes_on_unit bytes ≡ false →
    (low_at high bytes ≡ None) × (pair_fault bytes ≡ decode_fault_at no_character 0 6)
low_at-alone high (s ∷ t ∷ e ∷ f ∷ g ∷ h ∷ bytes) alone = (
  ap (λ x. cond x (pair_of high (code_unit e f g h)) None) alone,
  ap (λ x. cond x (second_fault (code_unit e f g h)) (decode_fault_at no_character 0 6)) alone,
)
low_at-alone high [] alone = (refl, refl)
low_at-alone high (s ∷ []) alone = (refl, refl)
low_at-alone high (s ∷ t ∷ []) alone = (refl, refl)
low_at-alone high (s ∷ t ∷ e ∷ []) alone = (refl, refl)
low_at-alone high (s ∷ t ∷ e ∷ f ∷ []) alone = (refl, refl)
low_at-alone high (s ∷ t ∷ e ∷ f ∷ g ∷ []) alone = (refl, refl)

-- No number is both halves of a pair.
low-other : (u : ℕ) → is_low_surrogate u ≡ true → is_high_surrogate u ≡ false
low-other u low = grind (arith, nat_tests)

-- Where no character begins, none is found.
no_char-lost : (l : List ℕ) (o : Option (ℕ × ℕ)) → utf8_at l ≡ o → StartsWithNoChar l → o ≡ None
no_char-lost l None is no_char = refl
no_char-lost l (Some p) is no_char =
    let leads = utf8_at-leads l p.0 p.1 is in
    let whole : l ≡ encode_utf8 p.0 ++ drop p.1 l =
    sym (take-append-drop p.1 l) ∙ ap (λ t. t ++ drop p.1 l) (sym leads.encoded) in
    absurd (no_char p.0 (drop p.1 l) leads.is_scalar whole)

lost-byte : (b : ℕ) (bytes : List ℕ) → (b == backslash) ≡ false → StartsWithNoChar (b ∷ bytes) →
    Lost (b ∷ bytes) (decode_fault_at no_character 0 1)
unfolding piece_at fault_of
lost-byte b bytes ne no_char = record {
  none = ap (λ t. cond t (escape_at bytes) (utf8_at (b ∷ bytes))) ne
      ∙ no_char-lost (b ∷ bytes) (utf8_at (b ∷ bytes)) refl no_char;
  computed = ap (λ t. cond t (escape_fault bytes) (decode_fault_at no_character 0 1)) ne;
}

lost-escaped : (b : ℕ) (bytes : List ℕ) → nat_lt b 0x80 ≡ false → Lost (backslash ∷ b ∷ bytes) (decode_fault_at no_character 1 1)
unfolding fault_of
lost-escaped b bytes high =
    let large : 0x80 ≤ b = ltb-false b 0x80 high in
    let other : (b == lower_u) ≡ false = grind (arith, nat_tests) in
    record {
      none = escape_at-short_of b bytes (short_escape b) refl other ∙ short_of-none b large;
      computed = ap (λ t. cond t (unit_fault bytes) (decode_fault_at no_character 1 1)) other;
    }

lost-lone : Lost (backslash ∷ []) (decode_fault_at ends_in_escape 0 1)
unfolding piece_at escape_at fault_of
lost-lone = record { none = refl; computed = refl }

-- Where a fault stands no piece is found, and the fault is the computed one.
pub lost : (l : List ℕ) (f : DecodeFault) → FaultHere l f → Lost l f
lost _ _ lone_backslash = lost-lone
lost _ _ (few_digits digits few) = lost-few digits few
lost _ _ (other_digits a b c d bytes is) = lost-digits a b c d bytes None (decode_fault_at not_digits 2 4) is refl refl
lost _ _ (high_alone a b c d high bytes is is_high alone) =
    let both = low_at-alone high bytes alone in
    lost-high a b c d high bytes (decode_fault_at no_character 0 6) is is_high both.0 both.1
lost _ _ (second_digits a b c d high e f g h bytes is is_high same) =
    lost-high a b c d high (backslash ∷ lower_u ∷ e ∷ f ∷ g ∷ h ∷ bytes) (decode_fault_at not_digits 8 4) is is_high
    (ap (pair_of high) same) (ap second_fault same)
lost _ _ (second_other a b c d high e f g h u bytes is is_high same low) =
    lost-high a b c d high (backslash ∷ lower_u ∷ e ∷ f ∷ g ∷ h ∷ bytes) (decode_fault_at no_character 8 4) is is_high
    (ap (pair_of high) same ∙ ap (λ t. cond t (Some (surrogate_pair high u, 12)) None) low) (ap second_fault same)
lost _ _ (low_first a b c d low bytes is is_low) =
    let high = low-other low is_low in
    lost-digits a b c d bytes (Some low) (decode_fault_at no_character 2 4) is
    (ap (λ t. cond t (low_at low bytes) (cond (is_low_surrogate low) None (Some (low, 6)))) high
    ∙ ap (λ t. cond t None (Some (low, 6))) is_low)
    (ap (λ t. cond t (pair_fault bytes) (decode_fault_at no_character 2 4)) high)
lost _ _ (escaped_other b bytes high) = lost-escaped b bytes high
lost _ _ (not_utf8 b bytes ne no_char) = lost-byte b bytes ne no_char

-- The bytes of a fault are there, and no fault stands where nothing does.
here-within : (l : List ℕ) (f : DecodeFault) → FaultHere l f → (f.bytes.offset + f.bytes.len ≤ length l) × (0 < length l)
here-within _ _ lone_backslash = (omega arith, omega arith)
here-within _ _ (few_digits digits few) = (omega arith, omega arith)
here-within _ _ (other_digits a b c d bytes is) = (omega arith, omega arith)
here-within _ _ (high_alone a b c d high bytes is is_high alone) = (omega arith, omega arith)
here-within _ _ (second_digits a b c d high e f g h bytes is is_high same) = (omega arith, omega arith)
here-within _ _ (second_other a b c d high e f g h u bytes is is_high same low) = (omega arith, omega arith)
here-within _ _ (low_first a b c d low bytes is is_low) = (omega arith, omega arith)
here-within _ _ (escaped_other b bytes high) = (omega arith, omega arith)
here-within _ _ (not_utf8 b bytes ne no_char) = (omega arith, omega arith)

-- ---- the first fault

-- the first fault of some bytes whose first is followed by these, where the piece at the start is known
abbrev fault_by : ℕ → ℕ → List ℕ → Option (ℕ × ℕ) → Option DecodeFault
fault_by passed b bytes o =
    elim o [ None ↦ Some (fault_after passed (fault_of (b ∷ bytes))) | Some p ↦ fault_past (suc passed) (p.1 - 1) bytes ]

-- After its first bytes a content has the faults of what stands there.
fault_past-append : (front others : List ℕ) (passed : ℕ) →
    fault_past passed (length front) (front ++ others) ≡ fault_past (passed + length front) 0 others
unfolding fault_past
fault_past-append [] others passed = let same : passed ≡ passed + 0 = omega arith in ap (λ n. fault_past n 0 others) same
fault_past-append (b ∷ front) others passed =
    let same : suc passed + length front ≡ passed + suc (length front) = omega arith in
    fault_past-append front others (suc passed) ∙ ap (λ n. fault_past n 0 others) same

-- After its first piece too.
fault_past-piece : (first others : List ℕ) (c passed : ℕ) → Piece first c →
    fault_past passed 0 (first ++ others) ≡ fault_past (passed + length first) 0 others
unfolding fault_past
fault_past-piece [] others c passed is =
    absurd (omega (arith, (piece_at-begins others c 0 (piece_at-piece [] c others is)).some))
fault_past-piece (b ∷ first) others c passed is =
    let size : suc (length first) - 1 ≡ length first = omega arith in
    let same : suc passed + length first ≡ passed + suc (length first) = omega arith in
    ap (fault_by passed b (first ++ others)) (piece_at-piece (b ∷ first) c others is)
    ∙ ap (λ n. fault_past (suc passed) n (first ++ others)) size ∙ fault_past-append first others (suc passed)
    ∙ ap (λ n. fault_past n 0 others) same

-- The fault at the start is the first one.
fault_past-here : (l : List ℕ) (f : DecodeFault) (passed : ℕ) → FaultHere l f → fault_past passed 0 l ≡ Some (fault_after passed f)
unfolding fault_past
fault_past-here [] f passed is = absurd (omega (arith, (here-within [] f is).1))
fault_past-here (b ∷ bytes) f passed is =
    let own = lost (b ∷ bytes) f is in
    ap (fault_by passed b bytes) own.none ∙ ap (λ g. Some (fault_after passed g)) own.computed

-- so many bytes, and then so many
pub fault_after-after : (m n : ℕ) (f : DecodeFault) → fault_after (m + n) f ≡ fault_after m (fault_after n f)
fault_after-after m n f =
    let same : (m + n) + f.bytes.offset ≡ m + (n + f.bytes.offset) = omega arith in
    ap (λ k. decode_fault_at f.kind k f.bytes.len) same

pub fault_after-none : (f : DecodeFault) → fault_after 0 f ≡ f
fault_after-none f =
    let same : 0 + f.bytes.offset ≡ f.bytes.offset = omega arith in
    ap (λ k. decode_fault_at f.kind k f.bytes.len) same

-- A first fault is computed.
fault_past-first : (content : List ℕ) (f : DecodeFault) (passed : ℕ) → FirstFault content f →
    fault_past passed 0 content ≡ Some (fault_after passed f)
fault_past-first _ _ passed (here content f is) = fault_past-here content f passed is
fault_past-first _ _ passed (after first others content c later f is behind e g) =
    ap (fault_past passed 0) e ∙ fault_past-piece first others c passed is
    ∙ fault_past-first others later (passed + length first) behind
    ∙ ap Some (fault_after-after passed (length first) later ∙ ap (fault_after passed) (sym g))

pub first_fault-found : (content : List ℕ) (f : DecodeFault) → FirstFault content f → first_fault content ≡ Some f
first_fault-found content f is = fault_past-first content f 0 is ∙ ap Some (fault_after-none f)

-- A content with a text has none.
fault_past-text : (content text : List ℕ) (passed : ℕ) → Decodes content text → fault_past passed 0 content ≡ None
unfolding fault_past
fault_past-text _ _ passed empty = refl
fault_past-text _ _ passed (piece first others content c rest text is behind e f) =
    ap (fault_past passed 0) e ∙ fault_past-piece first others c passed is
    ∙ fault_past-text others rest (passed + length first) behind

-- No content has both.
pub not_both : (content text : List ℕ) (f : DecodeFault) → Decodes content text → FirstFault content f → ⊥
not_both content text f decodes is =
    let found = first_fault-found content f is in
    let none : first_fault content ≡ None = fault_past-text content text 0 decodes in
    cc

-- One first fault at most.
pub one_fault : (content : List ℕ) (f g : DecodeFault) → FirstFault content f → FirstFault content g → f ≡ g
one_fault content f g is other =
    let first = first_fault-found content f is in
    let second = first_fault-found content g other in
    cc

-- ---- one of them is there

abbrev TextOr : List ℕ → Type 0
TextOr content = ((text : List ℕ) × Decodes content text) ⊎ ((f : DecodeFault) × FirstFault content f)

-- A piece before them.
text_or-piece : (first others content : List ℕ) (c : ℕ) → Piece first c → content ≡ first ++ others → TextOr others →
    TextOr content
text_or-piece first others content c is e (inl t) =
    inl (encode_utf8 c ++ t.0, piece first others content c t.0 (encode_utf8 c ++ t.0) is t.1 e refl)
text_or-piece first others content c is e (inr f) =
    inr (fault_after (length first) f.0, after first others content c f.0 (fault_after (length first) f.0) is f.1 e refl)

text_or-by : (b : ℕ) (bytes : List ℕ) (o : Option (ℕ × ℕ)) → piece_at (b ∷ bytes) ≡ o →
    ((k : ℕ) → k ≤ length bytes → TextOr (drop k bytes)) → TextOr (b ∷ bytes)
text_or-by b bytes None is later =
    let l = b ∷ bytes in inr (fault_of l, here l (fault_of l) (faulty l (omega arith) is))
text_or-by b bytes (Some p) is later = by p.1 (piece_at-begins (b ∷ bytes) p.0 p.1 is)
  where
    by : (n : ℕ) → BeginsWithPiece (b ∷ bytes) p.0 n → TextOr (b ∷ bytes)
    by zero fronts = absurd (omega (arith, fronts.some))
    by (suc n) fronts =
        text_or-piece (take (suc n) (b ∷ bytes)) (drop n bytes) (b ∷ bytes) p.0 fronts.is_piece
        (sym (take-append-drop (suc n) (b ∷ bytes))) (later n (omega (arith, fronts.within)))

text_or-past : (bytes : List ℕ) (inside : ℕ) → inside ≤ length bytes → TextOr (drop inside bytes)
text_or-past [] zero h = inl ([], empty)
text_or-past [] (suc inside) h = absurd (omega arith)
text_or-past (b ∷ bytes) (suc inside) h = text_or-past bytes inside (omega arith)
text_or-past (b ∷ bytes) zero h = text_or-by b bytes (piece_at (b ∷ bytes)) refl (text_or-past bytes)

-- What is computed is the first fault.
first_fault-is : (content : List ℕ) (f : DecodeFault) → first_fault content ≡ Some f → TextOr content → FirstFault content f
first_fault-is content f found (inl t) = let none : first_fault content ≡ None = fault_past-text content t.0 0 t.1 in absurd (cc)
first_fault-is content f found (inr g) =
    let own = first_fault-found content g.0 g.1 in
    let same : g.0 ≡ f = cc in
    rw same at g.1

pub first_fault_is_found : FirstFaultIsFound
first_fault_is_found content f =
    (λ found. first_fault-is content f found (text_or-past content 0 (omega arith)), first_fault-found content f)

-- ---- what a first fault says of its content

-- Its content has no text.
pub fault-no_text : (content : List ℕ) (f : DecodeFault) → FirstFault content f → decoded content ≡ None
fault-no_text content f is = by (decoded content) refl
  where
    by : (o : Option (List ℕ)) → decoded content ≡ o → o ≡ None
    by None e = refl
    by (Some text) e = absurd (not_both content text f (decodes-decoded content text e) is)

-- The bytes of a fault are some of the content's.
pub fault-within : (content : List ℕ) (f : DecodeFault) → FirstFault content f → f.bytes.offset + f.bytes.len ≤ length content
fault-within _ _ (here content f is) = (here-within content f is).0
fault-within _ _ (after first others content c later f is behind e g) =
    let own = fault-within others later behind in
    let size = ap length e ∙ length-append first others in
    omega (arith, own, size, ap (λ x. x.bytes.offset) g, ap (λ x. x.bytes.len) g)

-- A content with a fault has bytes.
first-some : (content : List ℕ) (f : DecodeFault) → FirstFault content f → 0 < length content
first-some _ _ (here content f is) = (here-within content f is).1
first-some _ _ (after first others content c later f is behind e g) =
    let own = first-some others later behind in omega (arith, own, ap length e, length-append first others)

-- The bytes of a fault are the buffer's, wherever its content stands.
pub fault-in_buffer : (buffer : List ℕ) (start finish : ℕ) (f : DecodeFault) → FirstFault (slice_range buffer start finish) f →
    (start + f.bytes.offset) + f.bytes.len ≤ length buffer
fault-in_buffer buffer start finish f is =
    let own = fault-within (slice_range buffer start finish) f is in
    let some = first-some (slice_range buffer start finish) f is in
    let size = length-take (finish - start) (drop start buffer) in
    let left = length-drop start buffer in
    omega (arith, own, some, size, left)

-- A content has a text or a first fault, and never both.
pub text_or_fault : TextOrFault
text_or_fault content = record {
  one_of_them = text_or-past content 0 (omega arith);
  not_both = not_both content;
  one_fault = one_fault content;
  within = fault-within content;
}
