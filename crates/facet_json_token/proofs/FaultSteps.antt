-- How a reader that decodes run by run is refused: with the first fault of the content (specs/Fault.antt).
use Rattle.std.proofs.Common.{◌≡◌, ℕ, ◌+◌, ◌<◌, ◌≤◌, false, List, [], ◌∷◌, ◌++◌, length, take, drop, get_or, None, Some, refl, sym, ap, subst, ◌∙◌, append_assoc, length-append, arith}
use Rattle.std.specs.Prelude.{◌==◌, IsUtf8, slice_range}
use Rattle.std.specs.Char.{encode_utf8}
use Rattle.std.specs.Str.{IsValidUpTo, StartsWithNoChar}
use Rattle.std.specs.List.{list_any}
use Rattle.std.proofs.lemmas.Bool.{ne_eqb, or_parts}
use Rattle.std.proofs.lemmas.List.{take-append-drop, take_at, length-take-le, length-drop}
use Rattle.std.proofs.lemmas.List.Edits.{length-between}
use Rattle.std.proofs.lemmas.Str.{encode_ascii, length-encode, len_utf8_bounds, IsUtf8-append, IsUtf8-encode}
use Rattle.facet_format.specs.Bytes.{backslash}
use Rattle.facet_format.specs.Complaint.{Refusal, refusal_at}
use Rattle.facet_format.specs.Span.{span_at}
use Rattle.facet_json_token.specs.declared.fault.Fault.{Fault}
use Rattle.facet_json_token.specs.Views.{told_refusal, scan_refusal}
use Rattle.facet_json_token.specs.Decode.{Decodes, empty, piece}
use Rattle.facet_json_token.specs.Decoded.{piece_at, decoded}
use Rattle.facet_json_token.specs.Fault.{DecodeFault, decode_fault_at, fault_after, no_character, not_utf8, FirstFault, here, after, fault_complaint, fault_refusal}
use Rattle.facet_json_token.specs.FirstFault.{fault_of}
use Rattle.facet_json_token.specs.Inner.Run.{StopsBeingText}
use Rattle.facet_json_token.specs.DecodeViews.{IsFirstRefusal, RefusesContent, SaysScan}
use Rattle.facet_json_token.specs.declared.decode.DecodeError.{DecodeError}
use Rattle.facet_json_token.specs.declared.decode.DecodeError.TheVariants as decode
use Rattle.facet_json_token.proofs.FaultErrors.{says-refusal}
use Rattle.facet_json_token.proofs.DecodeLaws.{decodes-decoded}
use Rattle.facet_json_token.proofs.DecodeSteps.{range-append, range-ends}
use Rattle.facet_json_token.proofs.FaultLaws.{faulty, fault_after-none, fault_after-after, fault-no_text}
use Rattle.facet_json_token.proofs.PlainText.{IsPlain, plain-parts, decoded-plain, Cuts, first_in_second, second_in_first, cuts, not-plain, EndsRun}

-- A first fault comes after what stands for a text.
fault-after_decoded : (a b s : List ℕ) (f g : DecodeFault) → Decodes a s → FirstFault b f → g ≡ fault_after (length a) f →
    FirstFault (a ++ b) g
fault-after_decoded _ b _ f g empty is e = let same : f ≡ g = sym (fault_after-none f) ∙ sym e in rw same at is
fault-after_decoded _ b _ f g (piece first others content c rest text front behind e _) is same =
    let whole = ap (λ l. l ++ b) e ∙ append_assoc first others b in
    let size = ap length e ∙ length-append first others in
    let later = fault_after (length others) f in
    let place = same ∙ ap (λ n. fault_after n f) size ∙ fault_after-after (length first) (length others) f in
    after first (others ++ b) (content ++ b) c later g front (fault-after_decoded others b rest f later behind is refl) whole place

-- ---- a run that is no text

-- A character whose first byte is no backslash is none.
other-first : (c b : ℕ) (others : List ℕ) → encode_utf8 c ≡ b ∷ others → (b == backslash) ≡ false → (c == backslash) ≡ false
other-first c b others e ne =
    ne_eqb c backslash (λ (at : c ≡ backslash).
    let own = encode_ascii c (omega arith) in
    let first : c ≡ b = cc in
    let equal : b ≡ backslash = cc in
    grind arith)

-- The first byte of plain bytes is no backslash.
first-other : (b : ℕ) (run : List ℕ) → IsPlain (b ∷ run) → (b == backslash) ≡ false
first-other b run plain = (or_parts (b == backslash) (list_any (λ x. x == backslash) run) plain).0

-- Where a run of plain bytes stops being text, no character begins, whatever stands after it.
no_char-plain : (b : ℕ) (front run rest : List ℕ) → IsUtf8 front → IsPlain (b ∷ run) → EndsRun rest →
    ((m : ℕ) → length front < m → IsUtf8 (take m (front ++ b ∷ run)) → ⊥) → StartsWithNoChar ((b ∷ run) ++ rest)
no_char-plain b front run rest text plain ends longest c left is e =
    by (cuts (encode_utf8 c) left (b ∷ run) rest (sym e))
  where
    by : Cuts (encode_utf8 c) left (b ∷ run) rest → ⊥
    by (first_in_second m p q) =
        let longer = front ++ encode_utf8 c in
        let more = IsUtf8-append front (encode_utf8 c) text (IsUtf8-encode c is) in
        let size = length-append front (encode_utf8 c) in
        let whole : front ++ b ∷ run ≡ longer ++ m = ap (λ l. front ++ l) p ∙ sym (append_assoc front (encode_utf8 c) m) in
        let same : take (length longer) (front ++ b ∷ run) ≡ longer =
        ap (take (length longer)) whole ∙ take_at longer m (length longer) refl in
        longest (length longer) (omega (arith, size, length-encode c, (len_utf8_bounds c).0)) (rw same more)
    by (second_in_first x m p q) =
        let first = rw q at ends in
        not-plain c (b ∷ run) m x (other-first c b (run ++ x ∷ m) p (first-other b run plain)) p (first (omega arith))

-- A run of plain bytes has its first fault where it stops being text, whatever stands after it.
broken-run : (run rest : List ℕ) (n : ℕ) → IsPlain run → EndsRun rest → IsValidUpTo run n →
    FirstFault (run ++ rest) (decode_fault_at no_character n 1)
broken-run run rest n plain ends valid = by (drop n run) refl
  where
    by : (t : List ℕ) → drop n run ≡ t → FirstFault (run ++ rest) (decode_fault_at no_character n 1)
    by [] e = absurd (omega (arith, valid.short, length-drop n run, ap length e))
    by (b ∷ t) e =
        let front = take n run in
        let whole : front ++ b ∷ t ≡ run = ap (λ l. front ++ l) (sym e) ∙ take-append-drop n run in
        let both : IsPlain (front ++ b ∷ t) = ap (list_any (λ x. x == backslash)) whole ∙ plain in
        let parts = plain-parts front (b ∷ t) both in
        let size : length front ≡ n = length-take-le n run (omega (arith, valid.short)) in
        let longest = λ (m : ℕ) (more : length front < m) (u : IsUtf8 (take m (front ++ b ∷ t))).
        valid.longest m (omega arith) (subst (λ l. IsUtf8 (take m l)) whole u) in
        let none = no_char-plain b front t rest valid.front parts.1 ends longest in
        let own = here ((b ∷ t) ++ rest) (decode_fault_at no_character 0 1) (not_utf8 b (t ++ rest) (first-other b t parts.1) none) in
        let place : n ≡ length front + 0 = omega arith in
        let read = decodes-decoded front front (decoded-plain front parts.0 valid.front) in
        let first =
        fault-after_decoded front ((b ∷ t) ++ rest) front (decode_fault_at no_character 0 1) (decode_fault_at no_character n 1) read own
        (ap (λ k. decode_fault_at no_character k 1) place) in
        let cut = sym (append_assoc front (b ∷ t) rest) ∙ ap (λ l. l ++ rest) whole in
        subst (λ l. FirstFault l (decode_fault_at no_character n 1)) cut first

-- ---- steps

-- What is told of the bytes from a place on is told of the whole content.
told-after_decoded : (buf out : List ℕ) (start at end : ℕ) (f : DecodeFault) (r : Refusal) → start ≤ at → at ≤ end → end ≤ length buf →
    Decodes (slice_range buf start at) out → FirstFault (slice_range buf at end) f → r ≡ fault_refusal at f →
    IsFirstRefusal (slice_range buf start end) start r
told-after_decoded buf out start at end f r a b h so_far is told =
    let front = slice_range buf start at in
    let size = length-between buf start at (omega arith) in
    let g = fault_after (length front) f in
    let first = fault-after_decoded front (slice_range buf at end) out f g so_far is refl in
    let place : at + f.bytes.offset ≡ start + (length front + f.bytes.offset) = omega (arith, size) in
    record {
      fault = g;
      is_first = rw (range-append buf start at end a b) first;
      told = told ∙ ap (λ n. refusal_at (fault_complaint f.kind) (span_at n f.bytes.len)) place;
    }

-- A run that is no text is refused.
pub step-broken : (buf out : List ℕ) (start at stop end : ℕ) (e : Fault) → start ≤ at → at ≤ stop → stop ≤ end →
    end ≤ length buf → IsPlain (slice_range buf at stop) → (stop < end → get_or buf stop 0 ≡ backslash) →
    Decodes (slice_range buf start at) out → StopsBeingText (slice_range buf at stop) at e →
    IsFirstRefusal (slice_range buf start end) start (told_refusal e)
step-broken buf out start at stop end e a b d h plain ends so_far s =
    let own =
    broken-run (slice_range buf at stop) (slice_range buf stop end) s.text_len plain (range-ends buf stop end h ends) s.stops in
    let first = rw (← range-append buf at stop end b d) at own in
    told-after_decoded buf out start at end (decode_fault_at no_character s.text_len 1) (told_refusal e) a (omega arith) h so_far first s.told

-- Where no piece is found, the content is refused.
pub step-lost : (buf out : List ℕ) (start stop end : ℕ) (r : Refusal) → start ≤ stop → stop < end → end ≤ length buf →
    piece_at (slice_range buf stop end) ≡ None → r ≡ fault_refusal stop (fault_of (slice_range buf stop end)) →
    Decodes (slice_range buf start stop) out → IsFirstRefusal (slice_range buf start end) start r
step-lost buf out start stop end r a b h lost told so_far =
    let rest = slice_range buf stop end in
    let some : 0 < length rest = omega (arith, length-between buf stop end h) in
    let own = here rest (fault_of rest) (faulty rest some lost) in
    told-after_decoded buf out start stop end (fault_of rest) r a (omega arith) h so_far own told

-- What is refused has no text.
pub told-no_text : (content : List ℕ) (start : ℕ) (r : Refusal) → IsFirstRefusal content start r → decoded content ≡ None
told-no_text content start r t = fault-no_text content t.fault t.is_first

-- Only a lack of memory refuses what has a text.
pub refused-memory : (buffer text : List ℕ) (start finish : ℕ) (e : DecodeError) → RefusesContent buffer start finish e →
    decoded (slice_range buffer start finish) ≡ Some text → e ≡ decode.OutOfMemory
refused-memory buffer text start finish (decode.Scan e) refused has =
    let none = told-no_text (slice_range buffer start finish) start (scan_refusal e) refused in absurd (cc)
refused-memory buffer text start finish decode.OutOfMemory refused has = refl

-- A decode that says so refuses the content.
pub says-refuses : (buffer : List ℕ) (start finish : ℕ) (f : Fault) (e : DecodeError) → SaysScan f e →
    IsFirstRefusal (slice_range buffer start finish) start (told_refusal f) → RefusesContent buffer start finish e
says-refuses buffer start finish f (decode.Scan e) says first =
    subst (IsFirstRefusal (slice_range buffer start finish) start) (sym (says-refusal f e says)) first
says-refuses buffer start finish f decode.OutOfMemory says first = absurd says
