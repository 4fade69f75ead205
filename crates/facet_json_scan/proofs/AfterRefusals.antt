-- What a scanner answers after a refusal.
use Rattle.std.proofs.Common.{◌≡◌, ◌≢◌, ℕ, ◌-◌, List, length, take, drop, Option, Some, refl, sym, ap, ◌∙◌, subst, arith}
use Rattle.std.proofs.lemmas.List.{take_all}
use Rattle.facet_format.specs.Span.{span_at}
use Rattle.facet_json_token.specs.Gap.{Mode}
use Rattle.facet_json_token.specs.Token.{Fault}
use Rattle.facet_json_token.specs.Cut.{Cut, nothing_left, token, fault, past_gap, cut}
use Rattle.facet_json_token.specs.Open.{IsOpen}
use Rattle.facet_json_token.proofs.Gaps.{past_gap-again, cut-past_gap}
use Rattle.facet_json_scan.specs.Scanner.{Scanner, idle, Describes, GoesOnFrom, ScanAnswer, needs_more, refuses, answer_for, Gives, first_unread, first_byte_of, stands_after}
use Rattle.facet_json_scan.specs.ScannerLaws.{ScanRefusalRepeats, RefusalAtEnd, PendingAgain}
use Rattle.facet_json_scan.proofs.Refusals.{growing_gap-again, shut-past_gap}
use Rattle.facet_json_scan.proofs.Pending.{something_within, pending_here}

-- ---- after a refusal

-- A fault is something.
fault_cut : (buffer : List ℕ) (p : ℕ) (mode : Mode) (f : Fault) → cut buffer p mode ≡ fault f → cut buffer p mode ≢ nothing_left
fault_cut buffer p mode f e none = cc

-- A refusal is the answer of a fault.
refused_cut : (last : ℕ) (c : Cut) (f : Fault) → Some (refuses f) ≡ Some (answer_for last c) → c ≡ fault f
refused_cut last nothing_left f e = cc
refused_cut last (token t) f e = cc
refused_cut last (fault g) f e = let same : f ≡ g = cc in ap fault (sym same)

-- A call that goes on from where the gap before a fault ends: it needs more bytes of it if the buffer is open there, and else
-- refuses alike.
from_fault : (buffer : List ℕ) (p : ℕ) (mode : Mode) (f : Fault) (answer : Option ScanAnswer) (after : Scanner) →
    cut buffer p mode ≡ fault f →
    let at = past_gap buffer p mode in
    Gives buffer at mode answer after →
    (IsOpen buffer at mode → (answer ≡ Some (needs_more at (span_at at (length buffer - at))))
    × (after.position ≡ length buffer) × (first_unread after ≡ at))
    × ((IsOpen buffer at mode → ⊥) → (answer ≡ Some (refuses f)) × (after ≡ idle at mode))
from_fault buffer p mode f answer after e (Gives.still_open state i d is new) =
    let at = past_gap buffer p mode in
    let same = growing_gap-again buffer p mode in (
      λ j. (
        is ∙ ap (λ n. Some (needs_more n (span_at n (length buffer - n)))) same,
        ap (λ s. s.position) new,
        ap first_unread new ∙ same,
      ),
      λ shut. absurd (shut i),
    )
from_fault buffer p mode f answer after e (Gives.decided shut is new) =
    let at = past_gap buffer p mode in
    let there : cut buffer at mode ≡ fault f = cut-past_gap buffer p mode ∙ e in (
      λ i. absurd (shut i),
      λ j. (
        is ∙ ap (λ c. Some (answer_for (length buffer) c)) there,
        new ∙ ap (λ c. idle (stands_after buffer at mode c) mode) there
            ∙ ap (λ n. idle n mode) (past_gap-again buffer p mode),
      ),
    )

-- From a scanner with nothing pending a call goes on from its position.
idle_goes_on : (buffer : List ℕ) (at : ℕ) (mode : Mode) (q : ℕ) → GoesOnFrom (idle at mode) buffer q → q ≡ at
idle_goes_on buffer at mode _ (GoesOnFrom.idles is) = refl
idle_goes_on buffer at mode _ (GoesOnFrom.resumes start state is d) = cc

-- After a refusal the same call refuses alike, and leaves the scanner as it is.
pub refusal_repeats : ScanRefusalRepeats
refusal_repeats buffer p mode f new (Gives.still_open state i d is to) q answer after from gives = cc
refusal_repeats buffer p mode f new (Gives.decided shut is to) q answer after from gives =
    let e : cut buffer p mode ≡ fault f = refused_cut (length buffer) (cut buffer p mode) f is in
    let at = past_gap buffer p mode in
    let left : new ≡ idle at mode = to ∙ ap (λ c. idle (stands_after buffer p mode c) mode) e in
    let room = something_within buffer p mode (fault_cut buffer p mode f e) in
    let here : q ≡ at = idle_goes_on buffer at mode q (subst (λ s. GoesOnFrom s buffer q) left from) in
    let again : Gives buffer at mode answer after =
    subst (λ n. Gives buffer n mode answer after) here (subst (λ s. Gives buffer q s.mode answer after) left gives) in
    let refused = (from_fault buffer p mode f answer after e again).1 (shut-past_gap buffer p mode (omega arith) shut) in
    (refused.0, refused.1 ∙ sym left)

-- ---- after a refusal at the end

-- All of the buffer is before its end.
all_of : (buffer : List ℕ) (n : ℕ) → n ≡ length buffer → take n buffer ≡ buffer
all_of buffer n e = take_all n buffer (omega arith)

-- Where the buffer was said to be the whole input, the next call after a refusal needs more bytes or refuses alike.
pub refusal_at_end : RefusalAtEnd
refusal_at_end buffer s f answer after end e gives =
    let all = all_of buffer s.position end in
    let here : cut buffer (first_unread s) s.mode ≡ fault f = ap (λ l. cut l (first_unread s) s.mode) (sym all) ∙ e in
    let same : past_gap buffer (first_unread s) s.mode ≡ past_gap (take s.position buffer) (first_unread s) s.mode =
    ap (λ l. past_gap l (first_unread s) s.mode) (sym all) in
    rw same at (from_fault buffer (first_unread s) s.mode f answer after here (rw (← same) at gives))

-- Where what was pending fits, the call after the refusal needs more bytes of it again.
pub pending_again : PendingAgain
pending_again buffer s start state f end is d e =
    let all = all_of buffer s.position end in
    let first : first_unread s ≡ start = ap (first_byte_of s.position) is in
    let same : past_gap (take s.position buffer) (first_unread s) s.mode ≡ past_gap buffer start s.mode =
    ap (λ l. past_gap l (first_unread s) s.mode) all ∙ ap (λ n. past_gap buffer n s.mode) first in
    let cuts : cut buffer start s.mode ≡ fault f =
    sym (ap (λ l. cut l (first_unread s) s.mode) all ∙ ap (λ n. cut buffer n s.mode) first) ∙ e in
    let here =
    pending_here buffer start s.mode state (subst (λ l. Describes s.mode state (drop start l)) all d)
    (fault_cut buffer start s.mode f cuts) in
    (same ∙ here.0, subst (λ n. IsOpen buffer n s.mode) (sym (same ∙ here.0)) here.1)
