-- After an answer that more bytes are needed the scanner goes on, whatever bytes follow.
use Rattle.std.proofs.Common.{◌≡◌, ◌≤◌, ℕ, List, ◌++◌, length, drop, Some, inl, inr, refl, sym, subst, arith, length-append}
use Rattle.std.proofs.lemmas.Bool.{cases_lt}
use Rattle.std.proofs.lemmas.List.{drop_all}
use Rattle.std.proofs.Math.Seq.{take-append_seam}
use Rattle.facet_format.specs.Span.{Span}
use Rattle.facet_json_token.specs.Cut.{Cut, nothing_left, token, fault, cut}
use Rattle.facet_json_token.specs.Gap.{Mode}
use Rattle.facet_json_token.specs.Open.{IsBeginning, IsOpen}
use Rattle.facet_json_scan.specs.Scanner.{State, Describes, GoesOnFrom, needs_more, answer_for, Gives, waiting, past_growing_gap}
use Rattle.facet_json_scan.proofs.Pieces.Beginnings.{nothing_shut}
use Rattle.facet_json_scan.proofs.PassedGap.{cut-passed}
use Rattle.facet_json_scan.specs.Laws.{GoesOnIn, NeedMoreGoesOn}

-- What is cut is not that more bytes are needed.
cut_needs_none : (last consumed : ℕ) (span : Span) (c : Cut) → Some (needs_more consumed span) ≡ Some (answer_for last c) → ⊥
cut_needs_none last consumed span nothing_left e = cc
cut_needs_none last consumed span (token t) e = cc
cut_needs_none last consumed span (fault f) e = cc

-- A scanner that waits at the end of the buffer for more of what its state describes.
waiting_goes_on : (buffer more : List ℕ) (p : ℕ) (mode : Mode) (state : State) → p ≤ length buffer →
    let start = past_growing_gap buffer p mode in
    Describes mode state (drop start buffer) → GoesOnIn (buffer ++ more) p start mode (waiting (length buffer) mode start state)
waiting_goes_on buffer more p mode state room d =
    let start = past_growing_gap buffer p mode in
    record {
      mode_stays = refl;
      position = omega (arith, length-append buffer more);
      from_there =
          GoesOnFrom.resumes start state refl
          (subst (λ l. Describes mode state (drop start l)) (sym (take-append_seam buffer more)) d);
      same_cut = cut-passed buffer more p mode room;
    }

-- Where a buffer is open, the position lies within it.
open_within : (buffer : List ℕ) (p : ℕ) (mode : Mode) → IsOpen buffer p mode → p ≤ length buffer
open_within buffer p mode i =
    let start = past_growing_gap buffer p mode in
    elim (cases_lt (length buffer) p) [
      | inl past ↦ absurd (nothing_shut mode (subst (IsBeginning mode) (drop_all start buffer (omega arith)) i))
      | inr within ↦ within
    ]

-- The scanner goes on in every longer buffer.
pub need_more_goes_on : NeedMoreGoesOn
need_more_goes_on buffer more p consumed mode span new (Gives.still_open state i d is to) =
    let here : consumed ≡ past_growing_gap buffer p mode = cc in
    rw (to, here) (waiting_goes_on buffer more p mode state (open_within buffer p mode i) d)
need_more_goes_on buffer more p consumed mode span new (Gives.decided shut is to) =
    absurd (cut_needs_none (length buffer) consumed span (cut buffer p mode) is)
