-- A text between quotes, written run by run.
use Rattle.std.proofs.Common.{◌≡◌, ℕ, ◌+◌, ◌<◌, ◌≤◌, List, [], ◌∷◌, ◌++◌, length, get_or, drop, append_assoc, append-nil, take_all, length-drop, arith, sym, ap, ◌∙◌}
use Rattle.std.proofs.lemmas.List.{drop_more, drop_all}
use Rattle.std.proofs.lemmas.List.Edits.{between_more, between_none}
use Rattle.std.specs.List.{flat_map, slice_range}
use Rattle.facet_json_grammar.specs.Quoted.{escaped}

-- What is written, the run that waits and what stands for the rest are the whole.
abbrev pub IsLeft : List ℕ → List ℕ → ℕ → ℕ → List ℕ → Type 0
IsLeft text done start at whole = done ++ (slice_range text start at ++ flat_map escaped (drop at text)) ≡ whole

rest-step : (text : List ℕ) (at : ℕ) → at < length text
    → flat_map escaped (drop at text) ≡ escaped (get_or text at 0) ++ flat_map escaped (drop (at + 1) text)
rest-step text at lt = ap (flat_map escaped) (drop_more text at 0 lt)

-- the run and an escape are written
pub IsLeft-escape : (text done : List ℕ) (start at : ℕ) (whole : List ℕ) → at < length text → IsLeft text done start at whole
    → IsLeft text (done ++ (slice_range text start at ++ escaped (get_or text at 0))) (at + 1) (at + 1) whole
IsLeft-escape text done start at whole lt h =
    let run = slice_range text start at in
    let e = escaped (get_or text at 0) in
    let rest = flat_map escaped (drop (at + 1) text) in
    ap (λ r. (done ++ (run ++ e)) ++ (r ++ rest)) (between_none text (at + 1)) ∙ append_assoc done (run ++ e) rest
    ∙ ap (λ l. done ++ l) (append_assoc run e rest) ∙ ap (λ l. done ++ (run ++ l)) (sym (rest-step text at lt)) ∙ h

-- one more byte waits
pub IsLeft-plain : (text done : List ℕ) (start at : ℕ) (whole : List ℕ) → start ≤ at → at < length text
    → escaped (get_or text at 0) ≡ get_or text at 0 ∷ [] → IsLeft text done start at whole → IsLeft text done start (at + 1) whole
IsLeft-plain text done start at whole low lt plain h =
    let run = slice_range text start at in
    let rest = flat_map escaped (drop (at + 1) text) in
    ap (λ r. done ++ (r ++ rest)) (between_more text start at 0 low lt)
    ∙ ap (λ l. done ++ l) (append_assoc run (get_or text at 0 ∷ []) rest)
    ∙ ap (λ l. done ++ (run ++ l)) (ap (λ e. e ++ rest) (sym plain) ∙ sym (rest-step text at lt)) ∙ h

-- at the end the run is all that is left
pub IsLeft-end : (text done : List ℕ) (start at : ℕ) (whole : List ℕ) → start ≤ at → at ≡ length text → IsLeft text done start at whole
    → done ++ drop start text ≡ whole
IsLeft-end text done start at whole low end h =
    let run = slice_range text start at in
    let all : run ≡ drop start text = take_all _ _ (omega (arith, length-drop start text)) in
    ap (λ r. done ++ r) (sym all ∙ sym (append-nil run) ∙ ap (λ t. run ++ flat_map escaped t) (sym (drop_all at text (omega arith)))) ∙ h
