-- A value that is written after a comma that was left to be written.
use Rattle.std.proofs.Common.{◌≡◌, ℕ, List, [], ◌++◌, sym, ap, ◌∙◌, append_assoc, append-nil}
use Rattle.facet_json_serializer.specs.Serializer.{Writing, appended, before_value, after_written}
use Rattle.facet_json_serializer.specs.Inner.Writes.{value_begun, with_text}

-- a value is written, and with it the comma before it, where that was left to be
pub written_after : (w mid : Writing) (before spelled out : List ℕ) → value_begun w ≡ with_text mid before → out ≡ mid.written ++ (before ++ spelled)
    → record { options = mid.options; stack = mid.stack; written = out }
    ≡ appended w (record { added = before_value w.options w.stack ++ spelled; stack = after_written w.stack })
written_after w mid before spelled out begun is =
    let bytes : out ≡ (mid.written ++ before) ++ spelled = is ∙ sym (append_assoc mid.written before spelled) in
    ap (λ t. record { options = mid.options; stack = mid.stack; written = t }) bytes
    ∙ ap (λ m. with_text m spelled) (sym begun)
    ∙ ap (λ t. record { options = w.options; stack = after_written w.stack; written = t }) (append_assoc w.written (before_value w.options w.stack) spelled)

-- and where nothing is left to stand behind it
pub written_alone : (w mid : Writing) (before spelled out : List ℕ) → value_begun w ≡ with_text mid before → out ≡ mid.written ++ (before ++ (spelled ++ []))
    → record { options = mid.options; stack = mid.stack; written = out }
    ≡ appended w (record { added = before_value w.options w.stack ++ spelled; stack = after_written w.stack })
written_alone w mid before spelled out begun is =
    written_after w mid before spelled out begun (is ∙ ap (λ s. mid.written ++ (before ++ s)) (append-nil spelled))
