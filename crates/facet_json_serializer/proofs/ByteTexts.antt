-- Numbers and indents that are written one after the other.
use Rattle.std.proofs.Common.{◌≡◌, ℕ, zero, suc, Bool, true, false, List, ◌++◌, sym, ap, ◌∙◌, append_assoc, append-nil}
use Rattle.facet_json_grammar.specs.Text.{numbers, more_numbers, indents}

-- so many indents and one more
pub indents-one_more : (n : ℕ) (indent : List ℕ) → indents n indent ++ indent ≡ indents (suc n) indent
indents-one_more zero indent = sym (append-nil indent)
indents-one_more (suc n) indent = append_assoc indent (indents n indent) indent ∙ ap (λ s. indent ++ s) (indents-one_more n indent)

-- the numbers that are still to be written, the first of all or later ones
abbrev pub numbers_on : Bool → List ℕ → List ℕ
numbers_on true bytes = numbers bytes
numbers_on false bytes = more_numbers bytes
