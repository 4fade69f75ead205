-- Numbers from 0 to 100 are read where a byte is read that is one.
use Rattle.std.proofs.Common.{◌≡◌, ◌≤◌, ◌<◌, inl, inr, ℕ, Bool, true, false, cond, Some, None, refl, ap, ◌∙◌, arith}
use Rattle.std.specs.Prelude.{nat_le}
use Rattle.std.specs.Option.{option_and_then}
use Rattle.std.proofs.lemmas.Bool.{leb-true}
use Rattle.facet_format.specs.Complaint.{Refusal}
use Rattle.facet_json_grammar.specs.Now.{Now}
use Rattle.facet_json_core.specs.Meaning.Reading.{IsRead, IsUnread}
use Rattle.facet_json_core.specs.Meaning.Readings.{leaf, unsigned_of}
use Rattle.facet_json_row_values.specs.Percents.{percent_in, percent_of}
use Rattle.facet_json_row_values.specs.PercentLaws.{percent-some}

percent-none : (n : ℕ) → 100 < n → percent_in n ≡ None
percent-none n h = by (nat_le n 100) refl
  where
    by : (b : Bool) → nat_le n 100 ≡ b → cond b (Some n) None ≡ None
    by true e = absurd (omega (arith, leb-true n 100 e, h))
    by false e = refl

pub percent-read : (old new : Now) (n : ℕ) → n ≤ 100 → IsRead (leaf (unsigned_of 8)) old n new → IsRead percent_of old n new
percent-read old new n h read w c node before =
    let is = read w c node before in (ap (option_and_then percent_in) is.0 ∙ percent-some n h, is.1)

pub percent-refused : (old new : Now) (n : ℕ) (r : Refusal) → 100 < n → IsRead (leaf (unsigned_of 8)) old n new → IsUnread percent_of old r
percent-refused old new n r h read w c node before =
    inr (ap (option_and_then percent_in) (read w c node before).0 ∙ percent-none n h)

pub percent-unread : (old : Now) (r : Refusal) → IsUnread (leaf (unsigned_of 8)) old r → IsUnread percent_of old r
percent-unread old r unread w c node before = elim (unread w c node before) [
  | inl lacks ↦ inl lacks
  | inr none ↦ inr (ap (option_and_then percent_in) none)
]
