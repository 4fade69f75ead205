-- What a member's value adds to the first field, and to those after it.
use Rattle.std.specs.Prelude.{ℕ, List}
use Rattle.std.proofs.Common.{◌≡◌, Bool, true, false, inl, inr, Option, Some, ap, ◌∙◌}
use Rattle.facet_format.specs.Complaint.{Refusal}
use Rattle.facet_json_grammar.specs.Node.{Node}
use Rattle.facet_json_grammar.specs.Now.{Now}
use Rattle.facet_json_core.specs.Meaning.Reading.{IsRead, IsUnread}
use Rattle.facet_json_core.specs.Meaning.Scalars.{IsSeen}
use Rattle.facet_json.specs.Fields.{Reading, begins_with, other_names, seen_by, field_step}

module _ {V S : Type 0} (reading : Reading V) (others : List (List ℕ) → List ℕ → S → Reading S) (names : List (List ℕ)) (key : List ℕ) (seen : Option V × S) where
  first-is : (v : V) (buffer : List ℕ) (node : Node) → begins_with names key ≡ true → reading buffer node ≡ Some v →
      field_step reading others names key seen buffer node ≡ Some (Some v, seen.1)
  first-is v buffer node first is =
      ap (λ (b : Bool). seen_by b (reading buffer node) seen.0 seen.1 (others (other_names names) key seen.1 buffer node)) first
      ∙ ap (λ (o : Option V). seen_by true o seen.0 seen.1 (others (other_names names) key seen.1 buffer node)) is

  others-are : (more : S) (buffer : List ℕ) (node : Node) → begins_with names key ≡ false → others (other_names names) key seen.1 buffer node ≡ Some more →
      field_step reading others names key seen buffer node ≡ Some (seen.0, more)
  others-are more buffer node first is =
      ap (λ (b : Bool). seen_by b (reading buffer node) seen.0 seen.1 (others (other_names names) key seen.1 buffer node)) first
      ∙ ap (λ (o : Option S). seen_by false (reading buffer node) seen.0 seen.1 o) is

  -- The first field's value was read.
  pub first-read : (old new : Now) (v : V) → begins_with names key ≡ true → IsRead reading old v new →
      IsRead (field_step reading others names key seen) old (Some v, seen.1) new
  first-read old new v first read w c node before =
      let r = read w c node before in (first-is v w.bytes node first r.0, r.1)

  pub first-unread : (old : Now) (r : Refusal) → begins_with names key ≡ true → IsUnread reading old r →
      IsUnread (field_step reading others names key seen) old r
  first-unread old r first unread w c node before = elim (unread w c node before) [
    | inl lacks ↦ inl lacks
    | inr none ↦ inr (ap (λ (b : Bool). seen_by b (reading w.bytes node) seen.0 seen.1 (others (other_names names) key seen.1 w.bytes node)) first ∙ ap (λ (o : Option V). seen_by true o seen.0 seen.1 (others (other_names names) key seen.1 w.bytes node)) none)
  ]

  -- The member went to the fields after it.
  pub others-read : (old new : Now) (more : S) → begins_with names key ≡ false → IsRead (others (other_names names) key seen.1) old more new →
      IsRead (field_step reading others names key seen) old (seen.0, more) new
  others-read old new more first read w c node before =
      let r = read w c node before in (others-are more w.bytes node first r.0, r.1)

  pub others-unread : (old : Now) (r : Refusal) → begins_with names key ≡ false → IsUnread (others (other_names names) key seen.1) old r →
      IsUnread (field_step reading others names key seen) old r
  others-unread old r first unread w c node before = elim (unread w c node before) [
    | inl lacks ↦ inl lacks
    | inr none ↦ inr (ap (λ (b : Bool). seen_by b (reading w.bytes node) seen.0 seen.1 (others (other_names names) key seen.1 w.bytes node)) first ∙ ap (λ (o : Option S). seen_by false (reading w.bytes node) seen.0 seen.1 o) none)
  ]

  -- ---- a scalar in sight

  -- It is the first field's.
  pub first-seen : (input : List ℕ) (at len : ℕ) (v : V) → begins_with names key ≡ true → IsSeen reading input at len v →
      IsSeen (field_step reading others names key seen) input at len (Some v, seen.1)
  first-seen input at len v first is =
      record { there = is.there; reads = λ buffer node one. first-is v buffer node first (is.reads buffer node one) }

  -- It goes to the fields after it.
  pub others-seen : (input : List ℕ) (at len : ℕ) (more : S) → begins_with names key ≡ false → IsSeen (others (other_names names) key seen.1) input at len more →
      IsSeen (field_step reading others names key seen) input at len (seen.0, more)
  others-seen input at len more first is =
      record { there = is.there; reads = λ buffer node one. others-are more buffer node first (is.reads buffer node one) }
