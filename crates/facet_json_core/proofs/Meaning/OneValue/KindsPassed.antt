-- What is passed with an event, by what is known of its kind.
use Rattle.std.proofs.Common.{◌≡◌, true, List, ℕ, Option, Some, None}
use Rattle.std.specs.Option.{option_map}
use Rattle.facet_format.specs.Event.{array, EventKind, struct_end, sequence_end, field_key, scalar}
use Rattle.facet_json_grammar.specs.Now.{Now}
use Rattle.facet_json_core.specs.Meaning.Borrowed.{lent}
use Rattle.facet_json_core.specs.Meaning.ListSteps.{ends_list}
use Rattle.facet_json_core.specs.Meaning.Objects.{key_or_end}
use Rattle.facet_json_core.specs.Meaning.OneValue.{PassesValue, PassesEndOf, PassesByKind, PassesMemberOrEnd}
use Rattle.facet_json_core.specs.Meaning.Optional.{is_null_event}

module _ (old new : Now) where
  pub list-ended : (k : EventKind) → ends_list k ≡ true → PassesByKind k old new → PassesEndOf array old new
  list-ended sequence_end b passed = passed
  list-ended _ b passed = cc

  -- A key, or the end of an object.
  pub member-passed : {K : Type 0} (text : K → List ℕ) (key : Option K) (k : EventKind) → key_or_end k ≡ Some (option_map text key) →
      PassesByKind k old new → PassesMemberOrEnd old key new
  member-passed text (Some key) (field_key name) is passed = passed
  member-passed text (Some key) _ is passed = cc
  member-passed text None struct_end is passed = passed
  member-passed text None _ is passed = cc

  -- A scalar is a value.
  pub null-passed : (k : EventKind) → is_null_event k ≡ true → PassesByKind k old new → PassesValue old new
  null-passed (scalar s) is passed = passed
  null-passed _ is passed = cc

  pub lent-passed : (k : EventKind) (text : List ℕ) → lent k ≡ Some text → PassesByKind k old new → PassesValue old new
  lent-passed (scalar s) text is passed = passed
  lent-passed _ text is passed = cc
