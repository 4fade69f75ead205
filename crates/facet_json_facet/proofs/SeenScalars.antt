-- How a scalar in sight is read as a value of each type.
use Rattle.std.specs.Prelude.{◌≡◌, ℕ, Bool, true, false, cond, List, Option, Some, None, IfSome}
use Rattle.std.specs.Option.{option_and_then}
use Rattle.std.proofs.Common.{sym, ap, ◌∙◌, subst}
use Rattle.facet_format.specs.Event.{Scalar, bool, borrowed, null, scalar, text}
use Rattle.facet_json_token.specs.Gap.{plain}
use Rattle.facet_json_grammar.specs.Language.{lenient}
use Rattle.facet_json_grammar.specs.Tree.{Tree}
use Rattle.facet_json_reader.specs.Values.{IsValueThere}
use Rattle.facet_json_core.specs.Told.{tree_of_scalar}
use Rattle.facet_json_core.specs.Meaning.Borrowed.{borrowed_text}
use Rattle.facet_json_core.specs.Meaning.Optional.{optional}
use Rattle.facet_json_core.specs.Meaning.Readings.{bool_of, leaf, taken}
use Rattle.facet_json_core.specs.Meaning.Scalars.{IsSeen, ReadsScalar}
use Rattle.facet_json_core.specs.Meaning.Shapes.{Reading}
use Rattle.facet_json_core.proofs.Meaning.Leaves.ScalarReadings.{leaf-scalar, lent-scalar, null-scalar, value-scalar}
use Rattle.facet_json_facet.specs.Inner.Taking.{IsTakenThere}

-- What is taken of the value before.
pub taken-then : {V W : Type 0} (takes : Tree → Option V) (holds : V → Option W) (s : Scalar) (v : V) (w : W) → taken takes (scalar s) ≡ Some v →
    holds v ≡ Some w → taken (λ t. option_and_then holds (takes t)) (scalar s) ≡ Some w
taken-then takes holds s v w is held = by (tree_of_scalar s) is
  where
    by : (o : Option Tree) → option_and_then takes o ≡ Some v → option_and_then (λ t. option_and_then holds (takes t)) o ≡ Some w
    by None e = cc
    by (Some t) e = ap (option_and_then holds) e ∙ held

-- Of a truth value itself.
pub truth-there : (buffer : List ℕ) (at : ℕ) (o : Option (Bool × ℕ)) → IfSome o (λ r. IsValueThere (lenient plain) buffer at r.1 (bool r.0)) →
    IfSome o (λ r. IsTakenThere bool_of buffer at r.1 r.0)
truth-there buffer at None is = tt
truth-there buffer at (Some r) is = record { there = is.0; is = ap (λ x. taken bool_of (scalar x)) is.1 }

module _ (buffer : List ℕ) (at len : ℕ) where
  -- Of a scalar that stands there something is taken.
  pub taken-there : {V : Type 0} (takes : Tree → Option V) (value : Scalar) (v : V) → IsValueThere (lenient plain) buffer at len value →
      taken takes (scalar value) ≡ Some v → IsTakenThere takes buffer at len v
  taken-there takes value v is taken_of = record { there = is.0; is = ap (λ x. taken takes (scalar x)) is.1 ∙ taken_of }

  either : {V : Type 0} (b : Bool) (reading : Reading V) (v : V) → IsSeen reading buffer at len v → IsSeen (cond b reading reading) buffer at len v
  either true reading v seen = seen
  either false reading v seen = seen

  -- What is taken of its event is seen, whether the input may be borrowed or not.
  pub leaf-seen : {V : Type 0} (b : Bool) (takes : Tree → Option V) (v : V) → IsTakenThere takes buffer at len v →
      IsSeen (cond b (leaf takes) (leaf takes)) buffer at len v
  leaf-seen b takes v taken =
      either b (leaf takes) v (record { there = taken.there; reads = leaf-scalar takes taken.there.value v taken.is })

  -- A text is lent.
  pub lent-seen : (t : List ℕ) → IsValueThere (lenient plain) buffer at len (text (borrowed t)) → IsSeen borrowed_text buffer at len t
  lent-seen t is =
      record { there = is.0; reads = subst (λ v. ReadsScalar borrowed_text v t) (sym is.1) (lent-scalar t) }

  module _ {V : Type 0} where
    null-either : (reading : Reading V) → IsValueThere (lenient plain) buffer at len null → IsSeen (optional reading) buffer at len None
    null-either reading is =
        record { there = is.0; reads = subst (λ v. ReadsScalar (optional reading) v None) (sym is.1) (null-scalar reading) }

    -- Null is no value.
    pub null-seen : (b : Bool) (lent owned : Reading V) → IsValueThere (lenient plain) buffer at len null →
        IsSeen (cond b (optional lent) (optional owned)) buffer at len None
    null-seen true lent owned is = null-either lent is
    null-seen false lent owned is = null-either owned is

    value-either : (reading : Reading V) (v : V) → (IsValueThere (lenient plain) buffer at len null → ⊥) → IsSeen reading buffer at len v →
        IsSeen (optional reading) buffer at len (Some v)
    value-either reading v other seen =
        record { there = seen.there; reads = value-scalar reading seen.there.value v (λ e. other (seen.there, e)) seen.reads }

    -- Another scalar is one.
    pub value-seen : (b : Bool) (lent owned : Reading V) (v : V) → (IsValueThere (lenient plain) buffer at len null → ⊥) →
        IsSeen (cond b lent owned) buffer at len v → IsSeen (cond b (optional lent) (optional owned)) buffer at len (Some v)
    value-seen true lent owned v other seen = value-either lent v other seen
    value-seen false lent owned v other seen = value-either owned v other seen
