-- Fields: nodes of the same text are read alike.
use Rattle.std.proofs.Common.{◌≡◌, ℕ, List, Option, refl, ap, ◌∙◌}
use Rattle.std.specs.Option.{option_and_then}
use Rattle.facet_json_grammar.specs.Meaning.{text_in_tree, meaning}
use Rattle.facet_json_grammar.specs.Node.{Members}
use Rattle.facet_json_core.specs.Meaning.Laws.{SameReading}
use Rattle.facet_json_core.specs.Meaning.Nodes.{same_scalars, same_arrays, same_objects, SameMembers, same_no_members, same_member}
use Rattle.facet_json_core.specs.Meaning.Optional.{optional}
use Rattle.facet_json_core.proofs.Meaning.Leaves.LeafLaws.{same-means}
use Rattle.facet_json_core.proofs.Meaning.Objects.MapLaws.{and_then-same}
use Rattle.facet_json_core.proofs.Meaning.Nullable.OptionalLaws.{optional-same}
use Rattle.facet_json.specs.Fields.{Reading, Table, none, need, maybe, seen_by, begins_with, other_names, field_step, after_members, fields_of}

-- What a member adds is told by its text.
pub record SameSteps {V : Type 0} (t : Table V) : Type 0 where
  pub same : (names : List (List ℕ)) (key : List ℕ) (seen : t.Seen) → SameReading (t.step names key seen)

pub none-same : SameSteps none
none-same = record { same = λ names key seen these those n m h. refl }

step-same : {V S : Type 0} (reading : Reading V) (others : List (List ℕ) → List ℕ → S → Reading S) → SameReading reading →
    ((names : List (List ℕ)) (key : List ℕ) (seen : S) → SameReading (others names key seen)) →
    (names : List (List ℕ)) (key : List ℕ) (seen : Option V × S) → SameReading (field_step reading others names key seen)
step-same reading others same more names key seen these those n m h =
    ap (λ v. seen_by (begins_with names key) v seen.0 seen.1 (others (other_names names) key seen.1 these n)) (same these those n m h)
    ∙ ap (λ o. seen_by (begins_with names key) (reading those m) seen.0 seen.1 o) (more (other_names names) key seen.1 these those n m h)

pub need-same : {V W : Type 0} {reading : Reading V} {t : Table W} → SameReading reading → SameSteps t → SameSteps (need reading t)
need-same {reading = reading} {t = t} same more = record { same = step-same reading t.step same more.same }

pub maybe-same : {V W : Type 0} {reading : Reading V} {t : Table W} → SameReading reading → SameSteps t → SameSteps (maybe reading t)
maybe-same {reading = reading} {t = t} same more =
    record { same = step-same (optional reading) t.step (optional-same reading same) more.same }

members-same : {S : Type 0} (step : List ℕ → S → Reading S) → ((key : List ℕ) (seen : S) → SameReading (step key seen)) → (these those : List ℕ)
    (members others : Members) → SameMembers these those members others → (seen : S) →
    after_members step these members seen ≡ after_members step those others seen
members-same step same these those _ _ same_no_members seen = refl
members-same step same these those _ _ (same_member key mark name colon n m members others t h more) seen =
    and_then-same _ _
    (λ k. and_then-same _ _ (members-same step same these those members others more) (step k seen these n) (step k seen those m) (same k seen these those n m h))
    (text_in_tree (meaning these key)) (text_in_tree (meaning those name)) (ap text_in_tree (same-means these those key name t))

pub fields-same : {V : Type 0} {t : Table V} → SameSteps t → (names : List (List ℕ)) → SameReading (fields_of t names)
fields-same {t = t} s names these those _ _ (same_scalars a b token bytes) = refl
fields-same {t = t} s names these those _ _ (same_arrays first last begin end nodes others bytes items) = refl
fields-same {t = t} s names these those _ _ (same_objects first last begin end inside others bytes more) =
    ap (option_and_then t.ends) (members-same (t.step names) (s.same names) these those inside others more t.start)
