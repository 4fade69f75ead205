-- Fields: their members, as they are written, are read as their values.
use Rattle.std.proofs.Common.{◌≡◌, ℕ, Bool, true, false, cond, List, [], ◌∷◌, Option, None, Some, refl, sym, ap, ◌∙◌}
use Rattle.std.specs.Option.{option_map, option_and_then}
use Rattle.std.specs.Str.{bytes_eq}
use Rattle.std.proofs.lemmas.Slice.Eq.{bytes_eq-Decides}
use Rattle.facet_json_token.specs.Token.{Token}
use Rattle.facet_json_grammar.specs.Meaning.{text_in_tree, meaning}
use Rattle.facet_json_grammar.specs.Node.{Node, Members, no_members, member}
use Rattle.facet_json.specs.Fields.{Reading, Table, table, none, seen_by, field_step, after_members}
use Rattle.facet_json.specs.Shapes.{lacks}

-- The members have these keys, one after the other.
abbrev pub KeysAre : List ℕ → List (List ℕ) → Members → Type 0
KeysAre buffer [] no_members = Unit {0}
KeysAre buffer [] (member key mark value rest) = ⊥
KeysAre buffer (name ∷ names) no_members = ⊥
KeysAre buffer (name ∷ names) (member key mark value rest) = (text_in_tree (meaning buffer key) ≡ Some name) × KeysAre buffer names rest

-- The members have the fields' names, and are read as the value.
pub record FieldsAre {V : Type 0} (t : Table V) (names : List (List ℕ)) (v : V) (buffer : List ℕ) (members : Members) : Type 0 where
  pub keys : KeysAre buffer names members
  pub are : option_and_then t.ends (after_members (t.step names) buffer members t.start) ≡ Some v

pub none-are : (buffer : List ℕ) → FieldsAre none [] tt buffer no_members
none-are buffer = record { keys = tt; are = refl }

lacks-parts : (b r : Bool) → cond b false r ≡ true → (b ≡ false) × (r ≡ true)
lacks-parts true r e = cc
lacks-parts false r e = (refl, e)

module _ {V S : Type 0} (reading : Reading V) (others : List (List ℕ) → List ℕ → S → Reading S) (name : List ℕ) (names : List (List ℕ)) (buffer : List ℕ) where
  abbrev step : List ℕ → Option V × S → Reading (Option V × S)
  step = field_step reading others (name ∷ names)

  -- Members of other names go to the fields after it, each and all.
  past-one : (old : Option V) (rest : Members) → ((seen : S) → after_members step buffer rest (old, seen) ≡ option_map (λ s. (old, s)) (after_members (others names) buffer rest seen)) →
      (next : Option S) → option_and_then (after_members step buffer rest) (option_map (λ s. (old, s)) next)
      ≡ option_map (λ s. (old, s)) (option_and_then (after_members (others names) buffer rest) next)
  past-one old rest past None = refl
  past-one old rest past (Some seen) = past seen

  past-all : (old : Option V) (keys : List (List ℕ)) (members : Members) → KeysAre buffer keys members → lacks name keys ≡ true → (seen : S) →
      after_members step buffer members (old, seen) ≡ option_map (λ s. (old, s)) (after_members (others names) buffer members seen)
  past-all old [] no_members are apart seen = refl
  past-all old [] (member key mark value rest) are apart seen = absurd are
  past-all old (k ∷ keys) no_members are apart seen = absurd are
  past-all old (k ∷ keys) (member key mark value rest) are apart seen =
      let other = lacks-parts (bytes_eq name k) (lacks name keys) apart in
      ap (option_and_then (λ j. option_and_then (after_members step buffer rest) (step j (old, seen) buffer value))) are.0
      ∙ ap (λ b. option_and_then (after_members step buffer rest) (seen_by b (reading buffer value) old seen (others names k seen buffer value))) other.0
      ∙ past-one old rest (past-all old keys rest are.1 other.1) (others names k seen buffer value)
      ∙ sym (ap (λ o. option_map (λ s. (old, s)) (option_and_then (λ j. option_and_then (after_members (others names) buffer rest) (others names j seen buffer value)) o)) are.0)

  -- The first member is the first field's.
  first-filled : (key mark : Token) (value : Node) (rest : Members) (v : V) (seen : S) → text_in_tree (meaning buffer key) ≡ Some name →
      reading buffer value ≡ Some v → KeysAre buffer names rest → lacks name names ≡ true →
      after_members step buffer (member key mark value rest) (None, seen) ≡ option_map (λ s. (Some v, s)) (after_members (others names) buffer rest seen)
  first-filled key mark value rest v seen named is are apart =
      ap (option_and_then (λ j. option_and_then (after_members step buffer rest) (step j (None, seen) buffer value))) named
      ∙ ap (λ b. option_and_then (after_members step buffer rest) (seen_by b (reading buffer value) None seen (others names name seen buffer value))) ((bytes_eq-Decides name name).1 refl)
      ∙ ap (λ o. option_and_then (after_members step buffer rest) (seen_by true o None seen (others names name seen buffer value))) is
      ∙ past-all (Some v) names rest are apart seen

module _ {V W : Type 0} (reading : Reading V) (t : Table W) (ends : Option V × t.Seen → Option (V × W)) (v : V)
    (begins : (seen : t.Seen) → ends (Some v, seen) ≡ option_map (λ w. (v, w)) (t.ends seen)) where
  -- Where the field has its value, the fields are it and the others.
  ends-over : (o : Option t.Seen) → option_and_then ends (option_map (λ s. (Some v, s)) o) ≡ option_map (λ w. (v, w)) (option_and_then t.ends o)
  ends-over None = refl
  ends-over (Some seen) = begins seen

  -- A member of the name that reads as the field's value is the field, before the others.
  pub field-are : (name : List ℕ) (names : List (List ℕ)) → lacks name names ≡ true → (w : W) (buffer : List ℕ) (key mark : Token) (value : Node) (rest : Members) →
      text_in_tree (meaning buffer key) ≡ Some name → reading buffer value ≡ Some v → FieldsAre t names w buffer rest →
      FieldsAre (table (None, t.start) (field_step reading t.step) ends) (name ∷ names) (v, w) buffer (member key mark value rest)
  field-are name names apart w buffer key mark value rest named is h = record {
    keys = (named, h.keys);
    are = ap (option_and_then ends) (first-filled reading t.step name names buffer key mark value rest v t.start named is h.keys apart)
        ∙ ends-over (after_members (t.step names) buffer rest t.start) ∙ ap (option_map (λ x. (v, x))) h.are;
  }
