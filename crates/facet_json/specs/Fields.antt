-- How an object is read as a list of fields.
use Rattle.std.specs.Prelude.{◌≡◌, ℕ, Bool, true, false, List, [], ◌∷◌, map, Option, Some, None}
use Rattle.std.specs.Borrow.{Bor}
use Rattle.std.specs.Option.{option_map, option_and_then}
use Rattle.std.specs.Str.{bytes_eq}
use Rattle.facet_format.specs.Complaint.{missing_field, Refusal, refusal_at}
use Rattle.facet_format.specs.Span.{Span}
use Rattle.facet_json_grammar.specs.Meaning.{text_in_tree, meaning}
use Rattle.facet_json_grammar.specs.Node.{scalar, array, object, Members, no_members, member}
use Rattle.facet_json_core.specs.Meaning.Optional.{optional}
use Rattle.facet_json_core.specs.Meaning.Passing.{anything}
pub use Rattle.facet_json_core.specs.Meaning.Shapes.{Reading}

-- ---- names

abbrev pub keys : List (Bor (List ℕ)) → List (List ℕ)
keys names = map (λ s. s.now) names

-- whether the name comes first
abbrev pub begins_with : List (List ℕ) → List ℕ → Bool
begins_with [] key = false
begins_with (name ∷ names) key = bytes_eq name key

abbrev pub first_name : List (List ℕ) → List ℕ
first_name [] = []
first_name (name ∷ names) = name

abbrev pub other_names : List (List ℕ) → List (List ℕ)
other_names [] = []
other_names (name ∷ names) = names

-- The object that ends with this bracket lacks a field.
abbrev pub LacksField : Span → Refusal → Type 0
LacksField bracket refusal = (field : List ℕ) × (refusal ≡ refusal_at (missing_field field) bracket)

-- ---- fields

-- How a list of fields is read, of which each takes the members of its name: what is known of the fields before the first member, what a
-- member's value adds to it, if it is read, and what the fields are after the last member, if none is missing.
pub record Table (V : Type 0) : Type 1 where
  pub Seen : Type 0
  pub start : Seen
  pub step : List (List ℕ) → List ℕ → Seen → Reading Seen
  pub ends : Seen → Option V

abbrev pub table : {S V : Type 0} → S → (List (List ℕ) → List ℕ → S → Reading S) → (S → Option V) → Table V
table {S} start step ends = record { Seen = S; start = start; step = step; ends = ends }

-- No field: every member is passed.
abbrev pub pass : List (List ℕ) → List ℕ → Unit {0} → Reading (Unit {0})
pass names key seen = anything

abbrev pub done : Unit {0} → Option (Unit {0})
done seen = Some tt

-- A value of the first field replaces the one before; another goes to the fields after it.
abbrev pub seen_by : {V S : Type 0} → Bool → Option V → Option V → S → Option S → Option (Option V × S)
seen_by true value old others next = option_map (λ v. (Some v, others)) value
seen_by false value old others next = option_map (λ s. (old, s)) next

-- A member of the first name is read as the first field.
abbrev pub field_step : {V S : Type 0} → Reading V → (List (List ℕ) → List ℕ → S → Reading S) → List (List ℕ) → List ℕ → Option V × S → Reading (Option V × S)
field_step reading others names key seen buffer node =
    seen_by (begins_with names key) (reading buffer node) seen.0 seen.1 (others (other_names names) key seen.1 buffer node)

-- The first field has to be there.
abbrev pub need_ends : {V S W : Type 0} → (S → Option W) → Option V × S → Option (V × W)
need_ends others seen = option_and_then (λ v. option_map (λ w. (v, w)) (others seen.1)) seen.0

-- The first field may be missing.
abbrev pub joined : {V : Type 0} → Option (Option V) → Option V
joined None = None
joined (Some value) = value

abbrev pub maybe_ends : {V S W : Type 0} → (S → Option W) → Option (Option V) × S → Option (Option V × W)
maybe_ends others seen = option_map (λ w. (joined seen.0, w)) (others seen.1)

-- no field
abbrev pub none : Table (Unit {0})
none = table tt pass done

-- a field that has to be there, and those after it
abbrev pub need : {V W : Type 0} → Reading V → Table W → Table (V × W)
need reading t = table (None, t.start) (field_step reading t.step) (need_ends t.ends)

-- a field that may be missing or null, and those after it
abbrev pub maybe : {V W : Type 0} → Reading V → Table W → Table (Option V × W)
maybe reading t = table (None, t.start) (field_step (optional reading) t.step) (maybe_ends t.ends)

-- ---- an object

-- what is known after these members in their order, where each is read
abbrev pub after_members : {S : Type 0} → (List ℕ → S → Reading S) → List ℕ → Members → S → Option S
after_members step buffer no_members seen = Some seen
after_members step buffer (member key mark node members) seen =
    option_and_then (λ k. option_and_then (after_members step buffer members) (step k seen buffer node)) (text_in_tree (meaning buffer key))

-- An object is read as the fields of these names.
abbrev pub fields_of : {V : Type 0} → Table V → List (List ℕ) → Reading V
fields_of t names buffer (scalar token) = None
fields_of t names buffer (array first last nodes) = None
fields_of t names buffer (object first last members) = option_and_then t.ends (after_members (t.step names) buffer members t.start)
