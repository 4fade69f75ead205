-- What a serializer of one value knows of the value that is begun.
use Rattle.std.specs.Prelude.{◌≡◌, ◌<◌, ◌^◌, nat_lt, ◌⊎◌, ℕ, Bool, true, false, List, [], ◌∷◌, ◌++◌, Option, Some, None, ⊤}
use Rattle.std.specs.Io.KnownBytes.{Appends}
use Rattle.std.specs.Char.{IsScalar}
use Rattle.std.specs.List.{list_all}
use Rattle.std.specs.Str.{is_utf8}
use Rattle.facet_format.specs.Number.{float}
use Rattle.facet_format.specs.NumberValue.{number, decimal}
use Rattle.facet_json_grammar.specs.AsRead.{FitsBits, IsBlankIndent}
use Rattle.facet_json_grammar.specs.ReadBack.{IsReadBack}
use Rattle.facet_format.specs.Event.{Scalar, borrowed, owned}
use Rattle.facet_format.specs.Event as event
use Rattle.facet_format.specs.SerializerCall.{TakesAll}
use Rattle.facet_json_grammar.specs.Text.{Options, text}
use Rattle.facet_json_grammar.specs.Tree.{Tree}
use Rattle.facet_json_serializer.specs.Serializer.{Writing, Takes}
use Rattle.facet_json_serde.specs.declared.due.Due.{Due}
use Rattle.facet_json_serde.specs.declared.due.Due.TheVariants.{Value, Whole, Item, Key, Named}
use Rattle.facet_json_serde.specs.Begun.{Level, in_items, in_members, Begun, within, whole, begun_calls, IsFormed, AreSound}

abbrev pub takes_value : Due → Bool
takes_value Value = true
takes_value Whole = false
takes_value Item = true
takes_value Key = false
takes_value Named = true

abbrev pub stage_after_value : Due → Due
stage_after_value Value = Whole
stage_after_value Whole = Whole
stage_after_value Item = Item
stage_after_value Key = Key
stage_after_value Named = Key

-- what may come within these containers
abbrev pub stage_within : List Level → Due
stage_within [] = Value
stage_within (in_items items ∷ around) = Item
stage_within (in_members members None ∷ around) = Key
stage_within (in_members members (Some key) ∷ around) = Named

abbrev pub stage_begun : Begun → Due
stage_begun (within levels) = stage_within levels
stage_begun (whole t) = Whole

-- what may come around each container, the outermost first
abbrev pub stages_around : List Level → List Due
stages_around [] = []
stages_around (level ∷ around) = stages_around around ++ stage_within around ∷ []

abbrev pub around_of : Begun → List Due
around_of (within levels) = stages_around levels
around_of (whole t) = []

abbrev pub sound_of : Begun → Type 0
sound_of (within levels) = AreSound levels
sound_of (whole t) = IsFormed t

-- The serializer took the calls of a value that is begun so.
pub record BegunValue (o : Options) (now : Option Writing) (stage : Due) (around : List Due) : Type 0 where
  pub begun : Begun
  pub taken : TakesAll Takes (Some (record { options = o; stack = []; written = [] })) (begun_calls begun) now
  pub sound : sound_of begun
  pub at_stage : stage ≡ stage_begun begun
  pub is_around : around ≡ around_of begun

-- Memory ran out, or a value is begun so.
abbrev pub IsBegun : Options → Option Writing → Due → List Due → Type 0
IsBegun o now stage around = ∥ (now ≡ None) ⊎ BegunValue o now stage around ∥₁

-- A tree of Rust's is written by this scalar alone. A text that is owned is none, since it is written as a borrowed one.
abbrev pub IsTree : Scalar → Type 0
IsTree event.null = ⊤
IsTree event.unit = ⊤
IsTree (event.bool b) = ⊤
IsTree (event.char c) = IsScalar c
IsTree (event.i64 n) = FitsBits 63 n
IsTree (event.u64 n) = n < 2 ^ 64
IsTree (event.i128 n) = FitsBits 127 n
IsTree (event.u128 n) = n < 2 ^ 128
IsTree (event.decimal (borrowed t)) = number t float ≡ Some (decimal t)
IsTree (event.decimal (owned t)) = ⊥
IsTree (event.text (borrowed t)) = is_utf8 t ≡ true
IsTree (event.text (owned t)) = ⊥
IsTree (event.bytes b) = list_all (λ x. nat_lt x 0x100) b ≡ true

-- The bytes are the text of a tree, in the layout of these options. Where the indent is white space, they are one document of RFC 8259's
-- grammar as this library reads it, whose tree is what the tree reads as.
abbrev pub IsTextOfTree : Options → List ℕ → Type 0
IsTextOfTree o bytes = ∥ ((t : Tree) × (bytes ≡ text o 0 t) × (IsBlankIndent o → IsReadBack o t bytes)) ∥₁

-- Such bytes were appended to what a writer has, as far as it is known.
abbrev pub WritesTree : Options → Option (List ℕ) → Option (List ℕ) → Type 0
WritesTree o old new = (bytes : List ℕ) × IsTextOfTree o bytes × Appends old new bytes
