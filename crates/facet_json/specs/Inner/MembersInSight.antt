-- Members of an object that are read one after another, up to one that is not.
use Rattle.std.specs.Prelude.{ℕ, List, Option, Some, None, Result}
use Rattle.std.specs.declared.borrow.CowStr.{CowStr}
use Rattle.facet_format.specs.declared.error.DeserializeError.{DeserializeError}
use Rattle.facet_json_grammar.specs.Now.{Now, GoesOn}
use Rattle.facet_json_core.specs.Meaning.OneValue.{PassesValue}
use Rattle.facet_json_core.specs.Meaning.Reading.{IsRead}
use Rattle.facet_json_core.specs.Named.{PassesNamed, NamesNext}
use Rattle.facet_json.specs.Fields.{Reading}

-- A member came next, and its value was read.
pub record PutsMember {S : Type 0} (step : List ℕ → S → Reading S) (old : Now) (s : S) (new : Now) (t : S) : Type 0 where
  pub name : List ℕ
  pub mid : Now
  pub key : PassesNamed old name mid
  pub read : IsRead (step name s) mid t new
  pub value : PassesValue mid new
  pub onward : GoesOn mid new

-- Some members came next, and their values were read.
pub data PutsMembers {S : Type 0} (step : List ℕ → S → Reading S) (old : Now) (s : S) : Now → S → Type 0 where
  none_put : PutsMembers step old s old s
  one_put : (now new : Now) (t u : S) → PutsMembers step old s now t → PutsMember step now t new u → PutsMembers step old s new u

-- Then came the key of this name, if there is one, and it is passed.
abbrev pub PutsUpTo : {S : Type 0} → (List ℕ → S → Reading S) → Now → S → Option (List ℕ) → Now → S → Type 0
PutsUpTo step old s None new t = PutsMembers step old s new t
PutsUpTo step old s (Some name) new t = (now : Now) × PutsMembers step old s now t × PassesNamed now name new

-- A key came next and is passed, or the end of the object, or it is refused, after some members whose values were read.
abbrev pub PutsBefore : {A S : Type 0} → (List ℕ → S → Reading S) → Now → S → Result (Option (CowStr A)) DeserializeError → Now → S → Type 0
PutsBefore step old s result new t = (now : Now) × PutsMembers step old s now t × NamesNext now result new
