-- The key of a member that is passed next.
use Rattle.std.specs.Prelude.{◌≡◌, ◌<◌, ℕ, List, Option, Some, None, Result, Ok, Err}
use Rattle.std.specs.declared.borrow.CowStr.{CowStr}
use Rattle.std.specs.Option.{option_map}
use Rattle.facet_format.specs.declared.error.DeserializeError.{DeserializeError}
use Rattle.facet_format.specs.Event.{bytes_of}
use Rattle.facet_format.specs.HeldText.{text_of}
use Rattle.facet_format.specs.Views.{refusal_of}
use Rattle.facet_json_grammar.specs.Now.{Now, ahead, GoesOn}
use Rattle.facet_json_core.specs.Finding.{PassesNextKey}
use Rattle.facet_json_core.specs.Meaning.Objects.{PassesKey, LacksKey}
use Rattle.facet_json_core.specs.Meaning.OneValue.{PassesKeyInside, PassesMemberOrEnd}
use Rattle.facet_json_core.specs.Refusing.{TellsRefusal}

-- The key of this name came next, and is passed.
pub record PassesNamed (old : Now) (name : List ℕ) (new : Now) : Type 0 where
  pub key : PassesKey old (Some name) new
  pub next : PassesNextKey old (Some name) new
  pub inside : PassesKeyInside old new
  pub onward : GoesOn old new
  pub shorter : ahead new < ahead old
  pub free : new.cursor.refusal ≡ None

-- A key came next and is passed, or the end of the object.
pub record PassesNameOrEnd {A : Type 0} (old : Now) (key : Option (CowStr A)) (new : Now) : Type 0 where
  pub passes : PassesKey old (option_map (λ s. bytes_of (text_of s)) key) new
  pub next : PassesNextKey old (option_map (λ s. bytes_of (text_of s)) key) new
  pub member : PassesMemberOrEnd old key new
  pub onward : GoesOn old new
  pub shorter : ahead new < ahead old
  pub free : new.cursor.refusal ≡ None

-- It is refused.
pub record LacksName (old : Now) (e : DeserializeError) (new : Now) : Type 0 where
  pub lacks : LacksKey old (refusal_of e)
  pub tells : TellsRefusal old new (refusal_of e)
  pub onward : GoesOn old new

-- One or the other.
abbrev pub NamesNext : {A : Type 0} → Now → Result (Option (CowStr A)) DeserializeError → Now → Type 0
NamesNext old (Ok key) new = PassesNameOrEnd old key new
NamesNext old (Err e) new = LacksName old e new
