-- Items of a list that are read one after another.
use Rattle.std.specs.Prelude.{List, [], ◌∷◌, ◌++◌}
use Rattle.facet_json_grammar.specs.Now.{Now, GoesOn}
use Rattle.facet_json_core.specs.Meaning.OneValue.{PassesValue}
use Rattle.facet_json_core.specs.Meaning.Reading.{IsRead}
use Rattle.facet_json_core.specs.Meaning.Shapes.{Reading}
use Rattle.facet_json_core.specs.Meaning.Taking.{PassesItem}

-- An item came next, and was read.
pub record ReadsItem {V : Type 0} (reading : Reading V) (old : Now) (v : V) (new : Now) : Type 0 where
  pub item : PassesItem old new
  pub read : IsRead reading old v new
  pub value : PassesValue old new
  pub onward : GoesOn old new

-- Some items came next, and were read behind these.
pub data ReadsItems {V : Type 0} (reading : Reading V) (old : Now) (vs : List V) : Now → List V → Type 0 where
  none_read : ReadsItems reading old vs old vs
  one_read : (now new : Now) (ws : List V) (v : V) → ReadsItems reading old vs now ws → ReadsItem reading now v new →
      ReadsItems reading old vs new (ws ++ v ∷ [])
