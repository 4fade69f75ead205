-- Where what comes opens a container beyond a limit.
use Rattle.std.specs.Prelude.{◌≡◌, ◌≢◌, ◌⊎◌, ℕ, zero, suc, List, Option, None, Some}
use Rattle.facet_format.specs.Complaint.{Refusal}
use Rattle.facet_format.specs.Span.{Span}
use Rattle.facet_json_token.specs.Tokens.{Tokens}
use Rattle.facet_json_grammar.specs.Place.{Place}
use Rattle.facet_json_grammar.specs.Tree.{Tree}
use Rattle.facet_json_grammar.specs.Future.{Future, finished}
use Rattle.facet_json_core.specs.Told.{Tells, Breaks}
use Rattle.facet_json_core.specs.Reading.{LacksMemory, IsUnreadBy, IsValueRead}
use Rattle.facet_json_tree.specs.Depth.{beyond, too_deep_at}

-- how many more containers may be opened within another one
abbrev pub inner : Option ℕ → Option ℕ
inner None = None
inner (Some zero) = Some zero
inner (Some (suc n)) = Some n

-- One more may be opened.
abbrev pub Admits : Option ℕ → Type 0
Admits limit = limit ≢ Some 0

-- From the start on, within the limit, the same is first beyond as from here on, within what is left of it.
pub record SameBeyond (start : Future) (limit : Option ℕ) (here : Future) (left : Option ℕ) : Type 0 where
  pub same : beyond start limit ≡ beyond here left

-- It was refused as without a limit, and if not for lack of memory, then no bracket beyond comes before the place where the events
-- break off; or for the first bracket beyond.
pub data IsUnreadWithin (limit : Option ℕ) (V : Type 0) (tells : Future → V → Future → Type 0)
    (breaks : Place → Tokens → Future → Type 0) (buffer : List ℕ) (start : Future) (refusal : Refusal) : Type 0 where
  as_ever : IsUnreadBy V tells breaks buffer start refusal →
      ((place : Place) (rest : Tokens) → breaks place rest start → LacksMemory refusal ⊎ (beyond start limit ≡ None)) →
      IsUnreadWithin limit V tells breaks buffer start refusal
  too_deep : (span : Span) → beyond start limit ≡ Some span → refusal ≡ too_deep_at span →
      IsUnreadWithin limit V tells breaks buffer start refusal

abbrev pub IsValueUnreadWithin : Option ℕ → List ℕ → Future → Refusal → Type 0
IsValueUnreadWithin limit = IsUnreadWithin limit Tree Tells Breaks

-- The value was read, and from its start on the same is beyond as after it.
pub record IsReadWithin (limit : Option ℕ) (start : Future) (value : Tree) : Type 0 where
  pub behind : Future
  pub read : IsValueRead start value behind
  pub level : SameBeyond start limit behind limit

-- The value was read so, and behind it is the end.
pub record IsAllRead (limit : Option ℕ) (start : Future) (value : Tree) : Type 0 where
  pub first : IsReadWithin limit start value
  pub over : first.behind ≡ finished

-- The value was refused; or it was read, and behind it is not the end.
pub data IsNotAllRead (limit : Option ℕ) (buffer : List ℕ) (start : Future) (refusal : Refusal) : Type 0 where
  no_value : IsValueUnreadWithin limit buffer start refusal → IsNotAllRead limit buffer start refusal
  not_over : (value : Tree) (first : IsReadWithin limit start value) → first.behind ≢ finished → IsNotAllRead limit buffer start refusal
