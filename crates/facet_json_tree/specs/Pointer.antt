-- JSON pointers: texts that name a value within a value (RFC 6901). A text is its bytes in UTF-8.
use Rattle.std.specs.Prelude.{◌≡◌, ◌≢◌, ℕ, suc, Bool, true, false, ◌==◌, ◌&&◌, ◌||◌, not, List, [], ◌∷◌, ◌++◌, Option, Some, None, option_map, option_and_then, if◌then◌else◌}
use Rattle.std.specs.List.{list_all}
use Rattle.facet_format.specs.Bytes.{is_digit, slash}
use Rattle.facet_format.specs.NumberValue.{digits_value}
use Rattle.facet_json_grammar.specs.Tree.{Tree, list, pairs}
use Rattle.facet_json_tree.specs.Lookup.{last_member, item_at}

-- ~
abbrev pub tilde : ℕ
tilde = 0x7e

-- ---- which texts are pointers

-- A reference token, and the text that it stands for: ~1 stands for /, ~0 for ~, and every other byte for itself (sections 3 and 4).
pub data IsToken : List ℕ → List ℕ → Type 0 where
  empty : IsToken [] []
  plain : (b : ℕ) (token name : List ℕ) → b ≢ slash → b ≢ tilde → IsToken token name → IsToken (b ∷ token) (b ∷ name)
  tilde_zero : (token name : List ℕ) → IsToken token name → IsToken (tilde ∷ 0x30 ∷ token) (tilde ∷ name)
  tilde_one : (token name : List ℕ) → IsToken token name → IsToken (tilde ∷ 0x31 ∷ token) (slash ∷ name)

-- A pointer, and the texts that its tokens stand for: it is empty, or a slash, a token and a pointer (section 3).
pub data IsPointer : List ℕ → List (List ℕ) → Type 0 where
  whole : IsPointer [] []
  within : (token name pointer : List ℕ) (names : List (List ℕ)) → IsToken token name → IsPointer pointer names
      → IsPointer (slash ∷ token ++ pointer) (name ∷ names)

-- ---- what a pointer names

-- 0, or digits that do not begin with 0 (section 4)
abbrev pub is_index : List ℕ → Bool
is_index [] = false
is_index (b ∷ []) = is_digit b
is_index (b ∷ c ∷ bytes) = not (b == 0x30) && list_all is_digit (b ∷ c ∷ bytes)

-- the index that a text is
abbrev pub index : List ℕ → Option ℕ
index text = if is_index text then Some (digits_value 0 text) else None

-- what a name names directly within a value: a member of an object, or an item of a list (section 4)
abbrev pub child : List ℕ → Tree → Option Tree
child name (pairs members) = last_member name members
child name (list items) = option_and_then (λ i. item_at i items) (index name)
child name _ = None

-- what the names name, one after the other: without any, the whole value
abbrev pub named : List (List ℕ) → Tree → Option Tree
named [] t = Some t
named (name ∷ names) t = option_and_then (named names) (child name t)

-- The text is a pointer, and this is what it names in the value, however it is taken apart.
pub record PointsTo (text : List ℕ) (t : Tree) (found : Option Tree) : Type 0 where
  pub names : List (List ℕ)
  pub pointer : IsPointer text names
  pub named : (read : List (List ℕ)) → IsPointer text read → found ≡ named read t

-- ---- where a text is no pointer

-- The text is empty or begins with a slash.
abbrev pub begins_pointer : List ℕ → Bool
begins_pointer [] = true
begins_pointer (b ∷ bytes) = b == slash

-- 0 or 1 comes next
abbrev pub zero_or_one : List ℕ → Bool
zero_or_one [] = false
zero_or_one (b ∷ bytes) = (b == 0x30) || (b == 0x31)

-- where the first tilde stands with neither 0 nor 1 behind it
abbrev pub lone_tilde : List ℕ → Option ℕ
lone_tilde [] = None
lone_tilde (b ∷ bytes) = if (b == tilde) && not (zero_or_one bytes) then Some 0 else option_map (λ i. suc i) (lone_tilde bytes)

-- The text is no pointer.
abbrev pub IsNoPointer : List ℕ → Type 0
IsNoPointer text = (names : List (List ℕ)) → IsPointer text names → ⊥
