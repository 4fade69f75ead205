-- What a caller asks of a serializer, and what an answer means, whatever the format.
use Rattle.std.specs.Prelude.{◌≡◌, ◌⊎◌, ℕ, Bool, List, [], ◌∷◌, Result, MatchBool, MatchResult, IsErr}
use Rattle.facet_format.specs.Event.{Scalar}

pub data SerializerCall : Type 0 where
  begin_struct : SerializerCall
  field_key : List ℕ → SerializerCall
  end_struct : SerializerCall
  begin_seq : SerializerCall
  end_seq : SerializerCall
  scalar : Scalar → SerializerCall
  raw_scalar : List ℕ → SerializerCall
  byte_sequence : List ℕ → SerializerCall
  byte_array : List ℕ → SerializerCall

-- Where a call succeeds the serializer has taken it. Where it is refused nothing changes, or memory is spent; from then on each call is refused.
abbrev pub IsServed : {S A E : Type 0} → (S → SerializerCall → S → Type 0) → (S → Type 0) → S → SerializerCall → Result A E → S → Type 0
IsServed takes spent old call result new =
    MatchResult result (λ _. takes old call new) (λ _. (new ≡ old) ⊎ spent new) × (spent old → IsErr result)

-- The same of a call that a format may leave to the caller: it then answers `false`, and nothing changes.
abbrev pub IsServedOrLeft : {S E : Type 0} → (S → SerializerCall → S → Type 0) → (S → Type 0) → S → SerializerCall → Result Bool E → S → Type 0
IsServedOrLeft takes spent old call result new =
    MatchResult result (λ written. MatchBool written (takes old call new) (new ≡ old)) (λ _. (new ≡ old) ⊎ spent new)
    × (spent old → IsErr result)

-- Calls are taken one after the other.
unfoldable pub TakesAll : {S : Type 0} → (S → SerializerCall → S → Type 0) → S → List SerializerCall → S → Type 0
TakesAll takes start [] end = end ≡ start
TakesAll {S} takes start (call ∷ others) end = (between : S) × takes start call between × TakesAll takes between others end
