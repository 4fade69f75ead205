-- What a value leaves that is passed from a parser to a serializer.
use Rattle.std.specs.Prelude.{◌≡◌, ℕ, suc, ◌-◌, false, Option, Some, codes}
use Rattle.facet_format.specs.Complaint.{Refusal}
use Rattle.facet_format.specs.Event.{Passed, EventKind, struct_start, struct_end, sequence_start, sequence_end, field_key as key, scalar as value, bytes_of}
use Rattle.facet_json_token.specs.Tokens.{Tokens}
use Rattle.facet_json_grammar.specs.Tree.{Tree}
use Rattle.facet_json_grammar.specs.Place.{Place}
use Rattle.facet_json_grammar.specs.Future.{Future, gives}
use Rattle.facet_json_grammar.specs.Now.{Now, future_of}
use Rattle.facet_format.specs.SerializerCall.{SerializerCall, begin_struct, field_key, end_struct, begin_seq, end_seq, scalar}
use Rattle.facet_json_serializer.specs.Serializer.{Writing}
use Rattle.facet_json_serializer.specs.TreeCalls.{with_tree}
use Rattle.facet_json_core.specs.Refusing.{mismatch_of}
use Rattle.facet_json_core.specs.Told.{begins, Tells, Breaks}

-- the serializer's call for an event
abbrev pub serializer_call_of : EventKind → SerializerCall
serializer_call_of (struct_start kind) = begin_struct
serializer_call_of struct_end = end_struct
serializer_call_of (sequence_start kind) = begin_seq
serializer_call_of sequence_end = end_seq
serializer_call_of (key name) = field_key (bytes_of name)
serializer_call_of (value v) = scalar v

-- how many containers are open after an event, of so many before it
abbrev pub containers_after : EventKind → ℕ → ℕ
containers_after (struct_start kind) depth = suc depth
containers_after struct_end depth = depth - 1
containers_after (sequence_start kind) depth = suc depth
containers_after sequence_end depth = depth - 1
containers_after (key name) depth = depth
containers_after (value v) depth = depth

-- What is written is what the events tell, where they tell a value, and they don't break off within it.
pub record IsWritten (start : Future) (w : Writing) (left : Future) (after : Option Writing) : Type 0 where
  pub told : (v : Tree) (rest : Future) → Tells start v rest → (after ≡ Some (with_tree w v)) × (left ≡ rest)
  pub whole : (place : Place) (rest : Tokens) → Breaks place rest start → ⊥

-- No container is open, and the event that comes begins no value: it is refused so.
pub record BeginsNone (now : Now) (depth : ℕ) (refusal : Refusal) : Type 0 where
  pub given : Passed
  pub left : Future
  pub comes : future_of now ≡ gives given left
  pub outside : depth ≡ 0
  pub none : begins given.event.kind ≡ false
  pub told : refusal ≡ mismatch_of (codes "value") given.event
