-- What each call of a serializer appends, and what it leaves open, in any state (RFC 8259, sections 2 to 7).
use Rattle.std.specs.Prelude.{◌≡◌, ℕ, suc, Bool, true, false, List, [], ◌∷◌, ◌++◌, length, Option, Some, None, Result, Ok, Err}
use Rattle.facet_format.specs.Bytes.{left_bracket, right_bracket, left_brace, right_brace}
use Rattle.facet_format.specs.Event.{Scalar, bytes_of}
use Rattle.facet_format.specs.Event as event
use Rattle.facet_format.specs.SerializerCall.{SerializerCall, begin_struct, field_key, end_struct, begin_seq, end_seq, scalar, raw_scalar, byte_sequence, byte_array}
use Rattle.facet_json_grammar.specs.Quoted.{quoted}
use Rattle.facet_json_grammar.specs.Text.{Options, text, bytes_text, new_line, separator, line_at_end, colon_text}
use Rattle.facet_json_grammar.specs.Tree.{Tree}
use Rattle.facet_json_grammar.specs.Tree as tree

-- an open container: a struct or a list, and whether nothing stands in it yet: no key in a struct, no value in a list
pub data Opened : Type 0 where
  in_struct : (first : Bool) → Opened
  in_list : (first : Bool) → Opened

-- a serializer that has not run out of memory: the containers that are open, the innermost first, and the text so far
pub record Writing : Type 0 where
  pub options : Options
  pub stack : List Opened
  pub written : List ℕ

-- how a call doesn't fit the innermost open container
pub data Misfit : Type 0 where
  key_outside_struct : Misfit
  no_struct_to_end : Misfit
  no_list_to_end : Misfit

pub data WriteRefusal : Type 0 where
  misfits : Misfit → WriteRefusal
  out_of_memory : WriteRefusal

abbrev pub code : WriteRefusal → ℕ
code (misfits key_outside_struct) = 1
code (misfits no_struct_to_end) = 2
code (misfits no_list_to_end) = 3
code out_of_memory = 4

-- a scalar as the tree that it is
abbrev pub scalar_tree : Scalar → Tree
scalar_tree event.null = tree.null
scalar_tree event.unit = tree.unit
scalar_tree (event.bool b) = tree.bool b
scalar_tree (event.char c) = tree.char c
scalar_tree (event.i64 n) = tree.i64 n
scalar_tree (event.u64 n) = tree.u64 n
scalar_tree (event.i128 n) = tree.i128 n
scalar_tree (event.u128 n) = tree.u128 n
scalar_tree (event.decimal t) = tree.decimal (bytes_of t)
scalar_tree (event.text t) = tree.text (bytes_of t)
scalar_tree (event.bytes b) = tree.bytes b

abbrev pub scalar_text : Options → Scalar → List ℕ
scalar_text o value = text o 0 (scalar_tree value)

-- what stands before a value: in a list a comma, unless it is the first, and a new line; elsewhere nothing
abbrev pub before_value : Options → List Opened → List ℕ
before_value o [] = []
before_value o (in_struct first ∷ around) = []
before_value o (in_list first ∷ around) = separator first ++ new_line o (suc (length around))

-- the open containers once a value is written or begun: of an innermost list it was the first, or a later one
abbrev pub after_written : List Opened → List Opened
after_written [] = []
after_written (in_struct first ∷ around) = in_struct first ∷ around
after_written (in_list first ∷ around) = in_list false ∷ around

-- what a call appends, and the containers that are open after it, or why it is refused
pub record Addition : Type 0 where
  pub added : List ℕ
  pub stack : List Opened

-- a value that is written whole
abbrev pub value_added : Options → List Opened → List ℕ → Result Addition Misfit
value_added o stack bytes = Ok (record { added = before_value o stack ++ bytes; stack = after_written stack })

abbrev pub key_added : Options → List ℕ → List Opened → Result Addition Misfit
key_added o name [] = Err key_outside_struct
key_added o name (in_list first ∷ around) = Err key_outside_struct
key_added o name (in_struct first ∷ around) = Ok (record {
  added = separator first ++ new_line o (suc (length around)) ++ quoted name ++ colon_text o;
  stack = in_struct false ∷ around;
})

abbrev pub struct_ended : Options → List Opened → Result Addition Misfit
struct_ended o [] = Err no_struct_to_end
struct_ended o (in_list first ∷ around) = Err no_struct_to_end
struct_ended o (in_struct first ∷ around) = Ok (record { added = line_at_end o (length around) first ++ right_brace ∷ []; stack = around })

abbrev pub list_ended : Options → List Opened → Result Addition Misfit
list_ended o [] = Err no_list_to_end
list_ended o (in_struct first ∷ around) = Err no_list_to_end
list_ended o (in_list first ∷ around) = Ok (record { added = line_at_end o (length around) first ++ right_bracket ∷ []; stack = around })

-- a container that is begun, by its bracket
abbrev pub container_added : Options → List Opened → Opened → List ℕ → Result Addition Misfit
container_added o stack container bracket = Ok (record { added = before_value o stack ++ bracket; stack = container ∷ after_written stack })

abbrev pub addition : Options → List Opened → SerializerCall → Result Addition Misfit
addition o stack begin_struct = container_added o stack (in_struct true) (left_brace ∷ [])
addition o stack (field_key name) = key_added o name stack
addition o stack end_struct = struct_ended o stack
addition o stack begin_seq = container_added o stack (in_list true) (left_bracket ∷ [])
addition o stack end_seq = list_ended o stack
addition o stack (scalar value) = value_added o stack (scalar_text o value)
addition o stack (raw_scalar json) = value_added o stack json
addition o stack (byte_sequence bytes) = value_added o stack (bytes_text o.bytes_format bytes)
addition o stack (byte_array bytes) = value_added o stack (bytes_text o.bytes_format bytes)

-- with what a call appends
abbrev pub appended : Writing → Addition → Writing
appended w a = record { options = w.options; stack = a.stack; written = w.written ++ a.added }

-- What a call of a serializer answers and leaves. It is none once an allocation failed.
pub data Appends : Option Writing → SerializerCall → Result (Unit {0}) WriteRefusal → Option Writing → Type 0 where
  appends : (w : Writing) (call : SerializerCall) (a : Addition) → addition w.options w.stack call ≡ Ok a
      → Appends (Some w) call (Ok tt) (Some (appended w a))
  -- the call doesn't fit what is open, and nothing changes
  refuses : (w : Writing) (call : SerializerCall) (why : Misfit) → addition w.options w.stack call ≡ Err why
      → Appends (Some w) call (Err (misfits why)) (Some w)
  -- an allocation failed: from now on every call is
  runs_out : (w : Writing) (call : SerializerCall) (a : Addition) → addition w.options w.stack call ≡ Ok a
      → Appends (Some w) call (Err out_of_memory) None
  stays_out : (call : SerializerCall) → Appends None call (Err out_of_memory) None

-- it takes a call: what the call appends is there
abbrev pub Takes : Option Writing → SerializerCall → Option Writing → Type 0
Takes old call new = Appends old call (Ok tt) new

-- memory ran out
abbrev pub IsSpent : Option Writing → Type 0
IsSpent now = now ≡ None
