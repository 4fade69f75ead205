-- What the calls do to a text that is held by itself, without a mark whether memory ran out.
use Rattle.std.specs.Prelude.{◌≡◌, ℕ, Bool, List, ◌++◌, length, Option, None, Result, Ok, Err}
use Rattle.facet_format.specs.SerializerCall.{SerializerCall}
use Rattle.facet_json_grammar.specs.Text.{Options, line_at_end}
use Rattle.facet_json_serializer.specs.Inner.Open.{around_innermost}
use Rattle.facet_json_serializer.specs.Serializer.{Opened, Writing, Addition, Misfit, WriteRefusal, misfits, out_of_memory, addition, appended, before_value, after_written}

-- what an answer says of a text to which this is to be added; where memory runs out, what is left is not looked at again
abbrev pub Adds : Writing → Result Addition Misfit → Result (Unit {0}) WriteRefusal → Writing → Type 0
Adds w (Ok a) (Ok nothing) now = now ≡ appended w a
Adds w (Ok a) (Err why) now = why ≡ out_of_memory
Adds w (Err misfit) answer now = (answer ≡ Err (misfits misfit)) × (now ≡ w)

abbrev pub Writes : Writing → SerializerCall → Result (Unit {0}) WriteRefusal → Writing → Type 0
Writes w call answer now = Adds w (addition w.options w.stack call) answer now

-- the end of the innermost container, whose mark is given
abbrev pub innermost_ended : Options → List Opened → Bool → List ℕ → Addition
innermost_ended o stack first bracket =
    record { added = line_at_end o (length (around_innermost stack)) first ++ bracket; stack = around_innermost stack }

-- with what stands before a value
abbrev pub value_begun : Writing → Writing
value_begun w = record {
  options = w.options;
  stack = after_written w.stack;
  written = w.written ++ before_value w.options w.stack;
}

-- with more bytes
abbrev pub with_text : Writing → List ℕ → Writing
with_text w bytes = record { options = w.options; stack = w.stack; written = w.written ++ bytes }

-- what is left of a text after an answer: none where memory ran out
abbrev pub settled : Option Writing → Result (Unit {0}) WriteRefusal → Option Writing
settled now (Ok nothing) = now
settled now (Err (misfits why)) = now
settled now (Err out_of_memory) = None
