-- What the types of the code stand for in the definitions. The one file of the definitions that names types of the code.
use Rattle.std.specs.Prelude.{Bool, Result, Ok, Err}
use Rattle.facet_json_serializer.specs.declared.error.JsonSerializeError.{JsonSerializeError}
use Rattle.facet_json_serializer.specs.declared.error.JsonSerializeError.TheVariants as error
use Rattle.facet_json_serializer.specs.declared.writing.Call.{Call}
use Rattle.facet_json_serializer.specs.declared.writing.Call.TheVariants as call
use Rattle.facet_json_serializer.specs.declared.writing.Writing.{Writing as RustWriting}
use Rattle.facet_format.specs.SerializerCall.{SerializerCall, begin_struct, end_struct, begin_seq, end_seq, raw_scalar, byte_sequence}
use Rattle.facet_json_serializer.specs.OptionsViews.{options_of}
use Rattle.facet_json_serializer.specs.Serializer.{Writing, WriteRefusal, misfits, key_outside_struct, no_struct_to_end, no_list_to_end, out_of_memory}

abbrev pub write_refusal_of : JsonSerializeError → WriteRefusal
write_refusal_of error.KeyOutsideStruct = misfits key_outside_struct
write_refusal_of error.NoStructToEnd = misfits no_struct_to_end
write_refusal_of error.NoListToEnd = misfits no_list_to_end
write_refusal_of error.OutOfMemory = out_of_memory

abbrev pub call_of : Call → SerializerCall
call_of call.BeginStruct = begin_struct
call_of call.EndStruct = end_struct
call_of call.BeginSeq = begin_seq
call_of call.EndSeq = end_seq
call_of (call.RawScalar json) = raw_scalar json.now
call_of (call.Bytes bytes) = byte_sequence bytes.now

-- a serializer that has not run out of memory
abbrev pub writing_of : RustWriting → Writing
writing_of w = record { options = options_of w.options; stack = w.stack; written = w.out }

-- what a call answers
abbrev pub call_answer_of : Result (Unit {0}) JsonSerializeError → Result (Unit {0}) WriteRefusal
call_answer_of (Ok nothing) = Ok tt
call_answer_of (Err e) = Err (write_refusal_of e)

-- what a call on bytes answers, whether or not it says that they were written
abbrev pub bytes_answer_of : Result Bool JsonSerializeError → Result (Unit {0}) WriteRefusal
bytes_answer_of (Ok done) = Ok tt
bytes_answer_of (Err e) = Err (write_refusal_of e)
