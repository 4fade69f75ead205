-- What a caller looks for before a value, or within an object.
use Rattle.std.specs.Prelude.{ℕ}
use Rattle.facet_format.specs.Bytes.{right_bracket, lower_n}
use Rattle.facet_format.specs.Event.{EventKind, sequence_end, struct_end, field_key, borrowed, scalar, null}
use Rattle.facet_json_reader.specs.declared.wanted.Member.{Member}
use Rattle.facet_json_reader.specs.declared.wanted.Member.TheVariants as member
use Rattle.facet_json_reader.specs.declared.sought.Sought.{Sought}
use Rattle.facet_json_reader.specs.declared.sought.Sought.TheVariants as sought

-- its event
abbrev pub event_of_sought : Sought → EventKind
event_of_sought sought.ListEnd = sequence_end
event_of_sought sought.Null = scalar null

-- the byte that it begins with
abbrev pub byte_of_sought : Sought → ℕ
byte_of_sought sought.ListEnd = right_bracket
byte_of_sought sought.Null = lower_n

-- the event of a key, or of an object's end
abbrev pub event_of_member : Member → EventKind
event_of_member (member.Key name) = field_key (borrowed name.now)
event_of_member member.End = struct_end
