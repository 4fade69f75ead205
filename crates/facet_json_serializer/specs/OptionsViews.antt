-- What the options of the code stand for in the definitions. The one file of the definitions that names types of the code.
use Rattle.facet_json_serializer.specs.declared.options.BytesFormat.{BytesFormat as RustFormat}
use Rattle.facet_json_serializer.specs.declared.options.BytesFormat.TheVariants as format
use Rattle.facet_json_serializer.specs.declared.options.SerializeOptions.{SerializeOptions}
use Rattle.facet_json_grammar.specs.Text.{BytesFormat, as_array, as_hex, Options}

abbrev pub bytes_format_of : RustFormat → BytesFormat
bytes_format_of format.Array = as_array
bytes_format_of (format.Hex o) = as_hex o.truncate_above o.head o.tail

abbrev pub options_of : SerializeOptions → Options
options_of o = record { pretty = o.pretty; indent = o.indent.now; bytes_format = bytes_format_of o.bytes_format }
