-- The table is held against the values at each of the 256 bytes, by computing.
use Rattle.std.proofs.Common.{◌∙◌, refl, arith}
use Rattle.facet_json_token.specs.declared.decode.escape.TheConstants.{HEX_VALUES}
use Rattle.facet_json_token.proofs.HexDigits.{from_table, hex_or_past-digit, hex_or_past-other}
use Rattle.facet_json_token.proofs.decode.escape.hex_value.Goals as goal

pub returns-clause-digit : goal.returns-clause-digit
returns-clause-digit c = λ is. from_table HEX_VALUES c.args.byte (omega arith) refl ∙ hex_or_past-digit c.args.byte is

pub returns-clause-other : goal.returns-clause-other
returns-clause-other c = λ is. from_table HEX_VALUES c.args.byte (omega arith) refl ∙ hex_or_past-other c.args.byte is
