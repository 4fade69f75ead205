use Rattle.std.proofs.Common.{refl, ap}
use Rattle.facet_json_reader.specs.PlaceViews.{language_of}
use Rattle.facet_json_command.proofs.Operands.{strict_tokens_ask_nothing}
use Rattle.facet_json_command.proofs.arguments.scanning.Goals as goal

pub returns-in-Strict : goal.returns-in-Strict
returns-in-Strict c rest words = (refl, strict_tokens_ask_nothing rest _ words (ap language_of c.in-Strict.is))
