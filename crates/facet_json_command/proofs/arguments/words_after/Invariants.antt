use Rattle.std.proofs.Common.{take}
use Rattle.facet_json_reader.specs.PlaceViews.{language_of}
use Rattle.facet_json_command.specs.Arguments.{AreWords}
use Rattle.facet_json_command.specs.OutcomeViews.{words_of, operands_of}
use Rattle.facet_json_command.proofs.arguments.words_after.Given as goal

abbrev pub invariant-loop-word : goal.invariant-loop-word
invariant-loop-word l = AreWords (language_of l.taken.language) l.taken.pretty (operands_of l.taken.operand) (words_of (take l.word-index l.words))
