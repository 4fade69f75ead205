-- What the types of the code stand for in the definitions.
use Rattle.std.specs.Prelude.{ℕ, List, [], ◌∷◌, map, Option, Some, None, string_bytes}
use Rattle.std.specs.Borrow.{Bor}
use Rattle.std.specs.declared.string.String.{String}
use Rattle.std.specs.declared.alloc.Global.{Global}
use Rattle.facet_json_token.specs.Views.{mode_of}
use Rattle.facet_json_reader.specs.PlaceViews.{language_of}
use Rattle.facet_json_core.specs.ScriptViews.{call_of}
use Rattle.facet_json_command.specs.declared.arguments.Command.{Command as RustCommand}
use Rattle.facet_json_command.specs.declared.arguments.Command.TheVariants as commands
use Rattle.facet_json_command.specs.Arguments.{Command, fmt, events, tokens, drive}

abbrev pub words_of : List (String Global) → List (List ℕ)
words_of args = map string_bytes args

abbrev pub command_view : RustCommand → Command
command_view (commands.Fmt language pretty) = fmt (language_of language) pretty
command_view (commands.Events language) = events (language_of language)
command_view (commands.Tokens mode) = tokens (mode_of mode)
command_view (commands.Drive language calls) = drive (language_of language) (map call_of calls.items)

-- the words that are no option: one at most
abbrev pub operands_of : Option (Bor (List ℕ)) → List (List ℕ)
operands_of None = []
operands_of (Some word) = word.now ∷ []
