-- What the arguments after the program's name ask for.
use Rattle.std.specs.Prelude.{◌≡◌, ◌≢◌, ℕ, Bool, true, false, List, [], ◌∷◌, codes}
use Rattle.facet_format.specs.Cursor.{Call}
use Rattle.facet_json_token.specs.Gap.{Mode, plain, jsonc}
use Rattle.facet_json_grammar.specs.Language.{Language, lenient, strict}
use Rattle.facet_json_command.specs.Script.{IsScript}

-- what the program can be asked to do
pub data Command : Type 0 where
  -- to write the document anew, indented or not
  fmt : Language → (pretty : Bool) → Command
  -- to print the events of the document
  events : Language → Command
  -- to print its tokens
  tokens : Mode → Command
  -- to make calls of a parser, and print their answers
  drive : Language → List Call → Command

-- the option by which the input may have comments
abbrev pub comments : List ℕ
comments = codes "--jsonc"

-- the option by which the input has to be RFC 8259 alone
abbrev pub strictly : List ℕ
strictly = codes "--strict"

-- the option by which the text is indented
abbrev pub indented : List ℕ
indented = codes "--pretty"

-- The words after the command: these operands in order and, where the language and the layout say so, each option once, anywhere among
-- them. Comments and RFC 8259 alone are not asked for together.
pub data AreWords : Language → (pretty : Bool) → List (List ℕ) → List (List ℕ) → Type 0 where
  no_words : AreWords (lenient plain) false [] []
  operand : (language : Language) (pretty : Bool) (word : List ℕ) (operands words : List (List ℕ)) → word ≢ comments → word ≢ strictly →
      word ≢ indented → AreWords language pretty operands words → AreWords language pretty (word ∷ operands) (word ∷ words)
  with_comments : (pretty : Bool) (word : List ℕ) (operands words : List (List ℕ)) → word ≡ comments →
      AreWords (lenient plain) pretty operands words → AreWords (lenient jsonc) pretty operands (word ∷ words)
  with_strict : (pretty : Bool) (word : List ℕ) (operands words : List (List ℕ)) → word ≡ strictly →
      AreWords (lenient plain) pretty operands words → AreWords (strict plain) pretty operands (word ∷ words)
  with_indent : (language : Language) (word : List ℕ) (operands words : List (List ℕ)) → word ≡ indented →
      AreWords language false operands words → AreWords language true operands (word ∷ words)

-- The arguments are the name of the command, and then these words.
abbrev pub AreArguments : List (List ℕ) → List ℕ → Language → (pretty : Bool) → List (List ℕ) → Type 0
AreArguments args name language pretty operands =
    (words : List (List ℕ)) × (args ≡ name ∷ words) × AreWords language pretty operands words

-- The arguments ask for this.
abbrev pub AskFor : Command → List (List ℕ) → Type 0
AskFor (fmt language pretty) args = AreArguments args (codes "fmt") language pretty []
AskFor (events language) args = AreArguments args (codes "events") language false []
AskFor (tokens mode) args = AreArguments args (codes "tokens") (lenient mode) false []
AskFor (drive language calls) args =
    (script : List ℕ) × AreArguments args (codes "drive") language false (script ∷ []) × IsScript script calls

-- The program has no command for the arguments.
abbrev pub AskForNothing : List (List ℕ) → Type 0
AskForNothing args = (command : Command) → ¬ AskFor command args
