-- What a language of the code stands for.
use Rattle.std.specs.Prelude.{ℕ}
use Rattle.facet_json_token.specs.Gap.{plain, jsonc}
use Rattle.facet_json_grammar.specs.Language.{Language, lenient, strict}
use Rattle.facet_json_reader.specs.declared.place.Language.{Language as RustLanguage}
use Rattle.facet_json_reader.specs.declared.place.Language.TheVariants as languages

abbrev pub language_of : RustLanguage → Language
language_of languages.Plain = lenient plain
language_of languages.Jsonc = lenient jsonc
language_of languages.Strict = strict plain

-- the least byte that may stand in a text unescaped
abbrev pub least_of : Language → ℕ
least_of (lenient mode) = 0
least_of (strict mode) = 0x20
