-- What a typed read answers by its options.
use Rattle.std.specs.Prelude.{ℕ, Bool, cond, List, Result}
use Rattle.facet_format.specs.Span.{Span}
use Rattle.facet_format.specs.declared.error.DeserializeError.{DeserializeError}
use Rattle.facet_json_token.specs.TokenList.{tokens}
use Rattle.facet_json_grammar.specs.Language.{Language, lenient, strict, gaps}
use Rattle.facet_json_reader.specs.LanguageViews.{language_of}
use Rattle.facet_json_core.specs.Meaning.Shapes.{Reading}
use Rattle.facet_json_facet.specs.Inputs.{FirstValue, StrictValue}
use Rattle.facet_json.specs.declared.options.ReadOptions.{ReadOptions}
use Rattle.facet_json.specs.Nesting.{IsBeyond}

-- At this span is the first bracket of the input's value that stands deeper than the options allow.
abbrev pub IsTooDeep : ReadOptions → List ℕ → Span → Type 0
IsTooDeep options input span = IsBeyond options.depth (tokens input (gaps (language_of options.language))) span

-- What a call answers that reads a value in a language: with the first of two readings where it borrows, else with the other.
abbrev pub ReadIn : {V A : Type 0} → Language → Bool → Reading V → Reading V → Bool → (A → V) → List ℕ → Result A DeserializeError → Type 0
ReadIn (lenient mode) borrows lent owned whole view input result = FirstValue (cond borrows lent owned) whole view input mode result
ReadIn (strict mode) borrows lent owned whole view input result = StrictValue (cond borrows lent owned) whole view input result
