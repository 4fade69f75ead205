-- What a source is that is checked.
use Rattle.std.specs.Prelude.{ℕ, List}
use Rattle.facet_json.specs.Formatted.{HasOneDocument}
use Rattle.facet_json.specs.Language.{Language, lenient, strict}
use Rattle.facet_json.specs.StrictDocument.{IsStrict}

-- All of the source is one document, with nothing but a gap around it.
abbrev pub IsWholeSource : Language → List ℕ → Type 0
IsWholeSource (lenient mode) source = HasOneDocument source mode
IsWholeSource (strict mode) source = IsStrict source
