-- The debug form of what is wrong where no token stands: its name in the code, with what it holds as the code would spell it.
use Rattle.std.specs.Prelude.{ℕ, List, Option, Some, codes}
use Rattle.std.specs.Fmt.{debug_variant, debug_char, debug_str}
use Rattle.facet_json_token.specs.declared.token.ScanErrorKind.{ScanErrorKind}
use Rattle.facet_json_token.specs.declared.token.ScanErrorKind.TheVariants as scan

-- such as `UnexpectedChar('x')` and `UnexpectedEof("in string")`; it says nothing of a character or a text past ASCII
abbrev pub debug_text : ScanErrorKind → Option (List ℕ)
debug_text (scan.UnexpectedChar c) = debug_variant (codes "UnexpectedChar") (debug_char c)
debug_text (scan.UnexpectedEof text) = debug_variant (codes "UnexpectedEof") (debug_str text.now)
debug_text scan.InvalidUtf8 = Some (codes "InvalidUtf8")
