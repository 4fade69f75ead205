-- Whether bytes are a text in quotes (RFC 8259, section 7) that none of its characters escapes.
use Rattle.std.specs.Prelude.{ℕ, Bool, not, ◌&&◌, nat_le, List, length}
use Rattle.std.specs.Str.{is_utf8}
use Rattle.facet_json_token.specs.Cut.{has_backslash}
pub use Rattle.facet_json_reader.specs.Pieces.{quoted, IsQuotedText}

abbrev pub is_quoted_text : List ℕ → Bool
is_quoted_text bytes = nat_le 2 (length bytes) && (is_utf8 (quoted bytes) && not (has_backslash (quoted bytes)))
