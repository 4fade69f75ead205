-- What a token is to a place, as its first byte tells.
use Rattle.std.specs.Prelude.{false, Option, Some, None}
use Rattle.facet_json_token.specs.Token.{Kind}
use Rattle.facet_json_token.specs.Token as token
use Rattle.facet_json_reader.specs.declared.place.Sort.{Sort}
use Rattle.facet_json_reader.specs.declared.place.Sort.TheVariants as sorts

-- the sort of a token of this kind, and of the end of the input
abbrev pub sort_by : Option Kind → Sort
sort_by None = sorts.Other
sort_by (Some token.object_start) = sorts.ObjectStart
sort_by (Some token.object_end) = sorts.ObjectEnd
sort_by (Some token.array_start) = sorts.ArrayStart
sort_by (Some token.array_end) = sorts.ArrayEnd
sort_by (Some token.comma) = sorts.Comma
sort_by (Some token.colon) = sorts.Other
sort_by (Some (token.string start finish has_escapes)) = sorts.Text
sort_by (Some _) = sorts.Scalar

-- a kind of this sort, of which each place says what it says of all; none for a colon, with which a document goes on at no place
abbrev pub kind_by : Sort → Option Kind
kind_by sorts.ObjectStart = Some token.object_start
kind_by sorts.ObjectEnd = Some token.object_end
kind_by sorts.ArrayStart = Some token.array_start
kind_by sorts.ArrayEnd = Some token.array_end
kind_by sorts.Comma = Some token.comma
kind_by sorts.Text = Some (token.string 0 0 false)
kind_by sorts.Scalar = Some token.null
kind_by sorts.Other = None
