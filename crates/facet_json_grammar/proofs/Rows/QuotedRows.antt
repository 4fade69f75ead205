-- Single texts with how they are written, by computation.
-- In the texts of this file a backslash or a quote stands after a backslash of its own.
use Rattle.std.proofs.Common.{◌≡◌, [], ◌∷◌, ◌++◌, codes, refl}
use Rattle.std.specs.Char.{encode_utf8}
use Rattle.std.specs.Str.{encode_utf8_all}
use Rattle.facet_format.specs.Bytes.{quote, backslash, backspace, form_feed, line_feed, carriage_return, tab, delete}
use Rattle.facet_json_grammar.specs.Quoted.{escaped, quoted}

row_write_nothing : quoted ([]) ≡ codes "\"\""
unfolding escaped encode_utf8
row_write_nothing = refl

row_write_delete : quoted (delete ∷ []) ≡ codes "\"\\u007f\""
unfolding escaped encode_utf8
row_write_delete = refl

row_write_control : quoted (0x00 ∷ 0x1f ∷ []) ≡ codes "\"\\u0000\\u001f\""
unfolding escaped encode_utf8
row_write_control = refl

row_write_marks : quoted (quote ∷ backslash ∷ []) ≡ codes "\"\\\"\\\\\""
unfolding escaped encode_utf8
row_write_marks = refl

row_write_letters : quoted (line_feed ∷ carriage_return ∷ tab ∷ backspace ∷ form_feed ∷ []) ≡ codes "\"\\n\\r\\t\\b\\f\""
unfolding escaped encode_utf8
row_write_letters = refl

row_write_plain : quoted (codes " /Az~") ≡ codes "\" /Az~\""
unfolding escaped encode_utf8
row_write_plain = refl

row_write_chinese : quoted (encode_utf8_all (codes "中文")) ≡ quote ∷ encode_utf8_all (codes "中文") ++ quote ∷ []
unfolding escaped encode_utf8
row_write_chinese = refl
