-- How wide a text is on a terminal (Unicode Standard Annex 11).
use Rattle.std.specs.Prelude.{ℕ, List, false, chars}
use Rattle.unicode_width.specs.Width.{str_width}

abbrev pub columns : List ℕ → ℕ
columns text = str_width false (chars text)
