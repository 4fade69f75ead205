-- The white space that is written: new lines and indents.
use Rattle.std.proofs.Common.{ℕ, zero, suc, Bool, true, false, cond, List, [], ◌∷◌, ◌++◌, refl, ◌∙◌}
use Rattle.std.specs.List.{list_all}
use Rattle.std.proofs.lemmas.Bool.{and_from}
use Rattle.std.proofs.lemmas.List.Folds.{list_all-append}
use Rattle.facet_format.specs.Bytes.{is_space, line_feed}
use Rattle.facet_json_grammar.specs.Text.{Options, indents, new_line}
use Rattle.facet_json_grammar.specs.AsRead.{IsBlankIndent}
use Rattle.facet_json_grammar.specs.RfcText.{AreSpaces}

-- White space after white space is white space.
pub spaces-append : (a b : List ℕ) → AreSpaces a → AreSpaces b → AreSpaces (a ++ b)
spaces-append a b p q = list_all-append is_space a b ∙ and_from (list_all is_space a) (list_all is_space b) p q

-- So is white space that is written or not.
pub spaces-if : (b : Bool) (spaces : List ℕ) → AreSpaces spaces → AreSpaces (cond b spaces [])
spaces-if true spaces blank = blank
spaces-if false spaces blank = refl

-- So are indents of it.
indents-blank : (n : ℕ) (indent : List ℕ) → AreSpaces indent → AreSpaces (indents n indent)
indents-blank zero indent blank = refl
indents-blank (suc n) indent blank = spaces-append indent (indents n indent) blank (indents-blank n indent blank)

-- So is a new line.
pub new_line-blank : (o : Options) (depth : ℕ) → IsBlankIndent o → AreSpaces (new_line o depth)
new_line-blank o depth blank = spaces-if o.pretty (line_feed ∷ indents depth o.indent) (indents-blank depth o.indent blank)
