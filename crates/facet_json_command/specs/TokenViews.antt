-- What the lines of the code's tokens are, and the numbers of its refusals.
use Rattle.std.specs.Prelude.{ℕ, List, [], Option, Some, Ok}
use Rattle.facet_json_token.specs.declared.token.SpannedToken.{SpannedToken}
use Rattle.facet_json_token.specs.declared.token.ScanErrorKind.{ScanErrorKind}
use Rattle.facet_json_token.specs.declared.token.ScanErrorKind.TheVariants as scan
use Rattle.facet_json_scan.specs.Scanner.{ScanAnswer, cuts}
use Rattle.facet_json_scan.specs.ScannerViews.{answered}
use Rattle.facet_json_command.specs.TokenLines.{token_line}

-- the line of a token that is answered, and of nothing else
abbrev pub line_answered : Option ScanAnswer → List ℕ
line_answered (Some (cuts t)) = token_line t
line_answered _ = []

abbrev pub text_of_token : SpannedToken → List ℕ
text_of_token t = line_answered (answered (Ok t))

abbrev pub code_of_kind : ScanErrorKind → ℕ
code_of_kind (scan.UnexpectedChar c) = 1
code_of_kind (scan.UnexpectedEof text) = 2
code_of_kind scan.InvalidUtf8 = 4
