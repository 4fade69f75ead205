-- Which tokens a scan of a source stands for, with the end or the refusal after the last.
use Rattle.std.specs.Prelude.{ℕ, ◌≤◌, Bool, true, false, List, [], ◌∷◌, length, Option, Some, None, Result, Ok, Err, IfSome}
use Rattle.std.specs.List.{All}
use Rattle.std.specs.Option.{option_map}
use Rattle.facet_format.specs.Span.{stop}
use Rattle.facet_format.specs.Views.{span_of}
use Rattle.facet_json_token.specs.declared.token.SpannedToken.{SpannedToken}
use Rattle.facet_json_token.specs.declared.token.ScanError.{ScanError}
use Rattle.facet_json_token.specs.Gap.{Mode, plain, jsonc}
use Rattle.facet_json_token.specs.Tokens.{Tokens, ended, refused, next, AreCuts}
use Rattle.facet_json_scan.specs.Scanner.{ScanAnswer, cuts, refuses}
use Rattle.facet_json_scan.specs.ScannerViews.{answered, NamesWithin}
use Rattle.facet_json_scan.specs.declared.answer.Scanned.{Scanned}
use Rattle.facet_json_scan.specs.declared.answer.ScanReadError.{ScanReadError}
use Rattle.facet_json_scan.specs.declared.answer.ScanReadError.TheVariants.{Io, Memory}

-- the language that is read: with comments or without
abbrev pub mode_with : (comments : Bool) → Mode
mode_with true = jsonc
mode_with false = plain

-- ---- what is listed

-- the token that is answered, and these after it
abbrev pub token_then : Option ScanAnswer → Option Tokens → Option Tokens
token_then (Some (cuts t)) others = option_map (next t) others
token_then _ others = None

-- the tokens of the list, and these after them
abbrev pub tokens_of_list : List SpannedToken → Option Tokens → Option Tokens
tokens_of_list [] last = last
tokens_of_list (t ∷ tokens) last = token_then (answered (Ok t)) (tokens_of_list tokens last)

-- the refusal that is answered
abbrev pub refused_by : Option ScanAnswer → Option Tokens
refused_by (Some (refuses f)) = Some (refused f)
refused_by _ = None

-- what stands after the last token: the end, or the refusal
abbrev pub rest_after : Option ScanError → Option Tokens
rest_after None = Some ended
rest_after (Some e) = refused_by (answered (Err e))

-- the tokens of a scan, with the end or the refusal after the last
abbrev pub tokens_of : Scanned → Option Tokens
tokens_of s = tokens_of_list s.tokens.items (rest_after s.refusal)

-- ---- what is said of them

-- These are the tokens of the input, from its first byte to its end or its first fault.
abbrev pub AreAllOf : List ℕ → Mode → Option Tokens → Type 0
AreAllOf input mode None = ⊥
AreAllOf input mode (Some these) = AreCuts input mode 0 these

-- So are those of a scan.
abbrev pub AreTokensOf : List ℕ → Mode → Scanned → Type 0
AreTokensOf input mode s = AreAllOf input mode (tokens_of s)

-- A token and the indices that it names stand within the first `last` bytes.
abbrev pub StandsWithin : ℕ → SpannedToken → Type 0
StandsWithin last t = (stop (span_of t.span) ≤ last) × NamesWithin last t.token

-- So does a refusal.
abbrev pub ScanRefusalWithin : ℕ → Option ScanError → Type 0
ScanRefusalWithin last refusal = IfSome refusal (λ e. stop (span_of e.span) ≤ last)

-- All tokens of a scan and its refusal stand within its bytes.
abbrev pub StandWithin : Scanned → Type 0
StandWithin s = All (StandsWithin (length s.buf.items)) s.tokens.items × ScanRefusalWithin (length s.buf.items) s.refusal

-- whether it is told that a read failed
abbrev pub is_io : {T : Type 0} → Result T ScanReadError → Bool
is_io (Ok x) = false
is_io (Err Io) = true
is_io (Err Memory) = false
