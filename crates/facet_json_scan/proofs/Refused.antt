-- Which answers of the code are tokens, and which refusals.
use Rattle.std.proofs.Common.{◌≡◌, List, [], ◌∷◌, ◌++◌, Option, Some, None, Ok, refl, ap}
use Rattle.facet_format.specs.Span.{Span}
use Rattle.facet_json_token.specs.declared.token.Token.{Token as RustToken}
use Rattle.facet_json_token.specs.declared.token.Token.TheVariants as code
use Rattle.facet_json_token.specs.declared.token.SpannedToken.{SpannedToken}
use Rattle.facet_json_token.specs.declared.token.ScanErrorKind.{ScanErrorKind}
use Rattle.facet_json_token.specs.declared.token.ScanErrorKind.TheVariants as scan
use Rattle.facet_json_token.specs.Token.{Kind, Fault}
use Rattle.facet_json_token.specs.Token as token
use Rattle.facet_json_token.specs.Tokens.{Tokens}
use Rattle.facet_json_token.specs.Views.{kind_of}
use Rattle.facet_json_scan.specs.Scanner.{ScanAnswer, refuses}
use Rattle.facet_json_scan.specs.ScannerViews.{cut_answer, token_answered, fault_answered, answered}
use Rattle.facet_json_scan.specs.Listed.{token_then, tokens_of_list}

-- A token of the code is no refusal.
pub token-no_refusal : (s : Span) (t : RustToken) (f : Fault) → token_answered s t ≡ Some (refuses f) → ⊥
token-no_refusal s code.Eof f e = cc
token-no_refusal s (code.NeedMore consumed) f e = cc
token-no_refusal s t f e = by (kind_of t) e
  where
    by : (k : Option Kind) → cut_answer s k ≡ Some (refuses f) → ⊥
    by None e = cc
    by (Some kind) e = cc

-- A refusal of the code is one.
pub fault-refuses : (s : Span) (k : ScanErrorKind) (a : ScanAnswer) → fault_answered s k ≡ Some a → (f : Fault) × (a ≡ refuses f)
fault-refuses s (scan.UnexpectedChar c) a e = (record { kind = token.unexpected_char c; span = s }, cc)
fault-refuses s (scan.UnexpectedEof text) a e = (record { kind = token.unexpected_eof text.now; span = s }, cc)
fault-refuses s scan.InvalidUtf8 a e = cc

-- One more token stands before what follows.
pub list_of-more : (tokens : List SpannedToken) (t : SpannedToken) (last : Option Tokens) →
    tokens_of_list (tokens ++ t ∷ []) last ≡ tokens_of_list tokens (token_then (answered (Ok t)) last)
list_of-more [] t last = refl
list_of-more (u ∷ tokens) t last = ap (token_then (answered (Ok u))) (list_of-more tokens t last)
