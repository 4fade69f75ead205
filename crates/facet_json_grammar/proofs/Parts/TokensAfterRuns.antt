-- After a run stand the tokens from the end of its last token on.
use Rattle.std.proofs.Common.{◌≡◌, ℕ, List}
use Rattle.facet_format.specs.Span.{stop}
use Rattle.facet_json_token.specs.Gap.{Mode}
use Rattle.facet_json_token.specs.Token.{Token}
use Rattle.facet_json_token.specs.Tokens.{Tokens, next}
use Rattle.facet_json_token.specs.TokenList.{tokens_from}
use Rattle.facet_json_grammar.specs.Language.{Language, lenient}
use Rattle.facet_json_grammar.specs.StrictTokens.{tokens_in}
use Rattle.facet_json_grammar.proofs.TokensIn.{tokens_in-others}
use Rattle.facet_json_grammar.specs.Run.{Run, one_token, brackets, RunsInside, nothing, separator, a_run}

module _ (language : Language) (buffer : List ℕ) where
  mutual
    -- After a run stand the tokens from its last token's end on.
    pub tokens_in-run : (from : ℕ) (ts rest : Tokens) (last : Token) → Run ts last rest → tokens_in language buffer from ≡ ts →
        tokens_in language buffer (stop last.span) ≡ rest
    tokens_in-run from _ _ _ (one_token t rest e) at = tokens_in-others language buffer from t rest at
    tokens_in-run from _ _ _ (brackets kind first last inner rest e inside f) at =
        let (to, there) = tokens_in-runs (stop first.span) inner (next last rest) inside (tokens_in-others language buffer from first inner at) in
        tokens_in-others language buffer to last rest there

    -- After runs, commas and colons stand the tokens from some place on.
    tokens_in-runs : (from : ℕ) (ts rest : Tokens) → RunsInside ts rest → tokens_in language buffer from ≡ ts →
        (to : ℕ) × (tokens_in language buffer to ≡ rest)
    tokens_in-runs from _ _ (nothing rest) at = (from, at)
    tokens_in-runs from _ _ (separator t ts rest e more) at =
        tokens_in-runs (stop t.span) ts rest more (tokens_in-others language buffer from t ts at)
    tokens_in-runs from _ _ (a_run ts others rest last run more) at =
        tokens_in-runs (stop last.span) others rest more (tokens_in-run from ts others last run at)

-- The same of the tokens of a lenient language.
pub tokens_from-run : (buffer : List ℕ) (mode : Mode) (from : ℕ) (ts rest : Tokens) (last : Token) → Run ts last rest →
    tokens_from buffer mode from ≡ ts → tokens_from buffer mode (stop last.span) ≡ rest
tokens_from-run buffer mode from ts rest last run e = tokens_in-run (lenient mode) buffer from ts rest last run e
