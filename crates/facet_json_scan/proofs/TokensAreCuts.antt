-- The tokens from a position on are what is cut from there on, each where the one before ends.
use Rattle.std.proofs.Common.{◌≡◌, ℕ, List, refl, sym, ap, ◌∙◌}
use Rattle.facet_json_token.specs.Gap.{Mode}
use Rattle.facet_format.specs.Span.{stop}
use Rattle.facet_json_token.specs.Cut.{Cut, nothing_left, token, fault, cut}
use Rattle.facet_json_token.specs.Tokens.{Tokens, ended, refused, next, AreCuts}
use Rattle.facet_json_token.specs.TokenList.{tokens_from}
use Rattle.facet_json_token.specs.Laws.{TokensAreCuts}
use Rattle.facet_json_token.proofs.TokensSteps.{tokens_from-fault, tokens_from-nothing, by_first, tokens_by_first}

-- What is cut from a position on are the tokens.
cuts_are_tokens : (buffer : List ℕ) (mode : Mode) (position : ℕ) (these : Tokens) → AreCuts buffer mode position these →
    tokens_from buffer mode position ≡ these
cuts_are_tokens buffer mode _ _ (AreCuts.ends position e) = tokens_from-nothing buffer position mode e
cuts_are_tokens buffer mode _ _ (AreCuts.breaks_off position f e) = tokens_from-fault buffer position mode f e
cuts_are_tokens buffer mode _ _ (AreCuts.goes_on position t others e h) =
    tokens_by_first buffer mode position (token t) e ∙ ap (next t) (cuts_are_tokens buffer mode (stop t.span) others h)

-- The tokens are what is cut, by what is cut first.
are_cuts : (buffer : List ℕ) (mode : Mode) (these : Tokens) (position : ℕ) (c : Cut) → cut buffer position mode ≡ c →
    by_first buffer mode c ≡ these → AreCuts buffer mode position these
are_cuts buffer mode ended position nothing_left is e = AreCuts.ends position is
are_cuts buffer mode (refused f) position (fault g) is e =
    let same : g ≡ f = cc in AreCuts.breaks_off position f (is ∙ ap fault same)
are_cuts buffer mode (next t others) position (token u) is e =
    let same : u ≡ t = cc in
    let rest : tokens_from buffer mode (stop u.span) ≡ others = cc in
    let here : tokens_from buffer mode (stop t.span) ≡ others =
    ap (λ v. tokens_from buffer mode (stop v.span)) (sym same) ∙ rest in
    AreCuts.goes_on position t others (is ∙ ap token same)
    (are_cuts buffer mode others (stop t.span) (cut buffer (stop t.span) mode) refl
    (sym (tokens_by_first buffer mode (stop t.span) (cut buffer (stop t.span) mode) refl) ∙ here))
are_cuts buffer mode these position c is e = cc

-- The tokens from a position on are what is cut from there on, and nothing else is.
pub tokens_are_cuts : TokensAreCuts
tokens_are_cuts buffer mode position these = (
  cuts_are_tokens buffer mode position these,
  λ e. are_cuts buffer mode these position (cut buffer position mode) refl
      (sym (tokens_by_first buffer mode position (cut buffer position mode) refl) ∙ e),
)
