-- The token that stands at an offset, and the tokens from before the gap that ends there.
use Rattle.std.proofs.Common.{◌≡◌, ℕ, ◌+◌, ◌≤◌, false, List, Some, length, drop, slice_get, sym, ap, ◌∙◌, subst, refl, arith, length-drop}
use Rattle.facet_format.specs.Number.{Hint}
use Rattle.facet_format.specs.NumberParts.{Parts, parts, parts_len, parts_hint, is_bare}
use Rattle.facet_format.specs.Span.{stop, span_at}
use Rattle.facet_json_token.specs.Cut.{cut, cut_here, past_gap, common_len, token_at, punctuation, letter, opens_number, start_of}
use Rattle.facet_json_token.specs.Gap.{Mode}
use Rattle.facet_json_token.specs.Token.{Kind}
use Rattle.facet_json_token.specs.Token as token
use Rattle.facet_json_token.specs.Tokens.{next}
use Rattle.facet_json_token.specs.TokenList.{tokens_from}
use Rattle.facet_json_token.proofs.CutBounds.{CutFits, TokenFits, here_fits}
use Rattle.facet_json_token.proofs.FirstBytes.{cut_here-by, cut_here-word, cut_here-number, cut_word-is}
use Rattle.facet_json_token.proofs.NumberCuts.{cut_number-parts}
use Rattle.facet_json_token.proofs.TokensSteps.{tokens_from-token}
use Rattle.facet_json_grammar.specs.Language.{Language, gaps}
use Rattle.facet_json_grammar.specs.StrictTokens.{tokens_in, Allows}
use Rattle.facet_json_grammar.proofs.TokensIn.{tokens_in-allowed}

-- One byte of punctuation is cut as its token.
pub mark-cut : (mode : Mode) (buffer : List ℕ) (at b : ℕ) (kind : Kind) → slice_get buffer at ≡ Some b → start_of b ≡ punctuation kind →
    cut_here mode at (drop at buffer) ≡ token_at kind at 1
mark-cut mode buffer at b kind here begins = sym (cut_here-by mode buffer at b (punctuation kind) here begins)

-- What is cut at the offset is cut after a gap, too.
past_gap-cut : (buffer : List ℕ) (mode : Mode) (from at : ℕ) → at ≡ past_gap buffer from mode →
    cut buffer from mode ≡ cut_here mode at (drop at buffer)
unfolding cut
past_gap-cut buffer mode from at e = ap (λ (p : ℕ). cut_here mode p (drop p buffer)) (sym e)

-- The tokens from before the gap are the token at the offset and those after it.
pub tokens-past_gap : (buffer : List ℕ) (mode : Mode) (from at len : ℕ) (kind : Kind) → from ≤ length buffer → at ≡ past_gap buffer from mode →
    cut_here mode at (drop at buffer) ≡ token_at kind at len →
    tokens_from buffer mode from ≡ next (record { kind = kind; span = span_at at len }) (tokens_from buffer mode (stop (span_at at len)))
tokens-past_gap buffer mode from at len kind fits gap is =
    tokens_from-token buffer from mode (record { kind = kind; span = span_at at len }) fits (past_gap-cut buffer mode from at gap ∙ is)

-- A literal is cut whose letters all stand there.
pub word-cut : (mode : Mode) (buffer : List ℕ) (at b : ℕ) (word : List ℕ) (kind : Kind) → slice_get buffer at ≡ Some b → start_of b ≡ letter word kind →
    common_len word (drop at buffer) ≡ length word → cut_here mode at (drop at buffer) ≡ token_at kind at (length word)
word-cut mode buffer at b word kind here begins all =
    sym (cut_here-word mode buffer at b word kind here begins) ∙ cut_word-is at (drop at buffer) word kind (common_len word (drop at buffer)) all

-- A token that stands there fits there.
pub there-fits : (mode : Mode) (buffer : List ℕ) (at len : ℕ) (kind : Kind) → at ≤ length buffer →
    cut_here mode at (drop at buffer) ≡ token_at kind at len → TokenFits buffer at (record { kind = kind; span = span_at at len })
there-fits mode buffer at len kind room is =
    let ends : at + length (drop at buffer) ≡ length buffer = omega (arith, length-drop at buffer) in
    subst (CutFits buffer at) is (here_fits mode buffer (drop at buffer) at refl ends)

-- The parts of a number tell its token.
pub number-cut : (mode : Mode) (buffer : List ℕ) (at b len : ℕ) (q : Parts) (hint : Hint) → slice_get buffer at ≡ Some b →
    start_of b ≡ opens_number → q ≡ parts (drop at buffer) → len ≡ parts_len q → hint ≡ parts_hint q → is_bare q ≡ false →
    cut_here mode at (drop at buffer) ≡ token_at (token.number at (at + len) hint) at len
number-cut mode buffer at b len q hint here begins same long what more =
    sym (cut_number-parts q (parts (drop at buffer)) (drop (at + 1) buffer) hint at len same long what more ∙ cut_here-number mode buffer at b here begins)

-- So they are of a language, where the token is allowed.
pub tokens_in-past_gap : (language : Language) (buffer : List ℕ) (from at len : ℕ) (kind : Kind) → from ≤ length buffer →
    at ≡ past_gap buffer from (gaps language) → cut_here (gaps language) at (drop at buffer) ≡ token_at kind at len →
    Allows language buffer (record { kind = kind; span = span_at at len }) →
    tokens_in language buffer from ≡ next (record { kind = kind; span = span_at at len }) (tokens_in language buffer (stop (span_at at len)))
tokens_in-past_gap language buffer from at len kind fits gap is allowed =
    tokens_in-allowed language buffer from (record { kind = kind; span = span_at at len }) fits (past_gap-cut buffer (gaps language) from at gap ∙ is) allowed
