-- What the code counts of brackets, token by token.
use Rattle.std.specs.Prelude.{ℕ, zero, suc, List, Option, None, Some}
use Rattle.facet_format.specs.Span.{Span}
use Rattle.facet_json_token.specs.Gap.{Mode}
use Rattle.facet_json_token.specs.Tokens.{Tokens, ended, refused, next}
use Rattle.facet_json_token.specs.TokenList.{tokens}
use Rattle.facet_json.specs.Nesting.{Bracket, opens, closes, neither, bracket_of}
use Rattle.facet_json.specs.declared.nesting.Nesting.{Nesting}
use Rattle.facet_json.specs.declared.nesting.Passed.{Passed}
use Rattle.facet_json.specs.declared.nesting.Passed.TheVariants as passed

-- At an opening bracket: its span, where no more may be open.
abbrev pub opened : Span → (ℕ → Option Span) → ℕ → Option Span
opened span others zero = Some span
opened span others (suc room) = others room

-- After a token: what comes, where brackets are open; else the value is over.
abbrev pub inside : (ℕ → Option Span) → ℕ → Option Span
inside others zero = None
inside others (suc around) = others (suc around)

-- After a bracket that closes the last one.
abbrev pub closed : (ℕ → Option Span) → ℕ → Option Span
closed others zero = None
closed others (suc around) = inside others around

-- What is first beyond at a token, where so many brackets are open and so many more may be, by what is first beyond in the others.
abbrev pub beyond_at : Bracket → Span → (ℕ → ℕ → Option Span) → ℕ → ℕ → Option Span
beyond_at opens span others around room = opened span (others (suc around)) room
beyond_at closes span others around room = closed (λ o. others o (suc room)) around
beyond_at neither span others around room = inside (λ o. others o room) around

unfoldable pub tokens_beyond : Tokens → ℕ → ℕ → Option Span
tokens_beyond ended around room = None
tokens_beyond (refused f) around room = None
tokens_beyond (next t ts) around room = beyond_at (bracket_of t.kind) t.span (tokens_beyond ts) around room

-- what is first beyond in the input's first value
abbrev pub input_beyond : List ℕ → Mode → ℕ → Option Span
input_beyond input mode limit = tokens_beyond (tokens input mode) 0 limit

-- what is first beyond after a step of the code, by what is first beyond in the tokens that follow
abbrev pub beyond_after : Passed → Span → (ℕ → ℕ → Option Span) → Option Span
beyond_after (passed.Inside nesting) span others = others nesting.around nesting.room
beyond_after passed.Over span others = None
beyond_after passed.Beyond span others = Some span

-- This holds of the nesting, where the value goes on.
abbrev pub IfInside : Passed → (Nesting → Type 0) → Type 0
IfInside (passed.Inside nesting) P = P nesting
IfInside passed.Over P = Unit {0}
IfInside passed.Beyond P = Unit {0}
