-- Runs by computation: small inputs that begin with a bracket, and where the run of each ends, or how it breaks off.
use Rattle.std.proofs.Common.{◌≡◌, ℕ, List, [], ◌∷◌, refl, codes}
use Rattle.facet_format.specs.Complaint.{Complaint, unexpected_char, unexpected_eof, unexpected_token, refusal_at}
use Rattle.facet_format.specs.Event.{ContainerKind, object, array}
use Rattle.facet_format.specs.NumberValue.{number}
use Rattle.facet_format.specs.NumberParts.{parts}
use Rattle.facet_format.specs.Span.{span_at}
use Rattle.facet_json_token.specs.Gap.{plain}
use Rattle.facet_json_token.specs.GapLen.{gap_len_from}
use Rattle.facet_json_token.specs.Token.{Token}
use Rattle.facet_json_token.specs.Cut.{start_of, cut_here, cut}
use Rattle.facet_json_token.specs.Tokens.{Tokens, ended, next}
use Rattle.facet_json_token.specs.TokenList.{tokens_past, tokens}
use Rattle.facet_json_grammar.specs.Run.{opening, closing, Run, BreaksOff}
use Rattle.facet_json_grammar.specs.Inner.PassedRun.{Outcome, closes, stops, passed}
use Rattle.facet_json_grammar.proofs.Runs.PassedRuns.{IsOutcome, is-outcome}

-- a closing bracket
abbrev bracket : ContainerKind → ℕ → Token
bracket kind offset = record { kind = closing kind; span = span_at offset 1 }

-- The input's tokens are a run from the bracket at its start to the one at the offset.
abbrev IsRun : List ℕ → ContainerKind → ℕ → Type 0
IsRun input kind offset = Run (tokens input plain) (bracket kind offset) ended

abbrev Breaks : List ℕ → Complaint → ℕ → ℕ → Type 0
Breaks input complaint offset len = BreaksOff input (tokens input plain) (refusal_at complaint (span_at offset len))

-- What is computed is right.
by_passing : (input : List ℕ) (ts : Tokens) (kind : ContainerKind) (first : Token) (inner : Tokens) (o : Outcome) →
    ts ≡ next first inner → first.kind ≡ opening kind → passed input (kind ∷ []) first inner ≡ o → IsOutcome input ts o
by_passing input ts kind first inner o here e same = rw (here, ← same) (is-outcome input kind first inner e)

is_run : (input : List ℕ) (kind : ContainerKind) (offset : ℕ) (first : Token) (inner : Tokens) → tokens input plain ≡ next first inner →
    first.kind ≡ opening kind → passed input (kind ∷ []) first inner ≡ closes (bracket kind offset) ended → IsRun input kind offset
is_run input kind offset first inner here e same = by_passing input _ kind first inner _ here e same

breaks : (input : List ℕ) (complaint : Complaint) (offset len : ℕ) (kind : ContainerKind) (first : Token) (inner : Tokens) →
    tokens input plain ≡ next first inner → first.kind ≡ opening kind →
    passed input (kind ∷ []) first inner ≡ stops (refusal_at complaint (span_at offset len)) → Breaks input complaint offset len
breaks input complaint offset len kind first inner here e same = by_passing input _ kind first inner _ here e same

-- Separators in any order are no matter.
separators_row : IsRun (codes "[1,,:]") array 5
unfolding passed tokens_past cut cut_here start_of gap_len_from parts number
separators_row = is_run (codes "[1,,:]") array 5 _ _ refl refl refl

-- Nor is a missing one.
no_comma_row : IsRun (codes "{\"a\":[1 2]}") object 10
unfolding passed tokens_past cut cut_here start_of gap_len_from parts number
no_comma_row = is_run (codes "{\"a\":[1 2]}") object 10 _ _ refl refl refl

-- No string is decoded.
lone_surrogate_row : IsRun (codes "[\"\\ud800\"]") array 9
unfolding passed tokens_past cut cut_here start_of gap_len_from parts number
lone_surrogate_row = is_run (codes "[\"\\ud800\"]") array 9 _ _ refl refl refl

-- Brackets close in order.
crossed_row : Breaks (codes "[{]") (unexpected_token (codes "']'") (codes "'}'")) 2 1
unfolding passed tokens_past cut cut_here start_of gap_len_from parts number
crossed_row = breaks (codes "[{]") _ _ _ array _ _ refl refl refl

-- What follows a crossed bracket is not looked at.
crossed_and_closed_row : Breaks (codes "[{]}") (unexpected_token (codes "']'") (codes "'}'")) 2 1
unfolding passed tokens_past cut cut_here start_of gap_len_from parts number
crossed_and_closed_row = breaks (codes "[{]}") _ _ _ array _ _ refl refl refl

-- The other way round.
crossed_in_list_row : Breaks (codes "[1}") (unexpected_token (codes "'}'") (codes "']'")) 2 1
unfolding passed tokens_past cut cut_here start_of gap_len_from parts number
crossed_in_list_row = breaks (codes "[1}") _ _ _ array _ _ refl refl refl

-- The input ends inside.
unclosed_row : Breaks (codes "[1") (unexpected_eof (codes "value")) 2 0
unfolding passed tokens_past cut cut_here start_of gap_len_from parts number
unclosed_row = breaks (codes "[1") _ _ _ array _ _ refl refl refl

-- A fault stands inside.
fault_row : Breaks (codes "[{x}]") (unexpected_char 0x78 (codes "valid JSON token")) 2 1
unfolding passed tokens_past cut cut_here start_of gap_len_from parts number
fault_row = breaks (codes "[{x}]") _ _ _ array _ _ refl refl refl
