-- What a run comes to from where passing it stands.
use Rattle.std.specs.Prelude.{◌≡◌, ℕ, List, [], ◌∷◌, ⊤, Result, MatchResult}
use Rattle.facet_format.specs.Event.{ContainerKind}
use Rattle.facet_format.specs.Span.{Span, stop}
use Rattle.facet_json_token.specs.Gap.{Mode}
use Rattle.facet_json_token.specs.Token.{Kind, Token}
use Rattle.facet_json_token.specs.Tokens.{Tokens, next}
use Rattle.facet_json_token.specs.TokenList.{tokens_from}
use Rattle.facet_json_grammar.specs.Run.{opening}
use Rattle.facet_json_grammar.specs.Inner.PassedRun.{Outcome, passed}
use Rattle.facet_json_reader.specs.PlaceViews.{refused_of}
use Rattle.facet_json_reader.specs.declared.refusal.Refused.{Refused}
use Rattle.facet_json_parser.specs.RunViews.{IsRunRefused}

module _ (buffer : List ℕ) (mode : Mode) where
  -- what follows where these brackets are open, and this was the last token
  abbrev pub run_goes_on : List ContainerKind → Token → Outcome
  run_goes_on stack last = passed buffer stack last (tokens_from buffer mode (stop last.span))

  -- the token that opens the run
  abbrev pub run_opening : ContainerKind → Span → Token
  run_opening kind s = record { kind = opening kind; span = s }

  -- the run's first token, and the others
  abbrev pub run_tokens : ContainerKind → Span → Tokens
  run_tokens kind first = next (run_opening kind first) (tokens_from buffer mode (stop first))

  -- the run's outcome
  abbrev pub whole : ContainerKind → Span → Outcome
  whole kind first = run_goes_on (kind ∷ []) (run_opening kind first)

  -- Where these brackets are open after a token that takes these bytes, the same outcome follows.
  pub record RunComesTo (stack : List ContainerKind) (s : Span) (o : Outcome) : Type 0 where
    pub kind : Kind
    pub same : run_goes_on stack (record { kind = kind; span = s }) ≡ o

  -- Of whichever run it is said before, it is said after: these brackets are open after this token.
  abbrev pub StaysOn : List ContainerKind → Span → List ContainerKind → Span → Type 0
  StaysOn stack s now t = (kind : ContainerKind) (first : Span) → RunComesTo stack s (whole kind first) → RunComesTo now t (whole kind first)

  -- The same of a call that passes tokens on, or the run is refused; `last` is what a refusal for memory names.
  abbrev pub PassesOn : {A : Type 0} → List ContainerKind → Span → Span → Result A Refused → List ContainerKind → (A → Span) → Type 0
  PassesOn stack s last result now token = (kind : ContainerKind) (first : Span) → RunComesTo stack s (whole kind first) →
      MatchResult result (λ a. RunComesTo now (token a) (whole kind first)) (λ r. IsRunRefused buffer last (run_tokens kind first) (refused_of r))

-- Some brackets are open.
abbrev pub AreOpen : List ContainerKind → Type 0
AreOpen [] = ⊥
AreOpen (kind ∷ around) = ⊤
