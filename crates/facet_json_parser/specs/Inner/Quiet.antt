-- Tokens that open and close nothing.
use Rattle.std.specs.Prelude.{◌≡◌, ◌≤◌, ℕ, List, ◌∷◌, length}
use Rattle.facet_format.specs.Event.{ContainerKind}
use Rattle.facet_json_token.specs.Gap.{Mode}
use Rattle.facet_json_token.specs.Cut.{past_gap}
use Rattle.facet_json_token.specs.Token.{Token}
use Rattle.facet_json_token.specs.TokenList.{tokens_from}
use Rattle.facet_json_grammar.specs.Inner.PassedRun.{passed}

-- Where brackets are open, a run goes on from the one offset as from the other: the tokens between open and close nothing.
pub record RunLeadsOn (buffer : List ℕ) (mode : Mode) (from to : ℕ) : Type 0 where
  pub past : from ≤ to
  pub ends : to ≤ length buffer
  pub same : (kind : ContainerKind) (around : List ContainerKind) (last : Token) →
      passed buffer (kind ∷ around) last (tokens_from buffer mode from) ≡ passed buffer (kind ∷ around) last (tokens_from buffer mode to)

-- A gap from somewhere on ends at this offset.
pub record EndsGap (buffer : List ℕ) (mode : Mode) (at : ℕ) : Type 0 where
  pub from : ℕ
  pub fits : from ≤ length buffer
  pub gap : at ≡ past_gap buffer from mode
