-- Where a reader stands in an input, and what comes there (RFC 8259, sections 2 to 5).
use Rattle.std.specs.Prelude.{ℕ, List, []}
use Rattle.facet_format.specs.Span.{Span, stop, span_at}
use Rattle.facet_format.specs.Event.{ContainerKind, Passed}
use Rattle.facet_json_grammar.specs.Language.{Language, rules}
use Rattle.facet_json_grammar.specs.Place.{root}
use Rattle.facet_json_grammar.specs.StrictTokens.{tokens_in}
use Rattle.facet_json_grammar.specs.Future.{Future, Stage, within, reads_by, stack_after, stage_after}

pub record Reader : Type 0 where
  -- the last token that an event passed: the tokens go on at its end
  pub last : Span
  -- the open containers, the innermost first
  pub stack : List ContainerKind
  pub stage : Stage

-- before the root
abbrev pub first_reader : Reader
first_reader = record { last = span_at 0 0; stack = []; stage = within root }

-- after an event
abbrev pub past : Passed → Reader → Reader
past p s = record { last = p.last; stack = stack_after p.event.kind s.stack; stage = stage_after p.event.kind s.stack }

-- what is given out from there on
abbrev pub future_at : List ℕ → Language → Reader → Future
future_at buffer language s = reads_by (rules language) buffer s.stack s.stage (tokens_in language buffer (stop s.last))
