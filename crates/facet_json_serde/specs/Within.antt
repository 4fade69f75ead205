-- Where an error points.
use Rattle.std.specs.Prelude.{◌+◌, ◌≤◌, ℕ, Option, Some, None, ⊤}
use Rattle.facet_format.specs.declared.event.Span.{Span}
use Rattle.facet_json_serde.specs.declared.streams.StreamError.{StreamError}
use Rattle.facet_json_serde.specs.declared.streams.StreamError.TheVariants.{Json, Io}

-- The span, if there is one, lies within an input of this length.
abbrev pub LiesWithin : ℕ → Option Span → Type 0
LiesWithin len None = ⊤
LiesWithin len (Some span) = span.offset + span.len ≤ len

-- It is the reader's own error, or its span lies within an input of this length.
abbrev pub TellsWithin : ℕ → StreamError → Type 0
TellsWithin len (Json refused) = LiesWithin len refused.span
TellsWithin len (Io failed) = ⊤

-- The value was refused, and no stream failed.
abbrev pub IsNoFailure : StreamError → Type 0
IsNoFailure (Json refused) = ⊤
IsNoFailure (Io failed) = ⊥
