-- What is read by hand.
use Rattle.std.specs.Prelude.{◌≡◌, ℕ, List, None}
use Rattle.facet_format.specs.Event.{Event as ParserEvent}
use Rattle.facet_json_grammar.specs.Now.{Now}
use Rattle.facet_json_grammar.specs.Next.{PassesNext}
use Rattle.serde.specs.Event.{Event, unsigned, seq_begins, seq_ends}
use Rattle.serde.specs.Steps.{Gives, Stays, format_of}
use Rattle.serde.specs.declared.deserializer.Deserializer.{Deserializer}
use Rattle.facet_json_serde.specs.Ahead.{IsListBegin, IsUnsigned}
use Rattle.facet_json_serde_tests.specs.declared.figures.Figure.{Figure}
use Rattle.facet_json_serde_tests.specs.declared.figures.Figure.TheVariants.{Percent, Range}

-- A whole number's event came next, in a parser of JSON.
abbrev pub PassesNumber : Now → ℕ → Type 0
PassesNumber now n = (given : ParserEvent) × (after : Now) × PassesNext now given after × IsUnsigned given.kind n

-- A list of two whole numbers was read, in the words of any format.
abbrev pub GivesPair : {F E M : Type 0} → (F → List ℕ → Event → F → Type 0) → (F → F → Type 0) → Deserializer F E M → ℕ → ℕ → Deserializer F E M → Type 0
GivesPair {F} {E} {M} gives stays old low high new =
    (begun first between second last : Deserializer F E M) × Gives gives old (seq_begins None) begun × Stays stays begun first × Gives gives first (unsigned low) between
    × Stays stays between second × Gives gives second (unsigned high) last × Gives gives last seq_ends new

-- The events of such a list came next, in a parser of JSON.
abbrev pub PassesPair : Now → ℕ → ℕ → Type 0
PassesPair now low high =
    (begins first second ends : ParserEvent) × (begun between last after : Now) × PassesNext now begins begun × PassesNext begun first between
    × PassesNext between second last × PassesNext last ends after × IsListBegin begins.kind × IsUnsigned first.kind low × IsUnsigned second.kind high

-- Such a number or such a list was read after a look, in the words of any format.
abbrev pub GivesFigure : {F E M : Type 0} → (F → List ℕ → Event → F → Type 0) → (F → F → Type 0) → Deserializer F E M → Figure → Deserializer F E M → Type 0
GivesFigure {F} {E} {M} gives stays old (Percent p) new = (looked : Deserializer F E M) × Stays stays old looked × Gives gives looked (unsigned p.0) new
GivesFigure {F} {E} {M} gives stays old (Range r) new = (looked : Deserializer F E M) × Stays stays old looked × GivesPair gives stays looked r.low r.high new

-- The same from where a format stood.
abbrev pub ReadsFigure : {F : Type 0} → (E M : Type 0) → (F → List ℕ → Event → F → Type 0) → (F → F → Type 0) → F → Figure → Type 0
ReadsFigure {F} E M gives stays format f = (old new : Deserializer F E M) × (format_of old ≡ format) × GivesFigure gives stays old f new

-- Its events came next, in a parser of JSON.
abbrev pub PassesFigure : Now → Figure → Type 0
PassesFigure now (Percent p) = PassesNumber now p.0
PassesFigure now (Range r) = PassesPair now r.low r.high
