-- What was read in the words of any format, in those of JSON.
use Rattle.std.proofs.Common.{ℕ}
use Rattle.facet_json_grammar.specs.Now.{Now}
use Rattle.serde.specs.Steps.{format_of}
use Rattle.serde.specs.declared.deserializer.Deserializer.{Deserializer}
use Rattle.facet_json_serde.specs.declared.json.Json.{Json}
use Rattle.facet_json_serde.specs.Ahead.{JsonStands, StepGives, Stays}
use Rattle.facet_json_serde_tests.specs.declared.figures.Figure.{Figure}
use Rattle.facet_json_serde_tests.specs.declared.figures.Figure.TheVariants.{Percent, Range}
use Rattle.facet_json_serde_tests.specs.ByHand.{GivesFigure, GivesPair, PassesFigure, PassesPair}

-- each step goes on from where the one before left the parser
pair-passes : {E M : Type 0} (old new : Deserializer Json E M) (low high : ℕ) (now : Now) → JsonStands (format_of old) now →
    GivesPair StepGives Stays old low high new → PassesPair now low high
pair-passes old new low high now stands read =
    let begins = read.5.0 now stands in
    let first = read.7.0 begins.1 (read.6.0 begins.1 begins.2) in
    let second = read.9.0 first.1 (read.8.0 first.1 first.2) in
    let ends = read.10.0 second.1 second.2 in
    (begins.0, first.0, second.0, ends.0, begins.1, first.1, second.1, ends.1, begins.3, first.3, second.3, ends.3, begins.4, first.4, second.4)

pub figure-passes : {E M : Type 0} (old new : Deserializer Json E M) (f : Figure) (now : Now) → JsonStands (format_of old) now →
    GivesFigure StepGives Stays old f new → PassesFigure now f
figure-passes old new (Percent p) now stands read = let given = read.2.0 now (read.1.0 now stands) in (given.0, given.1, given.3, given.4)
figure-passes old new (Range r) now stands read = pair-passes read.0 new r.low r.high now (read.1.0 now stands) read.2
