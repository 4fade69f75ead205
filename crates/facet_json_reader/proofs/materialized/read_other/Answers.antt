use Rattle.std.proofs.Common.{sym, ◌∙◌}
use Rattle.facet_format.specs.Views.{hint_of}
use Rattle.facet_json_token.specs.Token.{number}
use Rattle.facet_json_reader.proofs.TokenMeanings.{number_read}
use Rattle.facet_json_reader.proofs.materialized.read_other.Goals as goal

pub returns-in-Some-clause-read : goal.returns-in-Some-clause-read
returns-in-Some-clause-read c =
    let n = c.in-Number in
    let e = c.in-Some.ensures in
    rw n.is (number_read c.args.buffer.now (number n.start n.end (hint_of n.hint)) _ _ (sym e.number) c.from.ensures.0 (c.from.ensures.1 ∙ e.borrowed))
