-- The literal gives its event.
use Rattle.std.proofs.Common.{sym, ◌∙◌}
use Rattle.facet_json_grammar.proofs.TokensIn.{allowed-plain}
use Rattle.facet_json_reader.proofs.QuickEvents.{word-there, word-plain}
use Rattle.facet_json_reader.proofs.reader.Reader.pass_word.Goals as goal

pub returns-then-common_len-len-clause-passes : goal.returns-then-common_len-len-clause-passes
returns-then-common_len-len-clause-passes c =
    λ language place first value is here may reached.
    let all = sym c.common_len.ensures.len ∙ c.if-common_len-len.true in
    let there = word-there c.args.input.now c.args.at first c.args.word.now value is here all in
    let plain = word-plain c.args.input.now c.args.at first c.args.word.now value is here all in
    c.pass_scalar.ensures c.args.input.now language place value there (allowed-plain language c.args.input.now _ plain) may reached
