-- The letters of a literal are its token.
use Rattle.std.proofs.Common.{refl, sym, ◌∙◌}
use Rattle.facet_json_grammar.proofs.TokensIn.{allowed-plain}
use Rattle.facet_json_reader.proofs.QuickEvents.{word-there, word-plain}
use Rattle.facet_json_reader.proofs.single.word_at.Goals as goal

pub returns-then-common_len-len-clause-word : goal.returns-then-common_len-len-clause-word
returns-then-common_len-len-clause-word c =
    λ language first value is here.
    let buffer = c.args.input.now in
    let all = sym c.common_len.ensures.len ∙ c.if-common_len-len.true in (
      record {
        value = value;
        there = word-there buffer c.args.at first c.args.word.now value is here all;
        allowed = allowed-plain language buffer _ (word-plain buffer c.args.at first c.args.word.now value is here all);
      },
      refl,
    )
