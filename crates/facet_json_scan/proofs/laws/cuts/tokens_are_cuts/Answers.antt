use Rattle.facet_json_scan.proofs.TokensAreCuts as tokens
use Rattle.facet_json_scan.proofs.laws.cuts.tokens_are_cuts.Goals as goal

pub returns : goal.returns
returns c = tokens.tokens_are_cuts
