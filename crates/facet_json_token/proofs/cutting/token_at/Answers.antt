-- What is told of the token is cut.
use Rattle.facet_json_token.specs.Cut.{token_at}
use Rattle.facet_json_token.proofs.InSight.{cut_of-told}
use Rattle.facet_json_token.proofs.cutting.token_at.Goals as goal

pub returns : goal.returns
returns c = λ k is. cut_of-told c.spanned.result (token_at k c.args.at c.args.len) (c.spanned.ensures k is)
