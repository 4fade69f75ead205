use Rattle.std.proofs.Common.{rules}
use Rattle.facet_json_token.proofs.cutting.cut_word.Goals as goal

pub returns-then-len-word : goal.returns-then-len-word
returns-then-len-word c = search rules
