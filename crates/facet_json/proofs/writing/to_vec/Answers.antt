use Rattle.std.proofs.Common.{rules}
use Rattle.facet_json.proofs.writing.to_vec.Goals as goal

pub returns-clause-comes_back : goal.returns-clause-comes_back
returns-clause-comes_back g c = c.to_vec_with_options.ensures.comes_back c.new.ensures

pub returns-clause-text : goal.returns-clause-text
returns-clause-text c = search rules
