use Rattle.facet_format.proofs.NumberLaws as numbers
use Rattle.facet_format.proofs.laws.number_is_longest.Goals as goal

pub returns : goal.returns
returns c = numbers.number_is_longest
