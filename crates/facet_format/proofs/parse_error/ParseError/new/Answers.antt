use Rattle.std.proofs.Common.{refl}
use Rattle.facet_format.proofs.parse_error.ParseError.new.Goals as goal

pub returns-clause-refusal : goal.returns-clause-refusal
returns-clause-refusal c = refl

pub returns-clause-kind : goal.returns-clause-kind
returns-clause-kind c = refl

pub returns-clause-span : goal.returns-clause-span
returns-clause-span c = refl
