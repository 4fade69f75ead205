use Rattle.std.proofs.Common.{rules}
use Rattle.std.proofs.lemmas.Option.{MatchOption-at_some, MatchOption-at_none}
use Rattle.facet_json_core.proofs.steps.objects.next_key.Goals as goal

pub returns-in_err-name-clause-passed : goal.returns-in_err-name-clause-passed
returns-in_err-name-clause-passed c = search rules

pub returns-in_err-name-clause-lacks : goal.returns-in_err-name-clause-lacks
returns-in_err-name-clause-lacks c = search rules

pub returns-in_err-name-clause-onward : goal.returns-in_err-name-clause-onward
returns-in_err-name-clause-onward c = search rules

pub returns-in_err-name-clause-shorter : goal.returns-in_err-name-clause-shorter
returns-in_err-name-clause-shorter c = search rules

pub returns-in_err-name-clause-within : goal.returns-in_err-name-clause-within
returns-in_err-name-clause-within c = search rules

pub returns-in_ok-into_owned-in-Some-clause-member : goal.returns-in_ok-into_owned-in-Some-clause-member
returns-in_ok-into_owned-in-Some-clause-member c = MatchOption-at_some _ _ _ c.in-Some.is c.in_ok-name.ensures.member

pub returns-in-None-clause-member : goal.returns-in-None-clause-member
returns-in-None-clause-member c = MatchOption-at_none _ _ c.in-None.is c.in_ok-name.ensures.member
