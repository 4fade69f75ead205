use Rattle.std.proofs.Common.{◌⊎◌, inr, MatchResult, Result, Ok, Err}
use Rattle.std.proofs.lemmas.Option.{same_Some}
use Rattle.facet_json_parser.proofs.run.pass_token.Goals as goal

-- What is refused so is refused so or otherwise.
or_otherwise : {A B : Type 0} (r : Result A B) (done : A → Type 0) (refused otherwise : B → Type 0) → MatchResult r done refused →
    MatchResult r done (λ e. otherwise e ⊎ refused e)
or_otherwise (Ok v) done refused otherwise p = p
or_otherwise (Err e) done refused otherwise p = inr p

pub returns-in-ObjectEnd-clause-token : goal.returns-in-ObjectEnd-clause-token
returns-in-ObjectEnd-clause-token c =
    λ kind around k e.
    let same = same_Some _ _ (rw c.in-ObjectEnd.is at k) in
    rw (← same) (or_otherwise c.close_bracket.result _ _ _ (c.close_bracket.ensures around e))

pub returns-in-ArrayEnd-clause-token : goal.returns-in-ArrayEnd-clause-token
returns-in-ArrayEnd-clause-token c =
    λ kind around k e.
    let same = same_Some _ _ (rw c.in-ArrayEnd.is at k) in
    rw (← same) (or_otherwise c.close_bracket-in-ArrayEnd.result _ _ _ (c.close_bracket-in-ArrayEnd.ensures around e))
