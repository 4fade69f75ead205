-- The error is the fault's character.
use Rattle.facet_json_token.proofs.FaultErrors.{says-char}
use Rattle.facet_json_scan.proofs.refusing.check_number_strict.Goals as goal

pub returns-in-Err : goal.returns-in-Err
returns-in-Err c =
    (c.in-Err.ensures.0, says-char 0x3f _ c.from.result (rw (← c.in-Err.ensures.1) c.from.ensures))
