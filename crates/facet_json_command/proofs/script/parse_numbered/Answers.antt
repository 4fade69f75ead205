use Rattle.facet_json_command.proofs.Calls.{restore_or_none}
use Rattle.facet_json_command.proofs.script.parse_numbered.Goals as goal

pub returns-in-None : goal.returns-in-None
returns-in-None c =
    restore_or_none c.args.word.now c.parse_restore.result (λ number is. c.in-None.ensures.cases is.0 is.1) c.parse_restore.ensures
