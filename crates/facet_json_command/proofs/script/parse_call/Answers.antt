use Rattle.facet_json_command.proofs.Calls.{call_or_none}
use Rattle.facet_json_command.proofs.script.parse_call.Goals as goal

pub returns-in_default : goal.returns-in_default
returns-in_default c =
    let w = c.in_default in
    call_or_none c.args.word.now c.parse_numbered.result w.not-next w.not-peek w.not-skip w.not-capture w.not-save w.not-span c.parse_numbered.ensures
