use Rattle.facet_json_lint.proofs.Harmless.{encode_harmless, pushed_harmless, replacement_harmless}
use Rattle.facet_json_lint.proofs.shown.push_shown.Goals as goal

pub returns-in_default : goal.returns-in_default
returns-in_default c =
    let shown = c.is_shown.ensures c.if-is_shown.true in
    pushed_harmless c.push.result _ _ _ (encode_harmless c.args.character shown.0 shown.1) c.push.ensures.bytes

pub returns-in_default-2 : goal.returns-in_default-2
returns-in_default-2 c = pushed_harmless c.push-in_default-2.result _ _ _ replacement_harmless c.push-in_default-2.ensures.bytes
