use Rattle.std.proofs.Common.{subst, codes}
use Rattle.std.specs.Fmt.{DisplaysOnOk, debug_str}
use Rattle.facet_json_core.proofs.Names.{before_names, list_of_images}
use Rattle.facet_json_core.proofs.text.write_unknown_field.Goals as goal

pub returns : goal.returns
returns g c = subst (λ t. DisplaysOnOk g.W.Write.write_str_gives c.args.f.now c.write.result t c.write.new.self)
    (before_names (codes "unknown field `") c.args.field.now (codes "`, expected one of: ") _ _
    (list_of_images debug_str (λ t. t.now) c.args.expected.now))
    c.write.ensures.writes
