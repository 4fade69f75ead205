use Rattle.std.proofs.Common.{subst, codes}
use Rattle.std.specs.Fmt.{DisplaysOnOk, debug_str}
use Rattle.facet_json_core.specs.ErrorKind.{suggestion_text}
use Rattle.facet_json_core.proofs.Names.{around_names, list_of_images}
use Rattle.facet_json_core.proofs.text.write_suggestion.Goals as goal

pub returns : goal.returns
returns g c = subst (λ t. DisplaysOnOk g.W.Write.write_str_gives c.args.f.now c.write.result t c.write.new.self)
    (around_names (codes "unknown field `") c.args.field.now (codes "`, expected one of: ") (suggestion_text c.args.name.now) _ _
    (list_of_images debug_str (λ t. t.now) c.args.expected.now))
    c.write.ensures.writes
