use Rattle.std.proofs.Common.{rules, subst, sym}
use Rattle.std.proofs.lemmas.Result.{IfOk-weaker}
use Rattle.facet_json_serde.specs.Ahead.{JsonStands}
use Rattle.facet_json_serde_tests.proofs.FigureRead.{figure-passes}
use Rattle.facet_json_serde_tests.proofs.by_hand.read_figure.Goals as goal

pub returns : goal.returns
returns c =
    let stands : JsonStands c.new-json.result c.args.parser = search rules in
    IfOk-weaker c.read_by.result _ _ (λ f read. figure-passes read.0 read.1 f c.args.parser (subst (λ json. JsonStands json c.args.parser) (sym read.2) stands) read.3) c.read_by.ensures
