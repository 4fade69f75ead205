use Rattle.std.proofs.Common.{OnOk, subst}
use Rattle.facet_json_serde.specs.OneValue.{WritesTree}
use Rattle.facet_json_serde.proofs.streams.to_writer.Goals as goal

pub returns-clause-written : goal.returns-clause-written
returns-clause-written g c =
    subst (λ o. OnOk c.to_writer_with_options.result (WritesTree o (g.W.Write.contents c.args.writer.now) (g.W.Write.contents c.to_writer_with_options.new.writer)))
    c.new.ensures c.to_writer_with_options.ensures.written
