use Rattle.std.proofs.Common.{rules}
use Rattle.facet_json_core.proofs.Meaning.Nodes.NodesWithin.{bytes-read_alike}
use Rattle.facet_json_facet.proofs.laws.same_bytes_read_alike.Goals as goal

pub returns-clause-reading : goal.returns-clause-reading
returns-clause-reading g c =
    let claim : g.claim c.lifetimes = search rules in
    bytes-read_alike g.T.Facet.shape.reading (g.met.T.Facet c.lifetimes claim).laws.same_reading

pub returns-clause-reading_borrowed : goal.returns-clause-reading_borrowed
returns-clause-reading_borrowed g c =
    let claim : g.claim c.lifetimes = search rules in
    bytes-read_alike g.T.Facet.shape.reading_borrowed (g.met.T.Facet c.lifetimes claim).laws.same_reading_borrowed
