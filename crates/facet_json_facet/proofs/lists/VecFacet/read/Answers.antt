use Rattle.facet_json_facet.proofs.lists.VecFacet.read.Goals as goal

pub returns-clause-read : goal.returns-clause-read
returns-clause-read g c = c.list_in.ensures.read

pub returns-clause-unread : goal.returns-clause-unread
returns-clause-unread g c = c.list_in.ensures.unread
