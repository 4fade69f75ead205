use Rattle.facet_json.proofs.made.push_member.Goals as goal

pub returns-clause-made : goal.returns-clause-made
returns-clause-made c = (c.in_ok-name.name, c.in_ok-name.ensures.ok, c.in_ok-push.ensures.items)
