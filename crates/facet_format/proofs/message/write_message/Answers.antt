use Rattle.facet_format.proofs.message.write_message.Goals as goal

pub returns-in-UnexpectedToken : goal.returns-in-UnexpectedToken
returns-in-UnexpectedToken g c = rw c.in-UnexpectedToken.is c.write_pair.ensures
