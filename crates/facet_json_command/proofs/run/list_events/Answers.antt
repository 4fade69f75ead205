use Rattle.facet_json_command.proofs.run.list_events.Goals as goal

pub returns-clause-listed : goal.returns-clause-listed
returns-clause-listed g c = c.list_ahead.ensures.listed _ _ c.in_language-parser.ensures
