use Rattle.facet_json.proofs.writing.to_string.Goals as goal

pub returns-clause-comes_back : goal.returns-clause-comes_back
returns-clause-comes_back g c = c.to_string_with_options.ensures.comes_back c.new.ensures
