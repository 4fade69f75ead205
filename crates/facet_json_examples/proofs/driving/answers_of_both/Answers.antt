use Rattle.facet_json_examples.proofs.driving.answers_of_both.Goals as goal

pub returns : goal.returns
returns c =
    c.trusted_agrees-parsers.ensures.alike _ _ _ _ _ c.in_ok-of_trusted.ensures.moves c.in_ok-of_checking.ensures.moves
