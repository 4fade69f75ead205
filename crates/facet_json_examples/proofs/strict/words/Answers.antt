use Rattle.facet_json_examples.proofs.strict.words.Goals as goal

-- the options that the call is given are those that were asked for
pub returns-clause-shallow : goal.returns-clause-shallow
returns-clause-shallow c =
    rw (c.depth-options.ensures, c.borrowed.ensures, c.strict.ensures) at c.from_slice_with_options.ensures.shallow
