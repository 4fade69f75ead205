use Rattle.std.proofs.Common.{rules}
use Rattle.facet_json_grammar.specs.Refusal.{at_end}
use Rattle.facet_json_reader.specs.PlaceViews.{place_of}
use Rattle.facet_json_reader.proofs.reader.stopped.Goals as goal

pub returns-in-Eof-clause-end : goal.returns-in-Eof-clause-end
returns-in-Eof-clause-end c = λ e s. rw (c.why_at_end.ensures, s) (at_end (place_of c.args.place))

pub returns-in_default : goal.returns-in_default
returns-in_default c = search rules

pub returns-in-Eof-clause-token : goal.returns-in-Eof-clause-token
returns-in-Eof-clause-token c = search rules
