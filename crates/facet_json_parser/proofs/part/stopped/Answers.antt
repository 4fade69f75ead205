use Rattle.facet_json_grammar.specs.Unread.{at_end}
use Rattle.facet_json_reader.specs.PlaceViews.{place_of}
use Rattle.facet_json_parser.proofs.part.stopped.Goals as goal

pub returns-in-Eof-clause-end : goal.returns-in-Eof-clause-end
returns-in-Eof-clause-end c = λ buffer e s. rw (c.why_at_end.ensures, s) (at_end (place_of c.args.place))
