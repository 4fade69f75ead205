use Rattle.facet_format.specs.Views.{span_of}
use Rattle.facet_json_grammar.specs.Unread.{misplaced}
use Rattle.facet_json_parser.proofs.part.misplaced.Goals as goal

pub returns : goal.returns
returns c =
    λ buffer kind place rest k e never.
    rw (c.name.ensures kind k, e) (misplaced place (record { kind = kind; span = span_of c.args.token.now.span }) rest never)
