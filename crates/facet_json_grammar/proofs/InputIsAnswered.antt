-- The headline: an input has a document, whose walk a cursor goes along, or a longest prefix, after which it is refused.
use Rattle.std.proofs.Common.{ℕ, List}
use Rattle.facet_json_token.specs.Gap.{Mode}
use Rattle.facet_json_token.specs.TokenList.{tokens}
use Rattle.facet_json_grammar.proofs.Spelling.OneSpelling.{one_document}
use Rattle.facet_json_grammar.specs.EventLaws.{RootComes, document_comes, prefix_comes}
use Rattle.facet_json_grammar.specs.PrefixRefusal.{Refuses}
use Rattle.facet_json_grammar.proofs.LongestPrefix.{input-comes, longest-once}
use Rattle.facet_json_grammar.proofs.RefusedHasNone.{refused-comes, refused_has_none}
use Rattle.facet_json_grammar.proofs.RefusedOnce.{refused_in_one_way}
use Rattle.facet_json_grammar.proofs.SomeRefusal.{prefix-refuses}
use Rattle.facet_json_grammar.specs.Headline.{Answered, with_document, without_document, Headline}
use Rattle.facet_json_grammar.specs.ParserLaws.{AloneIsGiven}
use Rattle.facet_json_grammar.proofs.MoveIsStep.{document-run}
use Rattle.facet_json_grammar.proofs.AloneIsGiven.{prefix-alone}

answered-by : (buffer : List ℕ) (mode : Mode) → RootComes buffer mode → Answered buffer mode
answered-by buffer mode (document_comes node value d e) = with_document (record {
  node = node;
  value = value;
  document = d;
  only = λ other meant there. one_document buffer mode other node meant value there d;
  run = λ calls answers new moves. document-run buffer mode node value d moves;
})
answered-by buffer mode (prefix_comes events here rest prefix e) =
    let some = prefix-refuses buffer mode events here rest prefix e in
    let is : Refuses buffer mode some.0 = record { events = events; after = some.1 } in
    without_document (record {
      no_document = λ node value d. refused_has_none buffer mode some.0 node value is d;
      events = events;
      refusal = some.0;
      refused = some.1;
      only = λ others there left.
          longest-once buffer (tokens buffer mode) events others some.1.here there some.1.rest left
          some.1.prefix.begun (refused-comes some.1);
      refused_only = λ other may. refused_in_one_way buffer mode other some.0 may is;
      alone = λ calls answers new only moves. prefix-alone buffer mode some.1 only moves;
    })

-- Each input is answered as one with a document, or as one without.
pub input-answered : Headline
input-answered buffer mode = answered-by buffer mode (input-comes buffer mode)

-- Where there is no document, it is answered as one without.
pub alone_is_given : AloneIsGiven
alone_is_given buffer mode none = elim (input-answered buffer mode) [
  | with_document d ↦ absurd (none d.node d.value d.document)
  | without_document p ↦ p
]
