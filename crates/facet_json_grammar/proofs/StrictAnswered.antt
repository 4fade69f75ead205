-- What a new parser answers that reads RFC 8259 alone.
use Rattle.std.proofs.Common.{ℕ, List, refl, arith}
use Rattle.facet_format.specs.Cursor.{start}
use Rattle.facet_format.specs.Alike.{none_kept}
use Rattle.facet_format.specs.Span.{span_at}
use Rattle.facet_json_token.specs.Gap.{plain}
use Rattle.facet_json_grammar.specs.Language.{strict, strict_rules}
use Rattle.facet_json_grammar.specs.Node.{Node}
use Rattle.facet_json_grammar.specs.Tree.{Tree}
use Rattle.facet_json_grammar.specs.Future.{within}
use Rattle.facet_json_grammar.specs.Place.{root}
use Rattle.facet_json_grammar.specs.StrictDocument.{IsStrictDocument}
use Rattle.facet_json_grammar.specs.StrictTokens.{tokens_in}
use Rattle.facet_json_grammar.specs.Walk.{source_of}
use Rattle.facet_json_grammar.proofs.StuckOnce.{stuck-once}
use Rattle.facet_json_grammar.specs.StrictLaws.{StrictRootComes, document_comes, no_document_comes}
use Rattle.facet_json_grammar.proofs.SomeRefusal.{stuck-refuses}
use Rattle.facet_json_grammar.proofs.StrictRoot.{strict_document-comes, strict_input-comes}
use Rattle.facet_json_grammar.specs.Now.{fresh_in, StandsAt}
use Rattle.facet_json_grammar.specs.StrictHeadline.{StrictAnswered, as_document, as_none, StrictHeadline}
use Rattle.facet_json_grammar.proofs.AloneIsGiven.{answers-alone}
use Rattle.facet_json_grammar.proofs.MoveIsStep.{moves-run}

-- A new parser stands where the cursor starts.
pub strict-stands : (buffer : List ℕ) (node : Node) (value : Tree) → IsStrictDocument buffer node value →
    StandsAt (fresh_in buffer (strict plain)) (source_of buffer node) start
strict-stands buffer node value d = record {
  spot = record {
    place = record { bytes = refl; place_within = omega arith; comes = strict_document-comes buffer node value d; last = refl };
    peeked = refl;
  };
  refusal = refl;
  kept = none_kept;
  counter = refl;
}

answered-by : (buffer : List ℕ) → StrictRootComes buffer → StrictAnswered buffer
answered-by buffer (document_comes node value d e) = as_document (record {
  node = node;
  value = value;
  document = d;
  run = λ calls answers new moves. moves-run (fresh_in buffer (strict plain)) new (source_of buffer node) start (strict-stands buffer node value d) moves;
})
answered-by buffer (no_document_comes events here rest none e) =
    let some = stuck-refuses strict_rules buffer (tokens_in (strict plain) buffer 0) _ (within root) events here rest e in
    as_none (record {
      no_document = none;
      events = events;
      refusal = some.0;
      alone = λ calls answers new only moves.
          answers-alone buffer (strict plain) some.0 here rest (λ other stops. stuck-once buffer here rest other some.0 stops some.1)
          (span_at 0 0) events (record { free = refl; last_is = refl; comes = e }) only moves.run;
    })

pub strict-answered : StrictHeadline
strict-answered buffer = answered-by buffer (strict_input-comes buffer)
