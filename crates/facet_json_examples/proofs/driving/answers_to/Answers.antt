use Rattle.std.proofs.Common.{◌≡◌, subst}
use Rattle.std.specs.Prelude.{ℕ, List}
use Rattle.std.proofs.lemmas.Result.{IfOk-weaker}
use Rattle.facet_json.specs.Cursor.{Call, Answer}
use Rattle.facet_json.specs.Gap.{Mode, plain}
use Rattle.facet_json.specs.Headline.{NewAnswers, Answered, with_document, without_document}
use Rattle.facet_json.specs.Move.{MovesAll}
use Rattle.facet_json.specs.Now.{Now, fresh}
use Rattle.facet_json_examples.specs.Driving.{AreAnswers, of_document, of_prefix}
use Rattle.facet_json_examples.proofs.driving.answers_to.Goals as goal

-- What the headline says of these calls.
these-answers : (buffer : List ℕ) (mode : Mode) (calls : List Call) (answers : List Answer) (new : Now) → Answered buffer mode →
    NewAnswers buffer mode calls answers new → AreAnswers buffer mode calls answers
these-answers buffer mode calls answers new (with_document d) moves =
    let run = d.run calls answers new moves in
    of_document (record { node = d.node; value = d.value; document = d.document; last = run.0; run = run.1 })
these-answers buffer mode calls answers new (without_document p) moves =
    of_prefix (record {
      no_document = p.no_document;
      events = p.events;
      refusal = p.refusal;
      refused = p.refused;
      alone = λ all. p.alone calls answers new all moves;
    })

-- The same of a parser that is a new one.
new-answers : (buffer : List ℕ) (mode : Mode) (old new : Now) (calls : List Call) (answers : List Answer) → old ≡ fresh buffer mode →
    Answered buffer mode → MovesAll old calls answers new → AreAnswers buffer mode calls answers
new-answers buffer mode old new calls answers is said moves =
    these-answers buffer mode calls answers new said (subst (λ (now : Now). MovesAll now calls answers new) is moves)

pub returns : goal.returns
returns c =
    IfOk-weaker c.drive.result _ _
    (λ answers moves. new-answers c.args.input.now plain c.new-parser.result c.drive.new.parser _ _ c.new-parser.ensures (c.headline.ensures c.args.input.now plain) moves)
    c.drive.ensures.moves
