use Rattle.facet_json_serializer.specs.Views.{writing_of}
use Rattle.facet_json_serializer.proofs.Settled.{settled-served, failed-served}
use Rattle.facet_json_serializer.proofs.serializer.JsonSerializer.make.Goals as goal

pub returns-then-self : goal.returns-then-self
returns-then-self c =
    let refused = failed-served _ (writing_of c.self.inside.writing) _ _ c.if-self.true c.self.view_is in record { serves = refused.0; appends = refused.1 }

pub returns : goal.returns
returns c =
    let done = settled-served _ (writing_of c.self.inside.writing) (writing_of c.make-answer.new.self) _ _ _ c.make-answer.result c.if-self.false c.self.view_is
    c.make-answer.ensures c.settle.ensures.now in
    rw c.settle.ensures.answer (record { serves = done.0; appends = done.1 })
