use Rattle.std.proofs.Common.{◌∷◌, ap₂, ◌∙◌, add-one, rules}
use Rattle.std.proofs.lemmas.List.{reverse-append}
use Rattle.facet_json_reader.proofs.PackedKinds.{kinds-longer_word, kinds-new_word, kinds-none}
use Rattle.facet_json_reader.proofs.reader.Contexts.push.Goals as goal
use Rattle.facet_json_reader.proofs.reader.Contexts.push.Goals.{then-self-ne0, else-self-ne0, then-self-ne0-2+in_ok-push, else-self-ne0-2}

pub returns : goal.returns
returns c =
    elim c.if-self-ne0.branch [
      | then-self-ne0 w ↦
          rw (w.self-inside-is, c.in-Some.ensures.1, add-one)
          (kinds-longer_word _ _ _ _ w.if-self-ne0.true w.bit_of.ensures.bit ∙ ap₂ ◌∷◌ w.bit_of.ensures.kind c.self.view_is)
      | else-self-ne0 w ↦ elim w.if-self-ne0-2.branch [
        | then-self-ne0-2+in_ok-push w' ↦
            rw (w.self-inside-is, w'.self-inside-is, w'.in_ok-push.ensures.items, reverse-append, c.in-Some.ensures.1, add-one)
            (kinds-new_word _ _ _ w.if-self-ne0.false ∙ ap₂ ◌∷◌ w.bit_of-self-inside.ensures.kind c.self.view_is)
        | else-self-ne0-2 w' ↦
            rw (w.self-inside-is, w'.self-inside-is, c.in-Some.ensures.1, add-one)
            (kinds-new_word _ _ _ w.if-self-ne0.false
            ∙ ap₂ ◌∷◌ w.bit_of-self-inside.ensures.kind (kinds-none _ _ _ w'.if-self-ne0-2.false ∙ c.self.view_is))
      ]
    ]

pub returns-in_default : goal.returns-in_default
returns-in_default c = search rules

pub returns-in_err-push : goal.returns-in_err-push
returns-in_err-push c = search rules
