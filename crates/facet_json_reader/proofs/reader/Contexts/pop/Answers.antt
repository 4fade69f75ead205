use Rattle.std.proofs.Common.{◌≡◌, suc, ◌-◌, ◌∷◌, reverse, ap, ◌∙◌, arith, rules}
use Rattle.facet_json_grammar.specs.Future.{around}
use Rattle.facet_json_reader.specs.Packed.{kinds_in}
use Rattle.facet_json_reader.proofs.PackedKinds.{kinds-shorter_word, kinds-popped_word}
use Rattle.facet_json_reader.proofs.reader.Contexts.pop.Goals as goal

pub returns-then-self-eq0-2 : goal.returns-then-self-eq0-2
returns-then-self-eq0-2 c =
    let s = c.self.inside in
    let one_more : suc (s.depth - 1) ≡ s.depth = omega arith in
    rw c.unwrap_or-self-inside.ensures
    (kinds-popped_word (s.depth - 1) s.word _ _ s.others.items _ c.pop.result c.if-self-eq0-2.true (omega arith) c.pop.ensures.cases c.pop.ensures.items
    ∙ ap (λ d. around (kinds_in d (s.word ∷ reverse s.others.items))) one_more
    ∙ ap around c.self.view_is)

pub returns-else-self-eq0-2 : goal.returns-else-self-eq0-2
returns-else-self-eq0-2 c =
    let s = c.self.inside in
    let one_more : suc (s.depth - 1) ≡ s.depth = omega arith in
    kinds-shorter_word (s.depth - 1) s.word (reverse s.others.items) c.if-self-eq0-2.false
    ∙ ap (λ d. around (kinds_in d (s.word ∷ reverse s.others.items))) one_more
    ∙ ap around c.self.view_is

pub returns-then-self-eq0 : goal.returns-then-self-eq0
returns-then-self-eq0 c = search rules
