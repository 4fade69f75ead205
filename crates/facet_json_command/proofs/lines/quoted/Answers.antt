use Rattle.std.proofs.Common.{◌≡◌, ℕ, List, refl, ap, ◌∙◌}
use Rattle.std.proofs.lemmas.Result.{IfOk-weaker}
use Rattle.facet_json_grammar.specs.Tree as tree
use Rattle.facet_json_grammar.specs.Quoted.{quoted}
use Rattle.facet_json_grammar.specs.Text.{default_options, text}
use Rattle.facet_json_command.proofs.lines.quoted.Goals as goal
use Rattle.facet_json_tree.proofs.TreeViews.{tree_view-Text}
use Rattle.facet_format.proofs.HeldTexts.{held-bytes}

-- the text of a tree that is a text
text_quoted : (bytes : List ℕ) → text default_options 0 (tree.text bytes) ≡ quoted bytes
unfolding text
text_quoted bytes = refl

pub returns-in-Ok-clause-text : goal.returns-in-Ok-clause-text
returns-in-Ok-clause-text c =
    let same = ap (text default_options 0) (tree_view-Text c.in-Ok.text) ∙ text_quoted _
    ∙ ap quoted (c.in-Ok.ensures.ok ∙ held-bytes c.args.text) in
    IfOk-weaker c.text_of_tree.result _ _ (λ v is. is ∙ same) c.text_of_tree.ensures.text
