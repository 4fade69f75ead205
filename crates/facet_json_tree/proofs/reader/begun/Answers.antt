use Rattle.std.proofs.Common.{ap, ◌∙◌}
use Rattle.std.proofs.lemmas.Result.{IfOk-weaker, IfErr-weaker}
use Rattle.facet_format.specs.Views.{event_kind_of}
use Rattle.facet_json_grammar.specs.Tree.{list, pairs}
use Rattle.facet_json_tree.specs.Views.{trees_view, pairs_view}
use Rattle.facet_json_tree.specs.Inner.Reading.{whole, a_list, an_object, a_scalar}
use Rattle.facet_json_tree.proofs.TreeViews.{tree_view-List, tree_view-Pairs}
use Rattle.facet_json_tree.proofs.reader.begun.Goals as goal

pub returns-in-Scalar-clause-begun : goal.returns-in-Scalar-clause-begun
returns-in-Scalar-clause-begun c =
    IfOk-weaker c.scalar.result _ _ (λ t h. whole _ (ap event_kind_of c.in-Scalar.is) h) c.scalar.ensures.read

pub returns-in-Scalar-clause-refused : goal.returns-in-Scalar-clause-refused
returns-in-Scalar-clause-refused c =
    IfErr-weaker c.scalar.result _ _ (λ e h. a_scalar _ (ap event_kind_of c.in-Scalar.is) h) c.scalar.ensures.refused

pub returns-in-SequenceStart-clause-begun : goal.returns-in-SequenceStart-clause-begun
returns-in-SequenceStart-clause-begun c =
    a_list _ (ap event_kind_of c.in-SequenceStart.is) (tree_view-List _ ∙ ap (λ ts. list (trees_view ts)) c.new.ensures.items)
    c.in_ok-admit-in-SequenceStart.ensures.admits

pub returns-in-StructStart-clause-begun : goal.returns-in-StructStart-clause-begun
returns-in-StructStart-clause-begun c =
    an_object _ (ap event_kind_of c.in-StructStart.is) (tree_view-Pairs _ ∙ ap (λ ps. pairs (pairs_view ps)) c.new-in-StructStart.ensures.items)
    c.in_ok-admit-in-StructStart.ensures.admits
