use Rattle.std.proofs.Common.{sym, ap, ◌∙◌, subst, rules, w64, SFits}
use Rattle.std.proofs.lemmas.Int.{to_z-of_z}
use Rattle.facet_format.specs.Event as event
use Rattle.facet_format.specs.SerializerCall.{scalar}
use Rattle.facet_json_grammar.specs.Text.{text}
use Rattle.facet_json_serializer.specs.Serializer.{Appends}
use Rattle.facet_json_serializer.specs.Views.{call_answer_of}
use Rattle.facet_json_tree.proofs.ScalarCalls.{scalar-called, raw-called}
use Rattle.facet_json_document.specs.Nodes.{leaf_view}
use Rattle.facet_json_document.proofs.document.value.writing.write_leaf.Goals as goal

pub returns-in-Null-clause-written : goal.returns-in-Null-clause-written
returns-in-Null-clause-written c = (scalar-called _ _ event.null _ _ (ap leaf_view c.in-Null.is) c.scalar.ensures.appends).written

pub returns-in-Bool-clause-written : goal.returns-in-Bool-clause-written
returns-in-Bool-clause-written c = (scalar-called _ _ (event.bool c.in-Bool.b) _ _ (ap leaf_view c.in-Bool.is) c.scalar-in-Bool.ensures.appends).written

pub returns-in-I64-clause-written : goal.returns-in-I64-clause-written
returns-in-I64-clause-written c =
    let fits : SFits w64 c.in-I64.n = search rules in
    let called = subst (λ n. Appends c.args.serializer.now (scalar (event.i64 n)) (call_answer_of c.scalar-in-I64.result) c.scalar-in-I64.new.self)
    (to_z-of_z w64 c.in-I64.n fits) c.scalar-in-I64.ensures.appends in
    (scalar-called _ _ (event.i64 c.in-I64.n) _ _ (ap leaf_view c.in-I64.is) called).written

pub returns-in-U64-clause-written : goal.returns-in-U64-clause-written
returns-in-U64-clause-written c = (scalar-called _ _ (event.u64 c.in-U64.n) _ _ (ap leaf_view c.in-U64.is) c.scalar-in-U64.ensures.appends).written

pub returns-in-Decimal-clause-written : goal.returns-in-Decimal-clause-written
unfolding text
returns-in-Decimal-clause-written c =
    let seen = ap leaf_view c.in-Decimal.is in
    (raw-called _ _ _ (leaf_view c.args.leaf) _ (λ o depth. c.as_str.ensures.text ∙ ap (text o depth) (sym seen)) c.raw_scalar.ensures.appends).written

pub returns-in-Text-clause-written : goal.returns-in-Text-clause-written
returns-in-Text-clause-written c =
    (scalar-called _ _ (event.text (event.borrowed c.in-Text.text.now)) _ _ (ap leaf_view c.in-Text.is) c.scalar-in-Text.ensures.appends).written

pub returns-in-Other-clause-written : goal.returns-in-Other-clause-written
returns-in-Other-clause-written c = rw (ap leaf_view c.in-Other.is) c.write_nothing.ensures.written
