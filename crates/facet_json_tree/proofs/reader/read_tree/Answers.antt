use Rattle.std.proofs.Common.{Result, Ok, Err}
use Rattle.std.specs.Prelude.{IfOk, IfErr}
use Rattle.std.proofs.lemmas.Result.{IfOk-weaker, IfErr-weaker}
use Rattle.facet_json_core.proofs.Meaning.OfTrees.TreeOnWalk.{read_of_told, unread_of_told, document_of_told, strict_of_told}
use Rattle.facet_json_tree.proofs.ReadingWithin.{unlimited-unread}
use Rattle.facet_json_tree.proofs.reader.read_tree.Goals as goal

-- What follows from two facts of one answer.
both-ok : {T E : Type 0} (r : Result T E) (P Q R : T → Type 0) → ((x : T) → P x → Q x → R x) → IfOk r P → IfOk r Q → IfOk r R
both-ok (Ok x) P Q R f p q = f x p q
both-ok (Err e) P Q R f p q = tt

-- What is refused where a premise holds.
refused-where : {T E : Type 0} {A : Type 0} (r : Result T E) (P Q : E → Type 0) → ((e : E) → (A → P e) → Q e) →
    (A → IfErr r P) → IfErr r Q
refused-where (Ok x) P Q f h = tt
refused-where (Err e) P Q f h = f e h

pub returns-clause-read : goal.returns-clause-read
returns-clause-read c =
    both-ok c.read_value.result _ _ _ (λ t h moves. read_of_told _ _ _ h moves) c.read_value.ensures.told c.read_value.ensures.moves

pub returns-clause-unread : goal.returns-clause-unread
returns-clause-unread c =
    refused-where c.read_value.result _ _ (λ e h. unread_of_told _ _ (λ free. unlimited-unread (h free))) c.read_value.ensures.refused

pub returns-clause-document : goal.returns-clause-document
returns-clause-document c =
    IfOk-weaker c.read_value.result _ _ (λ t h. document_of_told _ _ _ h) c.read_value.ensures.told

pub returns-clause-strict : goal.returns-clause-strict
returns-clause-strict c =
    IfOk-weaker c.read_value.result _ _ (λ t h. strict_of_told _ c.read_value.new.parser _ h) c.read_value.ensures.told

pub returns-clause-refused : goal.returns-clause-refused
returns-clause-refused c free =
    IfErr-weaker c.read_value.result _ _ (λ e h. unlimited-unread h) (c.read_value.ensures.refused free)
