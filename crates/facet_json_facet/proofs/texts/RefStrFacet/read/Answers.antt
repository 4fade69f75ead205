use Rattle.std.proofs.Common.{refl}
use Rattle.facet_json_core.proofs.Meaning.Leaves.BorrowedLaws.{borrowed-read, borrowed-document, borrowed-strict}
use Rattle.facet_json_facet.proofs.texts.RefStrFacet.read.Goals as goal

pub returns-in-Some-clause-read : goal.returns-in-Some-clause-read
returns-in-Some-clause-read c = borrowed-read _ _ _ c.in-Some.text.now c.in-Some.ensures.walks refl

pub returns-in-Some-clause-document : goal.returns-in-Some-clause-document
returns-in-Some-clause-document c whole = borrowed-document _ _ _ c.in-Some.text.now c.in-Some.ensures.passed refl

pub returns-in-Some-clause-strict : goal.returns-in-Some-clause-strict
returns-in-Some-clause-strict c whole = borrowed-strict _ _ _ c.in-Some.text.now c.in-Some.ensures.passed refl

pub returns-in-None-clause-read : goal.returns-in-None-clause-read
returns-in-None-clause-read c = rw c.in-None.ensures at c.lent_out_of_line.ensures.read

pub returns-in-None-clause-unread : goal.returns-in-None-clause-unread
returns-in-None-clause-unread c = rw c.in-None.ensures at c.lent_out_of_line.ensures.unread
