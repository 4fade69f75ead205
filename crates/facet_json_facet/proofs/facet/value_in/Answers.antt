use Rattle.facet_json_facet.proofs.facet.value_in.Goals as goal

pub returns-then-borrows-clause-read : goal.returns-then-borrows-clause-read
returns-then-borrows-clause-read g c = rw c.if-borrows.true c.read.ensures.read

pub returns-then-borrows-clause-unread : goal.returns-then-borrows-clause-unread
returns-then-borrows-clause-unread g c = rw c.if-borrows.true c.read.ensures.unread

pub returns-else-borrows-clause-read : goal.returns-else-borrows-clause-read
returns-else-borrows-clause-read g c = rw c.if-borrows.false c.read_owned.ensures.read

pub returns-else-borrows-clause-unread : goal.returns-else-borrows-clause-unread
returns-else-borrows-clause-unread g c = rw c.if-borrows.false c.read_owned.ensures.unread

pub returns-then-borrows-clause-owned : goal.returns-then-borrows-clause-owned
returns-then-borrows-clause-owned g c lent = absurd (cc)

pub returns-else-borrows-clause-owned : goal.returns-else-borrows-clause-owned
returns-else-borrows-clause-owned g c lent = c.read_owned.ensures.owned
