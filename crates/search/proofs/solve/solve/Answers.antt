-- `solve::solve` meets its contract: where no walk can end, all labels are "none".
-- Assumes nothing.
use Rattle.turns.proofs.Entering.{passed_joined, passed_three}
use Rattle.search.proofs.Solving.{nothing_solved}
use Rattle.search.proofs.solve.solve.Goals as goal

pub has_end-requires-clause-indexed : goal.has_end-requires-clause-indexed
has_end-requires-clause-indexed c =
    let tables = c.requires.ready.tables in
    record { joined = passed_joined tables.checked; three = passed_three tables.checked; slotted = tables.slotted }

pub returns-then-not-has_end : goal.returns-then-not-has_end
returns-then-not-has_end c = nothing_solved c.requires.ready.sound (c.has_end.ensures c.if-not-has_end.true) c.requires.lent
