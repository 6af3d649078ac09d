-- The turns before t are in the table.
-- Assumes nothing.
use Rattle.turns.proofs.TurnsByPoint.{Filled}
use Rattle.turns.proofs.turn_table.turn_table.Given as goal

abbrev pub invariant-loop-t : goal.invariant-loop-t
invariant-loop-t l = Filled l.plan.sections.now l.plan.turns.now l.table l.t-end l.t
