-- Each section before s stands at both of its ends, the other slots are empty, and `filled` counts the sections before s.
-- Assumes nothing.
use Rattle.plan.proofs.SlotTable.{Held}
use Rattle.plan.proofs.read.Plan.index_into.Given as goal

abbrev pub invariant-loop-s : goal.invariant-loop-s
invariant-loop-s l = Held l.self.sections.now l.slots l.filled l.s-end l.s
