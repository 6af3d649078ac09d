-- None of the slots before r's of the end A holds a section that joins the same two points, and all of them come before the slot of s itself.
-- Assumes nothing.
use Rattle.plan.proofs.Nearby.{Looked}
use Rattle.plan.proofs.read.Plan.doubled_nearby.Given as goal

abbrev pub invariant-loop-r : goal.invariant-loop-r
invariant-loop-r l = Looked l.self.sections.now l.slots l.s l.a l.r-index
