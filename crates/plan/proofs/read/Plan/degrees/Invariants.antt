-- The table counts the sections before s.
-- Assumes nothing.
use Rattle.plan.proofs.Counts.{Counts}
use Rattle.plan.proofs.read.Plan.degrees.Given as goal

abbrev pub invariant-loop-s : goal.invariant-loop-s
invariant-loop-s l = Counts l.self.sections.now l.table l.s-end l.s
