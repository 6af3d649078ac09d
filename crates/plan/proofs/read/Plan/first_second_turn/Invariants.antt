-- No turn before t is a second one at its point, and a mark stands at the point of each of them.
-- Assumes nothing.
use Rattle.plan.proofs.PointMarks.{Marked}
use Rattle.plan.proofs.read.Plan.first_second_turn.Given as goal

abbrev pub invariant-loop-t : goal.invariant-loop-t
invariant-loop-t l = Marked l.self.sections.now l.self.turns.now l.marks l.t-end l.t
