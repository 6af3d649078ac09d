-- The arrivals over the sections before s are marked.
-- Assumes nothing.
use Prim.Native.Nat.{◌*◌}
use Rattle.steps.proofs.Marking.{Marked}
use Rattle.steps.proofs.trip.Trip.fill_ends.Given as goal

abbrev pub invariant-loop-s : goal.invariant-loop-s
invariant-loop-s l = Marked l.self.query.plan.sections.now l.self.query.finish l.goal l.initial.rows l.rows (2 * l.s)
