-- The turns before t have their answers.
-- Assumes nothing.
use Rattle.plan.specs.Lent.{plan_lent}
use Rattle.steps.specs.StepOver.{may_enter}
use Rattle.steps.proofs.Serving.{Asked}
use Rattle.steps.proofs.trip.Trip.served.Given as goal

abbrev pub invariant-loop-t : goal.invariant-loop-t
invariant-loop-t l = Asked (plan_lent l.self.query.plan) (may_enter l.self) l.self.query.length l.points l.t
