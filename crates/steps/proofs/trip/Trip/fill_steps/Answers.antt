use Rattle.std.proofs.Common.{◌≡◌, arith}
use Rattle.rules.specs.Plan.{arrivals}
use Rattle.plan.specs.Lent.{plan_lent}
use Rattle.turns.proofs.Entering.{passed_joined}
use Rattle.steps.specs.StepOver.{rules_trip}
use Rattle.steps.proofs.Filling.{written_none, written_more, ends_read, step_table}
use Rattle.steps.proofs.trip.Trip.fill_steps.Goals as goal

pub loop-a-init : goal.loop-a-init
loop-a-init c = written_none

pub loop-a-preserved : goal.loop-a-preserved
loop-a-preserved c = written_more (ends_read c.loop-a.rows c.loop-a.a _ (omega arith)) c.loop-a.invariant (omega arith) c.row_at.ensures

pub returns-clause-steps : goal.returns-clause-steps
returns-clause-steps c =
    let e : c.loop-a.a ≡ arrivals (plan_lent c.args.self.now.query.plan) = omega arith in
    step_table (rules_trip c.args.self.now) c.loop-a.rows (omega (arith, (passed_joined c.requires.tables.checked).few)) (rw e at c.loop-a.invariant.steps)

pub returns-clause-kept : goal.returns-clause-kept
returns-clause-kept c = c.loop-a.invariant.kept
