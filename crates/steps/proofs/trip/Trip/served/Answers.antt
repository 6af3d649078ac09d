use native.Mathlib.Omega.{arith}
use Rattle.std.proofs.Common.{◌≡◌}
use Rattle.rules.specs.Plan.{plan_of, turn_count}
use Rattle.steps.proofs.Serving.{turn_low, asked_more, asked_all}
use Rattle.steps.proofs.trip.Trip.served.Goals as goal

pub bounds-points-p : goal.bounds-points-p
bounds-points-p c = turn_low c.requires.tables.checked (omega arith) c.turn_point-p.ensures

pub loop-t-preserved : goal.loop-t-preserved
loop-t-preserved c =
    asked_more c.requires.tables.checked (omega arith) c.turn_point-p.ensures c.args.self.now.query.plan.points c.loop-t.invariant c.turn_served.ensures

pub returns : goal.returns
returns c =
    let e : c.loop-t.t ≡ turn_count (plan_of 0 c.args.self.now.query.plan.sections.now c.args.self.now.query.plan.turns.now) = omega arith in
    asked_all c.requires.tables.checked c.args.self.now.query.plan.points (rw e at c.loop-t.invariant)
