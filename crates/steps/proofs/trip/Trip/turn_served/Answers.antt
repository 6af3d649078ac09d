-- `Trip::turn_served` meets its contract: the turn is asked for where a step may enter one of its sections.
-- Assumes nothing.
use Rattle.steps.specs.StepOver.{may_enter}
use Rattle.steps.proofs.Serving.{asked, turn_arrived}
use Rattle.steps.proofs.trip.Trip.turn_served.Goals as goal

pub can_reverse-requires-clause-arrived : goal.can_reverse-requires-clause-arrived
can_reverse-requires-clause-arrived c =
    rw c.yard.ensures.plan (turn_arrived c.requires.tables.checked c.args.t c.requires.inside c.turn_number-from.ensures c.requires.point)

pub returns : goal.returns
returns c =
    asked (may_enter c.args.self.now) c.turn_number-from.ensures c.turn_number-onto.ensures c.requires.point
    (rw c.yard.ensures.plan at (c.can_reverse.ensures c.args.self.now.query.plan.points))
