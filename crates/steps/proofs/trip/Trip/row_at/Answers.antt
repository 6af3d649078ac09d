-- `Trip::row_at` meets its contract: the two sections that are looked at are the others of the arrival's point.
-- Assumes nothing.
use Rattle.steps.proofs.Rows.{held, p_low, meets_low, meets_high, steps_from}
use Rattle.steps.proofs.trip.Trip.row_at.Goals as goal

pub slot_at-x-requires-clause-point : goal.slot_at-x-requires-clause-point
slot_at-x-requires-clause-point c = p_low c.requires.known c.requires.inside c.to_point-p.ensures

pub slot_at-y-requires-clause-point : goal.slot_at-y-requires-clause-point
slot_at-y-requires-clause-point c = p_low c.requires.known c.requires.inside c.to_point-p.ensures

pub slot_at-z-requires-clause-point : goal.slot_at-z-requires-clause-point
slot_at-z-requires-clause-point c = p_low c.requires.known c.requires.inside c.to_point-p.ensures

pub step_over-requires-clause-meets : goal.step_over-requires-clause-meets
step_over-requires-clause-meets c =
    meets_low c.requires.known c.requires.inside c.to_point-p.ensures c.slot_at-x.ensures c.slot_at-y.ensures c.slot_at-z.ensures c.other_than-low.ensures

pub step_over-requires-2-clause-meets : goal.step_over-requires-2-clause-meets
step_over-requires-2-clause-meets c =
    meets_high c.requires.known c.requires.inside c.to_point-p.ensures c.slot_at-x.ensures c.slot_at-y.ensures c.slot_at-z.ensures c.other_than-high.ensures

pub returns : goal.returns
returns c =
    steps_from c.requires.known c.requires.inside c.to_point-p.ensures c.slot_at-x.ensures c.slot_at-y.ensures c.slot_at-z.ensures c.other_than-low.ensures c.other_than-high.ensures
    (rw c.unwrap_or-first.ensures (held c.step_over.result c.step_over.ensures)) (rw c.unwrap_or-second.ensures (held c.step_over-2.result c.step_over-2.ensures))
