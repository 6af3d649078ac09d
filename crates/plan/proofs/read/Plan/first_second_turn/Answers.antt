use Rattle.plan.proofs.PointMarks.{marked_none, second_found, marked_more, none_second}
use Rattle.plan.proofs.read.Plan.first_second_turn.Goals as goal

pub loop-t-init : goal.loop-t-init
loop-t-init c = marked_none c.requires c.turn_count-t-end.ensures

pub returns-then-marks-p : goal.returns-then-marks-p
returns-then-marks-p c =
    let turn = c in
    second_found turn.loop-t.invariant turn.loop-t-test.true turn.turn_point-p.ensures c.if-marks-p.true

pub loop-t-preserved : goal.loop-t-preserved
loop-t-preserved c =
    let turn = c in
    marked_more turn.loop-t.invariant turn.loop-t-test.true turn.turn_point-p.ensures c.if-marks-p.false

pub returns : goal.returns
returns c = none_second c.loop-t.invariant c.loop-t-test.false
