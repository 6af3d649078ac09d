use Rattle.turns.proofs.TurnsByPoint.{filled_none, filled_all, filled_more}
use Rattle.turns.proofs.turn_table.turn_table.Goals as goal

pub loop-t-init : goal.loop-t-init
loop-t-init c = filled_none c.requires c.turn_count-t-end.ensures

pub loop-t-preserved : goal.loop-t-preserved
loop-t-preserved c =
    filled_more c.loop-t.invariant c.loop-t-test.true c.turn_point.ensures c.turn_number-first.ensures c.turn_number-second.ensures

pub returns : goal.returns
returns c = filled_all c.loop-t.invariant c.loop-t-test.false
