use Rattle.plan.proofs.Counts.{counts_none, counts_all, first_fits, second_fits, counts_more}
use Rattle.plan.proofs.read.Plan.degrees.Goals as goal

pub loop-s-init : goal.loop-s-init
loop-s-init c = counts_none c.requires c.section_count-s-end.ensures

pub count_up-requires : goal.count_up-requires
count_up-requires c = let h = first_fits c.loop-s.invariant c.loop-s-test.true c.number.ensures in record { point = h.0; room = h.1 }

pub count_up-requires-in-loop-s : goal.count_up-requires-in-loop-s
count_up-requires-in-loop-s c =
    let h = second_fits c.loop-s.invariant c.loop-s-test.true c.number.ensures c.count_up.ensures c.number-in-loop-s.ensures in
    record { point = h.0; room = h.1 }

pub loop-s-preserved : goal.loop-s-preserved
loop-s-preserved c =
    let first = c in
    counts_more first.loop-s.invariant first.loop-s-test.true first.number.ensures
    c.count_up.ensures c.number-in-loop-s.ensures c.count_up-in-loop-s.ensures

pub returns : goal.returns
returns c = counts_all c.loop-s.invariant c.loop-s-test.false
