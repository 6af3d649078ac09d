-- `walk::first_walk` meets its contract.
-- Assumes nothing.
use native.Mathlib.Omega.{arith}
use Rattle.distance.proofs.Following.{ends_read, going_few, going_more, going_falls, going_done}
use Rattle.distance.proofs.walk.first_walk.Goals as goal

-- what is written has room for one more
pub bounds-walk-k : goal.bounds-walk-k
bounds-walk-k c =
    let pre = c.requires in
    let few = going_few pre.table pre.exact pre.from_in_bounds c.loop-a.invariant in
    omega arith

pub loop-a-smaller : goal.loop-a-smaller
loop-a-smaller c =
    let pre = c.requires in
    going_falls pre.table pre.exact c.loop-a.invariant (ends_read c.args.net.now.rows.now c.loop-a.a _ c.loop-a-test.true (omega arith)) c.pick-b.ensures

pub loop-a-preserved : goal.loop-a-preserved
loop-a-preserved c =
    let pre = c.requires in
    let few = going_few pre.table pre.exact pre.from_in_bounds c.loop-a.invariant in
    going_more pre.table pre.exact (omega arith) c.loop-a.invariant (ends_read c.args.net.now.rows.now c.loop-a.a _ c.loop-a-test.true (omega arith)) c.pick-b.ensures

pub returns-clause-written : goal.returns-clause-written
returns-clause-written c =
    let pre = c.requires in
    going_done pre.table pre.exact pre.from_in_bounds pre.walk_fits c.loop-a.invariant (ends_read c.args.net.now.rows.now c.loop-a.a _ c.loop-a-test.false (omega arith))

pub returns-clause-short : goal.returns-clause-short
returns-clause-short c =
    let pre = c.requires in
    going_few pre.table pre.exact pre.from_in_bounds c.loop-a.invariant
