use Rattle.std.proofs.Common.{arith}
use Rattle.sheet.proofs.Following.{row_read, followed_none, followed_off, followed_more, followed_end, followed_short}
use Rattle.sheet.proofs.walk.follow.Goals as goal

pub loop-b-init : goal.loop-b-init
loop-b-init c = followed_none c.requires

pub returns-in_err-more : goal.returns-in_err-more
returns-in_err-more c = λ t L. rw c.from_residual.ensures (followed_off c.loop-b.invariant c.loop-b-test.true c.in_err-more.ensures.cost t L)

pub loop-b-preserved : goal.loop-b-preserved
loop-b-preserved c = followed_more c.loop-b.invariant c.loop-b-test.true c.in_ok-more.ensures.inside c.in_ok-more.ensures.cost (omega arith)

pub returns-then-net-a : goal.returns-then-net-a
returns-then-net-a c = λ t L. followed_end c.loop-b.invariant c.loop-b-test.false t L (rw (row_read c.args.net.now.rows.now c.loop-b.a _ c.loop-b.invariant.inside) at c.if-net-a.true)

pub returns-else-net-a : goal.returns-else-net-a
returns-else-net-a c = λ t L. followed_short c.loop-b.invariant c.loop-b-test.false t L (rw (row_read c.args.net.now.rows.now c.loop-b.a _ c.loop-b.invariant.inside) at c.if-net-a.false)
