-- `walk::follow` meets its contract. The loop's invariant: from the arrival a, what is left of the list is a walk where the whole list is one, and
-- the two sums of costs are the same.
-- Assumes nothing.
use Rattle.sheet.proofs.Following.{FollowedTo}
use Rattle.sheet.proofs.walk.follow.Given as goal

abbrev pub invariant-loop-b : goal.invariant-loop-b
invariant-loop-b l = FollowedTo l.net.rows.now l.from l.list l.a l.sum l.b-index
