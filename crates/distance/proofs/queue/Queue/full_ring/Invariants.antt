-- `queue::Queue::full_ring` meets its contract. The loop's invariant: head is the head of a ring.
-- Assumes nothing.
use Prim.Native.Nat.{◌<◌}
use Rattle.distance.proofs.queue.Queue.full_ring.Given as goal

abbrev pub invariant-loop : goal.invariant-loop
invariant-loop g l = l.head < 129
