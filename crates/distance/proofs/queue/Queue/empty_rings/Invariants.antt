-- `queue::Queue::empty_rings` meets its contract. The loop's invariant: none has come meanwhile.
-- Assumes nothing.
use mathlib.Core.Path.{◌≡◌}
use Rattle.distance.proofs.queue.Queue.empty_rings.Given as goal

abbrev pub invariant-loop-head : goal.invariant-loop-head
invariant-loop-head g l = l.self.came ≡ l.initial.self.came
