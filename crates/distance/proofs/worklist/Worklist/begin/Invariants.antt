-- `worklist::Worklist::begin` meets its contract. The loop's invariant: labels stay above what is offered, and of the arrivals before a each
-- has come once at most.
-- Assumes nothing.
use Prim.Native.Nat.{◌+◌, ◌≤◌}
use Rattle.distance.specs.Labels.{Kept}
use Rattle.distance.proofs.worklist.Worklist.begin.Given as goal

abbrev pub invariant-loop-a : goal.invariant-loop-a
invariant-loop-a g l = record { kept : Kept l.net l.initial.labels l.labels; came : l.self.queue.came ≤ l.initial.self.queue.came + l.a }
