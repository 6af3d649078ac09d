-- `sweep::sweep` meets its contract. The loop's invariant: the arrivals below a are swept.
-- Assumes nothing.
use Rattle.distance.specs.Labels.{Swept}
use Rattle.distance.proofs.sweep.sweep.Given as goal

abbrev pub invariant-loop-a : goal.invariant-loop-a
invariant-loop-a l = Swept l.net l.initial.labels l.labels l.a l.fell
