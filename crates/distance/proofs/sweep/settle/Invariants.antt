-- `sweep::settle` meets its contract. The loop's invariant: no label is below what is offered. The measure is the sum of the
-- labels, which each sweep but the last makes less.
-- Assumes nothing.
use Rattle.distance.specs.Labels.{label_sum, Kept}
use Rattle.distance.proofs.sweep.settle.Given as goal

abbrev pub invariant-loop : goal.invariant-loop
invariant-loop l = Kept l.net l.initial.labels l.labels

abbrev pub decreases-loop : goal.decreases-loop
decreases-loop l = label_sum l.labels
