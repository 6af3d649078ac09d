-- `worklist::Worklist::chase` meets its contract. The loop's invariant: labels stay above what is offered.
-- Assumes nothing.
use Prim.Native.Nat.{◌<◌}
use Rattle.distance.specs.Labels.{Kept}
use Rattle.distance.proofs.worklist.Worklist.chase.Given as goal

abbrev pub invariant-loop-taken : goal.invariant-loop-taken
invariant-loop-taken g l = record { kept : Kept l.net l.initial.labels l.labels; is_head : l.head < 129 }
