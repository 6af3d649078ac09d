-- What leads on from where the train stands makes a pull-out from the start.
-- Assumes nothing.
use Rattle.reversal.specs.Passed.{points_of}
use Rattle.reversal.proofs.Running.{Running}
use Rattle.reversal.proofs.run.run.Given as goal

abbrev pub invariant-loop-i : goal.invariant-loop-i
invariant-loop-i g l = Running l.serving l.start.left l.start.at (points_of l.passed) l.train
