-- `remaining` meets its contract: "none" everywhere is above what is offered, and the last sweep settles.
-- Assumes nothing.
use native.Mathlib.Omega.{arith}
use Rattle.distance.proofs.Lowering.{blank_above}
use Rattle.distance.proofs.Exactness.{settled_exact}
use Rattle.distance.proofs.remaining.Goals as goal

pub settle-requires-clause-above : goal.settle-requires-clause-above
settle-requires-clause-above c = c.run_down.ensures.keeps (blank_above c.requires.blank)

pub returns : goal.returns
returns c = settled_exact c.requires.table (omega arith) c.settle.ensures
