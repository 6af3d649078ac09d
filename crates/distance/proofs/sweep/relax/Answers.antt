-- `sweep::relax` meets its contract: the label is lowered to the best that is offered.
-- Assumes nothing.
use Rattle.distance.proofs.Lowering.{relaxed}
use Rattle.distance.proofs.sweep.relax.Goals as goal

pub returns : goal.returns
returns c = relaxed c.requires.in_bounds c.best-v.ensures c.lower.ensures
