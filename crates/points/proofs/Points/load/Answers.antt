-- `load` meets its contract: the words are copied over the first of the set.
-- Assumes nothing.
use mathlib.Core.Path.{refl}
use Rattle.points.proofs.Words.{loaded}
use Rattle.points.proofs.Points.load.Goals as goal

pub returns : goal.returns
returns c = loaded c.requires.empty (rw c.copy_into.ensures refl)
