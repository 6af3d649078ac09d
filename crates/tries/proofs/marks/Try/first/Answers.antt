-- `first` meets its contract: of no marks one is put.
-- Assumes nothing.
use mathlib.Core.Path.{refl}
use Rattle.tries.proofs.Marking.{begun}
use Rattle.tries.proofs.marks.Try.first.Goals as goal

pub returns : goal.returns
returns c = begun c.requires c.none-marks.ensures c.put.ensures refl
