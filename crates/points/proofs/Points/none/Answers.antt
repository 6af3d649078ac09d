-- `none` meets its contract: no bit of a zero is put.
-- Assumes nothing.
use mathlib.Core.Path.{refl}
use Rattle.points.proofs.Members.{empty}
use Rattle.points.proofs.Points.none.Goals as goal

pub returns : goal.returns
returns c = empty refl
