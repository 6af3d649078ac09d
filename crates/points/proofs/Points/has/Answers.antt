-- `has` meets its contract: shift and mask find the bit of the point.
-- Assumes nothing.
use mathlib.Core.Path.{refl}
use Rattle.points.proofs.Members.{read}
use Rattle.points.proofs.Points.has.Goals as goal

pub returns : goal.returns
returns c = read c.args.self.now c.args.p refl
