-- `put` meets its contract: one bit of one word is put.
-- Assumes nothing.
use mathlib.Core.Path.{refl}
use native.Mathlib.Omega.{arith}
use Rattle.points.proofs.Members.{written}
use Rattle.points.proofs.Points.put.Goals as goal

pub returns : goal.returns
returns c = let h = c.well_formed in written (omega arith) c.requires refl refl
