-- `take` meets its contract: one bit of one word is cut.
-- Assumes nothing.
use mathlib.Core.Path.{refl}
use native.Mathlib.Omega.{arith}
use Rattle.points.proofs.Members.{taken}
use Rattle.points.proofs.Points.take.Goals as goal

pub returns : goal.returns
returns c = taken (omega arith) c.requires refl refl
