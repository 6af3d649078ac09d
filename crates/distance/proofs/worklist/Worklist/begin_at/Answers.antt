-- `worklist::Worklist::begin_at` meets its contract: the label is lowered to what the arrival offers by itself, if at all.
-- Assumes nothing.
use native.Mathlib.Omega.{arith}
use Rattle.distance.proofs.Offers.{room_offered}
use Rattle.distance.proofs.Lowering.{lowered_kept}
use Rattle.distance.proofs.worklist.Worklist.begin_at.Goals as goal

pub returns-then-lower-clause-kept : goal.returns-then-lower-clause-kept
returns-then-lower-clause-kept g c = lowered_kept c.requires.in_bounds (room_offered _ _ _ _ (omega arith) c.if-net-a.true) c.lower.ensures
