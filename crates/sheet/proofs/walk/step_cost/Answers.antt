-- `walk::step_cost` meets its contract: the step stands first in the row of the arrival, or second.
-- Assumes nothing.
use Rattle.std.proofs.Common.{arith}
use Rattle.sheet.proofs.Following.{placed, first_read, second_read}
use Rattle.sheet.proofs.walk.step_cost.Goals as goal

pub returns-then-row-b-clause-cost : goal.returns-then-row-b-clause-cost
returns-then-row-b-clause-cost c = λ t L. placed L c.requires (omega arith) (first_read c.args.net.now.rows.now c.args.a _ c.requires) c.if-row-b.true

pub returns-then-row-b-2-clause-cost : goal.returns-then-row-b-2-clause-cost
returns-then-row-b-2-clause-cost c = λ t L. placed L c.requires (omega arith) (second_read c.args.net.now.rows.now c.args.a _ c.requires) c.if-row-b-2.true
