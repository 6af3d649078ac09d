-- The verdict of rows 1 and 2, row by row, and then that of the rows below.
-- Assumes nothing.
use Rattle.std.proofs.Common.{◌∙◌}
use Rattle.plan.specs.Lent.{plan_lent}
use Rattle.plan.proofs.Known.{sized, joined_known, plan_three}
use Rattle.plan.proofs.Looking.{row_refuses, row_passes}
use Rattle.plan.proofs.Rows.{row_2, rows_past, past_1, not_refused}
use Rattle.plan.proofs.read.Plan.check_and_index.Goals as goal

pub returns-in-Some-clause-answer : goal.returns-in-Some-clause-answer
returns-in-Some-clause-answer c =
    let y = plan_lent c.args.self.now in
    past_1 y c.tables_good.ensures c.if-not-tables_good.false (row_refuses (row_2 y) (rows_past y 2) c.in-Some.ensures)

-- a plan that is refused does not pass
pub returns-in-Some-clause-slotted : goal.returns-in-Some-clause-slotted
returns-in-Some-clause-slotted c =
    λ z. let y = plan_lent c.args.self.now in
    absurd (not_refused (past_1 y c.tables_good.ensures c.if-not-tables_good.false (row_refuses (row_2 y) (rows_past y 2) c.in-Some.ensures) ∙ z))

pub check_ends-requires : goal.check_ends-requires
check_ends-requires c =
    let y = plan_lent c.args.self.now in
    let size = sized y.points y.sections y.turns c.tables_good.ensures c.if-not-tables_good.false in
    record { points = size.0; joined = joined_known size.0 size.1 c.in_default.ensures; few = size.2; empty = c.requires }

pub returns-clause-answer : goal.returns-clause-answer
returns-clause-answer c =
    let y = plan_lent c.args.self.now in
    past_1 y c.tables_good.ensures c.if-not-tables_good.false (row_passes (row_2 y) (rows_past y 2) c.in_default.ensures c.check_ends.ensures.answer)

pub returns-clause-slotted : goal.returns-clause-slotted
returns-clause-slotted c = λ z. c.check_ends.ensures.slotted (plan_three (plan_lent c.args.self.now) z)
