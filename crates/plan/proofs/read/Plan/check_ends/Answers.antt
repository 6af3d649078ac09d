-- The verdict of rows 3 and 4, row by row, and then that of the rows of the turns.
-- Assumes nothing.
use Rattle.std.proofs.Common.{None, Some}
use Rattle.plan.specs.Lent.{plan_lent}
use Rattle.plan.proofs.Counts.{by_degrees}
use Rattle.plan.proofs.Looking.{row_refuses, row_passes}
use Rattle.plan.proofs.Rows.{row_3, row_4, rows_past}
use Rattle.plan.proofs.read.Plan.check_ends.Goals as goal

pub returns-in-Some-clause-answer : goal.returns-in-Some-clause-answer
returns-in-Some-clause-answer c = let y = plan_lent c.args.self.now in row_refuses (row_3 y) (rows_past y 3) c.in-Some.ensures.first

-- the first point by its degree in the table is the first by its degree
pub returns-in-Some-first_bad_degree-clause-answer : goal.returns-in-Some-first_bad_degree-clause-answer
returns-in-Some-first_bad_degree-clause-answer c =
    let y = plan_lent c.args.self.now in
    row_passes (row_3 y) (rows_past y 3) c.in_default.ensures.first
    (row_refuses (row_4 y) (rows_past y 4) (by_degrees y.points y.turns (Some _) c.degrees-degrees.ensures c.requires.points c.in-Some-first_bad_degree.ensures))

pub returns-clause-answer : goal.returns-clause-answer
returns-clause-answer c =
    let y = plan_lent c.args.self.now in
    row_passes (row_3 y) (rows_past y 3) c.in_default.ensures.first
    (row_passes (row_4 y) (rows_past y 4) (by_degrees y.points y.turns None c.degrees-degrees.ensures c.requires.points c.in_default-first_bad_degree.ensures) c.check_turns.ensures)
