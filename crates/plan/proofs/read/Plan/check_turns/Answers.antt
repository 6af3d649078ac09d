-- The verdict of rows 5 and 6, row by row.
-- Assumes nothing.
use Rattle.std.proofs.Common.{refl}
use Rattle.plan.specs.Lent.{plan_lent}
use Rattle.plan.proofs.Known.{turned_known}
use Rattle.plan.proofs.Looking.{row_refuses, row_passes}
use Rattle.plan.proofs.Rows.{row_5, row_6, rows_past}
use Rattle.plan.proofs.read.Plan.check_turns.Goals as goal

pub returns-in-Some : goal.returns-in-Some
returns-in-Some c = let y = plan_lent c.args.self.now in row_refuses (row_5 y) (rows_past y 5) c.in-Some.ensures

pub first_second_turn-requires : goal.first_second_turn-requires
first_second_turn-requires c = turned_known c.requires.joined c.requires.few c.in_default.ensures

pub returns-in-Some-first_second_turn : goal.returns-in-Some-first_second_turn
returns-in-Some-first_second_turn c =
    let y = plan_lent c.args.self.now in
    row_passes (row_5 y) (rows_past y 5) c.in_default.ensures (row_refuses (row_6 y) (rows_past y 6) c.in-Some-first_second_turn.ensures)

pub returns : goal.returns
returns c =
    let y = plan_lent c.args.self.now in
    row_passes (row_5 y) (rows_past y 5) c.in_default.ensures (row_passes (row_6 y) (rows_past y 6) c.in_default-first_second_turn.ensures refl)
