-- Rows 1 to 6 are the plan check's, and then come the others.
-- Assumes nothing.
use Rattle.std.proofs.Common.{sym}
use Rattle.std.proofs.lemmas.Result.{err_from_is_err_and}
use Rattle.plan.specs.Lent.{plan_lent}
use Rattle.plan.proofs.Known.{plan_turned}
use Rattle.pullout.specs.Asked.{reversal_lent}
use Rattle.pullout.proofs.Answering.{plan_refused, own_refused}
use Rattle.pullout.proofs.pull_out.Goals as goal

pub returns-in_err-check_and_index : goal.returns-in_err-check_and_index
returns-in_err-check_and_index c =
    let p = err_from_is_err_and c.from_residual.result c.from_residual.ensures.1 in
    rw (p.1, p.2) (plan_refused (reversal_lent c.args.asked.now) _ c.args.list.now c.in_err-check_and_index.ensures.answer)

pub turn_table-turns-requires : goal.turn_table-turns-requires
turn_table-turns-requires c = plan_turned (plan_lent c.args.asked.now.plan) (sym c.in_ok-check_and_index.ensures.answer)

pub returns-in_err-check_asked : goal.returns-in_err-check_asked
returns-in_err-check_asked c =
    let p = err_from_is_err_and c.from_residual-in_err-check_asked.result c.from_residual-in_err-check_asked.ensures.1 in
    rw (p.1, p.2) (own_refused (reversal_lent c.args.asked.now) c.in_ok-check_and_index.ensures.answer _ c.args.list.now c.in_err-check_asked.ensures)
