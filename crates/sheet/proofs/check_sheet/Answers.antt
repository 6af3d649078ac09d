-- `check_sheet` meets its contract: refusals 1 to 11 are those of the query's check, and then come the others.
-- Assumes nothing.
use Rattle.std.proofs.Common.{length, sym}
use Rattle.std.proofs.lemmas.Result.{err_from_is_err_and}
use Rattle.plan.specs.Lent.{plan_lent}
use Rattle.plan.proofs.Known.{plan_turned}
use Rattle.train.specs.Asked.{query_lent}
use Rattle.train.proofs.Refusing.{plan_accepted}
use Rattle.steps.proofs.Routing.{tables_right}
use Rattle.sheet.proofs.Answering.{turned_away, judged_refused}
use Rattle.sheet.proofs.check_sheet.Goals as goal

pub returns-in_err-check_query : goal.returns-in_err-check_query
returns-in_err-check_query c =
    let p = err_from_is_err_and c.from_residual.result c.from_residual.ensures.1 in
    rw (p.1, p.2) (turned_away c.in_err-check_query.field-0.0 (sym c.in_err-check_query.ensures.answer))

pub turn_table-turns-requires : goal.turn_table-turns-requires
turn_table-turns-requires c =
    plan_turned (plan_lent c.args.query.now.plan)
    (plan_accepted (query_lent c.args.query.now) (length c.args.sheet.now.labels.now) (sym c.in_ok-check_query.ensures.answer))

pub check_over_steps-requires : goal.check_over_steps-requires
check_over_steps-requires c =
    let ok = sym c.in_ok-check_query.ensures.answer in
    record { accepted = ok; tables = tables_right c.args.query.now (length c.args.sheet.now.labels.now) ok (c.in_ok-check_query.ensures.slotted ok) c.turn_table-turns.ensures }

pub returns-in_err-check_over_steps : goal.returns-in_err-check_over_steps
returns-in_err-check_over_steps c =
    let p = err_from_is_err_and c.from_residual-in_err-check_over_steps.result c.from_residual-in_err-check_over_steps.ensures.1 in
    rw (p.1, p.2) (judged_refused c.in_err-check_over_steps.field-0.0 (sym c.in_ok-check_query.ensures.answer) c.in_err-check_over_steps.ensures)

pub accept-requires-clause-ready : goal.accept-requires-clause-ready
accept-requires-clause-ready c =
    let ok = sym c.in_ok-check_query.ensures.answer in
    record { accepted = ok; tables = tables_right c.args.query.now (length c.args.sheet.now.labels.now) ok (c.in_ok-check_query.ensures.slotted ok) c.turn_table-turns.ensures }
