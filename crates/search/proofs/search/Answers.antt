-- `search` meets its contract: rows 1 to 11 are those of the query's check, and then come the others.
-- Assumes nothing.
use Rattle.std.proofs.Common.{length, sym, arith, replicate, ◌∙◌}
use Rattle.rules.proofs.Sound.{sound, label_length}
use Rattle.plan.proofs.Known.{plan_turned}
use Rattle.plan.specs.Lent.{plan_lent}
use Rattle.train.specs.Asked.{query_lent}
use Rattle.train.proofs.Refusing.{plan_accepted}
use Rattle.steps.proofs.Routing.{tables_right, ready}
use Rattle.search.proofs.Answering.{turned_away}
use Rattle.search.proofs.Solving.{fresh_lent}
use Rattle.search.proofs.search.Goals as goal

pub returns-in_err-check_query : goal.returns-in_err-check_query
returns-in_err-check_query c =
    turned_away c.args.route.now c.args.labels.now c.from_residual.result c.in_err-check_query.field-0.0 c.from_residual.ensures.1 (sym c.in_err-check_query.ensures.answer)

pub turn_table-turns-requires : goal.turn_table-turns-requires
turn_table-turns-requires c =
    plan_turned (plan_lent c.args.query.now.plan) (plan_accepted (query_lent c.args.query.now) (length c.args.labels.now) (sym c.in_ok-check_query.ensures.answer))

pub find_route-requires-clause-ready : goal.find_route-requires-clause-ready
find_route-requires-clause-ready c =
    let ok = sym c.in_ok-check_query.ensures.answer in
    let n = length c.args.labels.now in
    ready _ n ok (tables_right c.args.query.now n ok (c.in_ok-check_query.ensures.slotted ok) c.turn_table-turns.ensures)

pub slice_bounds-known-end : goal.slice_bounds-known-end
slice_bounds-known-end c =
    let ok = sym c.in_ok-check_query.ensures.answer in
    let S = sound (query_lent c.args.query.now) (length c.args.labels.now) ok in
    omega (arith, label_length (query_lent c.args.query.now) (length c.args.labels.now) ok, S.plan.few_sections)

pub slice_bounds-find_route-end : goal.slice_bounds-find_route-end
slice_bounds-find_route-end c =
    let query = query_lent c.args.query.now in
    let ok = sym c.in_ok-check_query.ensures.answer in
    let long = label_length query (length c.args.labels.now) ok in
    let lent = fresh_lent c.args.labels.now (replicate 2048 0) (sound query (length c.args.labels.now) ok) long (omega arith) in
    long ∙ sym lent.one_each

pub find_route-requires-clause-lent : goal.find_route-requires-clause-lent
find_route-requires-clause-lent c =
    let query = query_lent c.args.query.now in
    let ok = sym c.in_ok-check_query.ensures.answer in
    fresh_lent c.args.labels.now (replicate 2048 0) (sound query (length c.args.labels.now) ok) (label_length query (length c.args.labels.now) ok) (omega arith)
