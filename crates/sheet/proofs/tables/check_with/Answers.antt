-- `tables::check_with` meets its contract: the table is that of the query, so what is found over it is found of the query.
-- Assumes nothing.
use Rattle.std.proofs.Common.{length, arith}
use Rattle.rules.proofs.Sound.{sound, label_length}
use Rattle.rules.proofs.Trips.{start_inside}
use Rattle.train.specs.Asked.{query_lent}
use Rattle.steps.proofs.Routing.{ready}
use Rattle.sheet.proofs.Checking.{listing_prepared}
use Rattle.sheet.proofs.tables.check_with.Goals as goal

pub list_steps-requires-clause-ready : goal.list_steps-requires-clause-ready
list_steps-requires-clause-ready c =
    ready c.args.trip.now (length c.args.sheet.now.labels.now) c.requires.ready.accepted c.requires.ready.tables

pub list_steps-requires-clause-long : goal.list_steps-requires-clause-long
list_steps-requires-clause-long c =
    omega (arith, label_length (query_lent c.args.trip.now.query) (length c.args.sheet.now.labels.now) c.requires.ready.accepted)

pub check_claim-requires-clause-few : goal.check_claim-requires-clause-few
check_claim-requires-clause-few c =
    let query = query_lent c.args.trip.now.query in
    let known = sound query (length c.args.sheet.now.labels.now) c.requires.ready.accepted in
    omega (arith, label_length query (length c.args.sheet.now.labels.now) c.requires.ready.accepted, known.plan.few_sections)

pub check_claim-requires-clause-from_in_bounds : goal.check_claim-requires-clause-from_in_bounds
check_claim-requires-clause-from_in_bounds c =
    let query = query_lent c.args.trip.now.query in
    let known = sound query (length c.args.sheet.now.labels.now) c.requires.ready.accepted in
    let long = label_length query (length c.args.sheet.now.labels.now) c.requires.ready.accepted in
    rw c.start_arrival.ensures (omega (arith, start_inside known, long))

pub returns : goal.returns
returns c =
    let query = query_lent c.args.trip.now.query in
    let known = sound query (length c.args.sheet.now.labels.now) c.requires.ready.accepted in
    let long = label_length query (length c.args.sheet.now.labels.now) c.requires.ready.accepted in
    c.check_claim.ensures query (listing_prepared known c.list_steps.ensures (omega (arith, long)) c.finish_room.ensures c.start_arrival.ensures)
