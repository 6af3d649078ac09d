-- `write::write_walk` meets its contract: the walk fits into the route buffer, or refusal 14.
-- Assumes nothing.
use Rattle.std.proofs.Common.{arith}
use Rattle.train.specs.Asked.{query_lent}
use Rattle.search.proofs.Answering.{one_each, start_label, no_room, handed_out}
use Rattle.search.proofs.write.write_walk.Goals as goal

pub returns-then-route-walk : goal.returns-then-route-walk
returns-then-route-walk c =
    no_room (query_lent c.args.trip.now.query) c.args.labels.now c.requires.accepted c.requires.known c.requires.first c.args.route.now (omega (arith, c.if-route-walk.true))

pub route-numbers-requires-clause-label : goal.route-numbers-requires-clause-label
route-numbers-requires-clause-label c = start_label (query_lent c.args.trip.now.query) c.args.labels.now c.requires.accepted c.requires.known c.requires.first

pub copy_into-requires-2 : goal.copy_into-requires-2
copy_into-requires-2 c =
    omega (arith, one_each (query_lent c.args.trip.now.query) c.args.labels.now c.requires.accepted c.requires.known)

pub returns : goal.returns
returns c =
    let query = query_lent c.args.trip.now.query in
    let numbers = c.route-numbers.ensures in
    rw (c.copy_into-2.ensures, c.copy_into.ensures)
    (handed_out query c.args.labels.now c.requires.accepted c.requires.known c.requires.first c.args.route.now (omega (arith, c.if-route-walk.false))
    numbers.total numbers.reversals numbers.steps)
