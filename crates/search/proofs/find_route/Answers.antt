-- `find_route` meets its contract: no walk leads on from the start, or one is handed out.
-- Assumes nothing.
use Rattle.std.proofs.Common.{arith}
use Rattle.train.specs.Asked.{query_lent}
use Rattle.search.proofs.Answering.{one_each, no_way}
use Rattle.search.proofs.find_route.Goals as goal

pub copy_into-requires : goal.copy_into-requires
copy_into-requires c =
    omega (arith, one_each (query_lent c.args.trip.now.query) c.args.labels.now c.requires.accepted c.solve.ensures.known)

pub returns-in_default : goal.returns-in_default
returns-in_default c =
    rw c.copy_into.ensures
    (no_way (query_lent c.args.trip.now.query) c.args.labels.now c.requires.accepted c.solve.ensures.known c.args.route.now (rw c.in_default.is at c.solve.ensures.chosen))
