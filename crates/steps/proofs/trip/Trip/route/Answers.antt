-- `Trip::route` meets its contract: a shortest walk has few steps, and its total fits.
-- Assumes nothing.
use Rattle.std.proofs.Common.{arith}
use Rattle.steps.proofs.Reversing.{walk_linked}
use Rattle.steps.proofs.Routing.{total_fits}
use Rattle.rules.proofs.Trips.{query_few_steps}
use Rattle.steps.proofs.trip.Trip.route.Goals as goal

pub overflow_add-total : goal.overflow_add-total
overflow_add-total c =
    rw (c.first_distance.ensures, c.start_arrival-from.ensures)
    (omega (arith, total_fits c.args.labels.now c.requires.ready.sound c.requires.one_each c.requires.shortest c.requires.label))

pub count_reversals-reversals-requires-clause-few : goal.count_reversals-reversals-requires-clause-few
count_reversals-reversals-requires-clause-few c = omega (arith, query_few_steps c.requires.ready.sound c.args.walk.now c.requires.shortest)

pub count_reversals-reversals-requires-clause-linked : goal.count_reversals-reversals-requires-clause-linked
count_reversals-reversals-requires-clause-linked c = rw c.start_arrival-from.ensures (walk_linked c.requires.shortest.walk)

pub overflow_cast-steps : goal.overflow_cast-steps
overflow_cast-steps c = omega (arith, query_few_steps c.requires.ready.sound c.args.walk.now c.requires.shortest)
