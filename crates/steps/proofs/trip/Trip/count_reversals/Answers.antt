use Rattle.steps.proofs.Reversing.{next_link, tallied_more}
use Rattle.steps.proofs.trip.Trip.count_reversals.Goals as goal

pub reverses-requires-clause-link : goal.reverses-requires-clause-link
reverses-requires-clause-link c = next_link c.loop-b.invariant c.loop-b-test.true

pub loop-b-preserved : goal.loop-b-preserved
loop-b-preserved c = tallied_more c.loop-b.invariant c.loop-b-test.true (rw c.reverses.ensures at c.from-reversal.ensures)
