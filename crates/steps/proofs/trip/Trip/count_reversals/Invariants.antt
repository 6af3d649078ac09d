-- What was found, with the reversals of the arrivals that are left, are those of the walk.
-- Assumes nothing.
use Rattle.rules.specs.Trip.{trip_of}
use Rattle.train.specs.Asked.{query_lent}
use Rattle.steps.proofs.Reversing.{Tallied}
use Rattle.steps.proofs.trip.Trip.count_reversals.Given as goal

abbrev pub invariant-loop-b : goal.invariant-loop-b
invariant-loop-b l = Tallied (trip_of (query_lent l.self.query)) l.from l.walk l.found l.a l.b-index
