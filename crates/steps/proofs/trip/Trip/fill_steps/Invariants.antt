-- The rows of the arrivals before a are written, and the ends are as they were.
-- Assumes nothing.
use Rattle.steps.specs.StepOver.{rules_trip}
use Rattle.steps.proofs.Filling.{Written}
use Rattle.steps.proofs.trip.Trip.fill_steps.Given as goal

abbrev pub invariant-loop-a : goal.invariant-loop-a
invariant-loop-a l = Written (rules_trip l.self) l.initial.rows l.rows l.a
