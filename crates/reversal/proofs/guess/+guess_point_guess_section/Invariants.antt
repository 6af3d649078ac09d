-- The guesses at the slots before e's have missed. The measure of a section's guess is twice the budget, that of a point's guess one more: a point
-- hands on what it has left, a section one less.
-- Assumes nothing.
use Rattle.std.proofs.Common.{◌+◌}
use Rattle.reversal.specs.Glanced.{TakesFrom}
use Rattle.reversal.proofs.Guessing.{MissedTo}
use Rattle.reversal.proofs.guess.+guess_point_guess_section.Given as goal

abbrev pub decreases-guess_point : goal.decreases-guess_point
decreases-guess_point l = l.budget + l.budget + 1

abbrev pub decreases-guess_section : goal.decreases-guess_section
decreases-guess_section l = l.budget + l.budget

abbrev pub invariant-guess_point-loop-e : goal.invariant-guess_point-loop-e
invariant-guess_point-loop-e l = MissedTo (TakesFrom l.serving l.from) l.serving.yard.now.slots.now l.from.at l.budget l.left l.e-index
