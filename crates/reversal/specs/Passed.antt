-- The points that a run has passed, as a list.
-- Assumes nothing.
use Rattle.std.specs.Prelude.{List, ℕ, take}
use Rattle.reversal.specs.declared.passed.Passed.{Passed}

-- in the order in which it passed them
abbrev pub points_of : Passed → List ℕ
points_of y = take y.count y.points
