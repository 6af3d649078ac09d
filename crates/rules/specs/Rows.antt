-- The rows in which the steps of all arrivals stand.
-- Assumes nothing.
use Rattle.std.specs.Prelude.{◌≡◌, List, ℕ, get_or}
use Rattle.rules.specs.declared.net.Row.{Row}
use Rattle.rules.specs.declared.net.Step.{Step}
use Rattle.rules.specs.declared.net.TheConstants.Row.{NONE}

-- the row of a; past the table there is no step and no end
abbrev pub row_at : List Row → ℕ → Row
row_at rows a = get_or rows a NONE

-- the step s is one of the two in the row of a
pub data StepOf (rows : List Row) (a : ℕ) (s : Step) : Type 0 where
  first_of : s ≡ (row_at rows a).first → StepOf rows a s
  second_of : s ≡ (row_at rows a).second → StepOf rows a s
