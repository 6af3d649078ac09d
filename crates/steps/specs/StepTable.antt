-- The steps of a trip as rows, one for each arrival. A step that leads to "none" is none.
-- Assumes nothing.
use Rattle.std.specs.Prelude.{◌≡◌, ◌≢◌, true, false, List, ℕ, ◌<◌}
use Rattle.rules.specs.Plan.{arrivals, sec}
use Rattle.rules.specs.Net.{no_distance}
use Rattle.rules.specs.declared.net.Row.{Row}
use Rattle.rules.specs.declared.net.Step as rows
use Rattle.rules.specs.Rows.{row_at, StepOf}
use Rattle.rules.specs.Trip.{Trip, Step, cost, Finish}

-- what stands in a row of a is an admissible step, with its cost
pub record Entry (t : Trip) (a : ℕ) (s : rows.Step) : Type 0 where
  pub step : Step t a s.next
  pub cost_of : s.cost ≡ cost t a s.next

-- one of the two steps in the row of a leads to b
pub record Place (table : List Row) (a b : ℕ) : Type 0 where
  pub step : rows.Step
  pub place : StepOf table a step
  pub leads : step.next ≡ b

-- the rows list the admissible steps and nothing else, those of an arrival in the order of their sections
pub record StepTable (t : Trip) (table : List Row) : Type 0 where
  pub each : (a : ℕ) (s : rows.Step) → a < arrivals t.plan → StepOf table a s → s.next ≢ no_distance → Entry t a s
  pub every : (a b : ℕ) → Step t a b → Place table a b
  pub ascending : (a : ℕ) → a < arrivals t.plan → (row_at table a).first.next ≢ no_distance
      → (row_at table a).second.next ≢ no_distance → sec (row_at table a).first.next < sec (row_at table a).second.next

-- whether a walk may end at a is what stands there
pub data EndAt (t : Trip) (table : List Row) (a : ℕ) : Type 0 where
  may_end : (row_at table a).ends ≡ true → Finish t a → EndAt t table a
  goes_on : (row_at table a).ends ≡ false → (Finish t a → ⊥) → EndAt t table a

-- the rows mark the arrivals at which a walk may end
pub record Ends (t : Trip) (table : List Row) : Type 0 where
  pub at : (a : ℕ) → a < arrivals t.plan → EndAt t table a

-- a walk may end by the one table where it may by the other
pub record SameEnds (before after : List Row) : Type 0 where
  pub same : (a : ℕ) → (row_at after a).ends ≡ (row_at before a).ends

-- the steps in the one table are those in the other
pub record SameSteps (before after : List Row) : Type 0 where
  pub first : (a : ℕ) → (row_at after a).first ≡ (row_at before a).first
  pub second : (a : ℕ) → (row_at after a).second ≡ (row_at before a).second
