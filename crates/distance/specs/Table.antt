-- A table of steps, the net that it is, and what is asked of it. It knows nothing of trains: how the table of a query is made is the
-- business of the crate steps.
-- The table has a row for each arrival: its two steps, of which each may be none, and whether a walk may end there.
-- Assumes nothing.
use Rattle.std.specs.Prelude.{◌≡◌, true, cond, List, ℕ, ◌≤◌, ◌<◌, eqb, length}
use Rattle.rules.specs.declared.net.NetTable.{NetTable}
use Rattle.rules.specs.declared.net.Row.{Row}
use Rattle.rules.specs.declared.net.Step.{Step}
use Rattle.rules.specs.Rows.{row_at, StepOf}
use Rattle.rules.specs.Plan.{sec}
use Rattle.rules.specs.Net.{Net}

-- one of the two steps of a leads to b
pub record Listed (rows : List Row) (a b : ℕ) : Type 0 where
  pub from : a < length rows
  pub to : b < length rows
  pub step : Step
  pub place : StepOf rows a step
  pub leads : step.next ≡ b

-- a walk may end at a
pub record Ending (rows : List Row) (a : ℕ) : Type 0 where
  pub inside : a < length rows
  pub marked : (row_at rows a).ends ≡ true

-- what the table says that the step from a to b costs
abbrev pub listed_cost : List Row → ℕ → ℕ → ℕ
listed_cost rows a b = cond (eqb (row_at rows a).first.next b) (row_at rows a).first.cost (row_at rows a).second.cost

-- the table as a net
abbrev pub table_net : NetTable → Net
table_net t = record { Step = Listed t.rows.now; cost = listed_cost t.rows.now; Finish = Ending t.rows.now; room = t.room }

-- what is asked of a table: its size, the costs of its steps, the room, and that the two steps of an arrival stand in the order of
-- their sections
pub record Table (t : NetTable) : Type 0 where
  pub few : length t.rows.now ≤ 2048
  pub costs : (a : ℕ) (s : Step) → a < length t.rows.now → StepOf t.rows.now a s → s.next < length t.rows.now → (1 ≤ s.cost) × (s.cost ≤ 220000)
  pub room_small : t.room ≤ 200000
  pub ascending : (a : ℕ) → a < length t.rows.now → (row_at t.rows.now a).first.next < length t.rows.now
      → (row_at t.rows.now a).second.next < length t.rows.now
      → sec (row_at t.rows.now a).first.next < sec (row_at t.rows.now a).second.next
