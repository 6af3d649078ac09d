-- All the rows of a query, and what is known of a trip that is handed down.
-- Assumes nothing.
use Rattle.std.specs.Prelude.{List, ◌≤◌, length}
use Rattle.rules.specs.Plan.{arrivals}
use Rattle.rules.specs.Query.{Query}
use Rattle.rules.specs.Trip.{trip_of}
use Rattle.rules.specs.declared.net.Row.{Row}
use Rattle.rules.proofs.Sound.{Sound}
use Rattle.train.specs.Asked.{query_lent}
use Rattle.turns.specs.Tables.{Tables}
use Rattle.steps.specs.StepTable.{StepTable, Ends}
use Rattle.steps.specs.declared.trip.Trip.{Trip}

-- a row for each arrival lists the query's steps and says where a walk may end
pub record Listing (q : Query) (table : List Row) : Type 0 where
  pub steps : StepTable (trip_of q) table
  pub endings : Ends (trip_of q) table
  pub long : arrivals q.plan ≤ length table

-- the query of a trip has passed its checks, and its tables are right
pub record Ready (t : Trip) : Type 0 where
  pub sound : Sound (query_lent t.query)
  pub tables : Tables t.query.plan.sections.now t.query.plan.turns.now t.slots.now t.turns.now
