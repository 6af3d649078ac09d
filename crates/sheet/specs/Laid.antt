-- The rows of a trip and the table of a query: one row for each arrival, and what they list.
-- Assumes nothing.
use Rattle.std.specs.Prelude.{◌≡◌, List, ℕ, ◌<◌, length}
use Rattle.rules.specs.Plan.{arrivals}
use Rattle.rules.specs.Query.{Query, start_arrival, finish_room}
use Rattle.rules.specs.Trip.{Trip, trip_of}
use Rattle.rules.specs.declared.net.NetTable.{NetTable}
use Rattle.rules.specs.declared.net.Row.{Row}
use Rattle.rules.proofs.Trips.{SoundTrip}
use Rattle.steps.specs.StepTable.{StepTable, Ends}

-- the trip has an arrival for each row, and the rows list its steps
pub record Laid (t : Trip) (rows : List Row) : Type 0 where
  pub sound : SoundTrip t
  pub count : arrivals t.plan ≡ length rows
  pub steps : StepTable t rows

-- and they mark the arrivals at which its walks may end
pub record LaidOut (t : Trip) (rows : List Row) : Type 0 where
  pub laid : Laid t rows
  pub endings : Ends t rows

-- the rows are those of the query's trip, the room is its finish room, which is some, and the number is its start arrival
pub record Prepared (q : Query) (net : NetTable) (from : ℕ) : Type 0 where
  pub tables : LaidOut (trip_of q) net.rows.now
  pub room_of : net.room ≡ finish_room q
  pub some_room : 0 < net.room
  pub start_of : from ≡ start_arrival q
