-- The total of a shortest walk is the first distance and the start's label, and fits (`total_there`, `total_fits`). And where refusals 1
-- to 11 do not apply to a query, its tables are right (`tables_right`), and a trip with them is ready (`ready`).
-- Assumes nothing.
use Rattle.std.proofs.Common.{◌≡◌, refl, ℕ, ◌+◌, ◌<◌, List, length, get_or, Option, arith}
use Rattle.rules.specs.Plan.{arrivals}
use Rattle.rules.specs.Query as rules
use Rattle.rules.specs.Query.{start_arrival, first_distance}
use Rattle.rules.specs.Net.{no_distance, distance, Shortest}
use Rattle.rules.specs.Trip.{query_net, total}
use Rattle.rules.proofs.Lists.{any_default}
use Rattle.rules.proofs.Sound.{Sound, sound}
use Rattle.rules.proofs.Trips.{start_inside, total_below}
use Rattle.train.specs.declared.Query.{Query}
use Rattle.train.specs.Asked.{query_lent, Accepted}
use Rattle.train.proofs.Refusing.{plan_accepted}
use Rattle.plan.specs.Ends.{Slots}
use Rattle.turns.specs.Tables.{TurnTable, Tables}
use Rattle.turns.specs.declared.yard.Turn.{Turn}
use Rattle.steps.specs.Listing.{Ready}
use Rattle.steps.specs.declared.trip.Trip.{Trip}

module _ {q : rules.Query} {walk : List ℕ} (labels : List ℕ) (S : Sound q) (long : length labels ≡ arrivals q.plan) (h : Shortest (query_net q) (start_arrival q) walk)
    (e : get_or labels (start_arrival q) no_distance ≡ distance (query_net q) (start_arrival q) walk) where
  pub total_there : first_distance q + get_or labels (start_arrival q) 0 ≡ total q walk
  total_there = rw (any_default labels (start_arrival q) 0 no_distance (omega (arith, start_inside S, long)), e) refl

  pub total_fits : first_distance q + get_or labels (start_arrival q) 0 < no_distance
  total_fits = omega (arith, total_there, total_below S walk h)

-- the tables of an accepted query are right
pub tables_right : (q : Query) (n : ℕ) {slots : List ℕ} {table : List (Option Turn)} → Accepted (query_lent q) n → Slots q.plan.sections.now slots
    → TurnTable q.plan.sections.now q.plan.turns.now table → Tables q.plan.sections.now q.plan.turns.now slots table
tables_right q n ok slotted turned = record {
  checked = record { points = q.plan.points; passes = plan_accepted (query_lent q) n ok };
  slotted = slotted;
  turned = turned;
}

-- and a trip with such tables is ready
pub ready : (t : Trip) (n : ℕ) → Accepted (query_lent t.query) n → Tables t.query.plan.sections.now t.query.plan.turns.now t.slots.now t.turns.now → Ready t
ready t n ok tables = record { sound = sound (query_lent t.query) n ok; tables = tables }
