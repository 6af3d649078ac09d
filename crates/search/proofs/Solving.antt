-- The labels of a table and the walk over it solve the query whose steps the table lists (`solved_query`).
-- Assumes nothing.
use Rattle.std.proofs.Common.{◌≡◌, ℕ, List, [], ◌∷◌, Option, None, Some, ◌∙◌, arith, ◌≤◌, length}
use lib.ListN.{take, replicate, get_or-replicate, length-replicate}
use lib.Seq.{get_or-take, length-take-le}
use Rattle.rules.specs.Plan.{arrivals}
use Rattle.rules.specs.Query.{Query, start_arrival, finish_room}
use Rattle.rules.specs.Net.{no_distance, Net, here, onward, NoWalk, no_walk}
use Rattle.rules.specs.Trip.{Finish, trip_of}
use Rattle.rules.specs.declared.net.NetTable.{NetTable}
use Rattle.rules.proofs.Alike.{Within, same_remaining, same_first}
use Rattle.rules.proofs.Sound.{Sound}
use Rattle.rules.proofs.Trips.{sound_trip}
use Rattle.distance.specs.Table.{table_net, Table}
use Rattle.distance.specs.Answer.{Labels}
use Rattle.steps.specs.Listing.{Listing}
use Rattle.search.specs.Solved.{SolvedOver, Solvable, Solved}
use Rattle.search.proofs.StepNet.{table_to_trip, trip_to_table, trip_table}

module _ {M N : Net} (to : Within M N) (back : Within N M) where
  same_labels : {n : ℕ} {labels : List ℕ} → Labels M n labels → Labels N n labels
  same_labels L = record { long = L.long; exact = record { right = λ a i. same_remaining to back (L.exact.right a i) } }

  -- what solves a net solves each one alike
  solved_alike : {n a : ℕ} {labels walk : List ℕ} (r : Option ℕ) → SolvedOver M n a labels walk r → SolvedOver N n a labels walk r
  solved_alike None s = record { known = same_labels s.known; chosen = s.chosen }
  solved_alike (Some steps) s =
      record { known = same_labels s.known; chosen = record { number = s.chosen.number; fits = s.chosen.fits; first = same_first to back s.chosen.first } }

-- fresh lists, of the labels as many as there are arrivals
pub fresh_lent : {q : Query} (labels walk : List ℕ) → Sound q → length labels ≡ arrivals q.plan → 2048 ≤ length walk
    → Solvable q (take (length labels) (replicate 2048 no_distance)) walk
fresh_lent {q} labels walk S e l = record {
  one_each = length-take-le (length labels) (replicate 2048 no_distance) (omega (arith, S.plan.few_sections, length-replicate 2048 no_distance)) ∙ e;
  blank = record {
    none = λ a i.
        get_or-take (length labels) (replicate 2048 no_distance) a no_distance (omega arith) ∙ get_or-replicate 2048 a no_distance no_distance (omega (arith, S.plan.few_sections));
  };
  walk_fits = omega (arith, S.plan.few_sections);
}

-- where no walk can end, there is none
nowhere : {N : Net} → ((a : ℕ) → N.Finish a → ⊥) → (a : ℕ) → NoWalk N a
nowhere none a [] (here f) = none a f
nowhere none a (b ∷ bs) (onward s w) = nowhere none b bs w

pub nothing_solved : {q : Query} {labels walk : List ℕ} → Sound q → ((a : ℕ) → Finish (trip_of q) a → ⊥) → Solvable q labels walk
    → Solved q labels walk None
nothing_solved {q} S none lent = record {
  known = record { long = lent.one_each; exact = record { right = λ a l. no_walk (lent.blank.none a l) (nowhere none a) } };
  chosen = lent.blank.none (start_arrival q) (omega (arith, S.start));
}

module _ {q : Query} (S : Sound q) (net : NetTable) (L : Listing q net.rows.now) (sized : length net.rows.now ≡ arrivals q.plan) (room : net.room ≡ finish_room q) where
  -- the table is fit for distances over it
  pub listing_table : Table net
  listing_table = trip_table (sound_trip S) net sized room L.steps L.endings

  pub solved_query : {a : ℕ} {labels walk : List ℕ} {r : Option ℕ} → a ≡ start_arrival q → SolvedOver (table_net net) (length net.rows.now) a labels walk r
      → Solved q labels walk r
  solved_query {r = r} from s =
      solved_alike (table_to_trip (sound_trip S) net sized room L.steps L.endings) (trip_to_table (sound_trip S) net sized room L.steps L.endings) r (rw (sized, from) at s)
