-- What the inner functions of the search hand on: labels and a walk.
-- Assumes nothing.
use Rattle.std.specs.Prelude.{◌≡◌, List, ℕ, ◌≤◌, ◌<◌, length, get_or, take, Option, MatchOption}
use Rattle.rules.specs.Plan.{arrivals}
use Rattle.rules.specs.Query.{Query, start_arrival}
use Rattle.rules.specs.Net.{no_distance, Net, FirstShortest}
use Rattle.rules.specs.Trip.{query_net}
use Rattle.distance.specs.Labels.{Blank}
use Rattle.distance.specs.Answer.{Labels}

-- the label of the arrival a is the number v, and the first steps of the list are the first shortest walk from a
pub record Chosen (N : Net) (a v : ℕ) (walk : List ℕ) (steps : ℕ) : Type 0 where
  pub number : v < no_distance
  pub fits : steps ≤ length walk
  pub first : FirstShortest N a (take steps walk)

-- all labels, and the walk from the arrival a, unless its label is "none"
pub record SolvedOver (N : Net) (n a : ℕ) (labels walk : List ℕ) (r : Option ℕ) : Type 0 where
  pub known : Labels N n labels
  pub chosen : MatchOption r (get_or labels a no_distance ≡ no_distance) (λ steps. Chosen N a (get_or labels a no_distance) walk steps)

-- what is asked of the lent lists before a query is solved: a label for each arrival, all "none", and room for any walk
pub record Solvable (q : Query) (known walk : List ℕ) : Type 0 where
  pub one_each : length known ≡ arrivals q.plan
  pub blank : Blank (arrivals q.plan) known
  pub walk_fits : arrivals q.plan ≤ length walk

-- all labels of a query, and the walk from its start
abbrev pub Solved : Query → List ℕ → List ℕ → Option ℕ → Type 0
Solved q labels walk r = SolvedOver (query_net q) (arrivals q.plan) (start_arrival q) labels walk r
