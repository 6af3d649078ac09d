-- What the two entries of this crate answer.
-- Assumes nothing.
use Rattle.std.specs.Prelude.{◌≡◌, List, ◌++◌, ℕ, ◌≤◌, ◌<◌, length, get_or, drop}
use Rattle.rules.specs.Net.{no_distance, Net, distance, FirstShortest, Remaining}

-- the labels of the n arrivals are their remaining distances
pub record Exact (N : Net) (n : ℕ) (labels : List ℕ) : Type 0 where
  pub right : (a : ℕ) → a < n → Remaining N a (get_or labels a no_distance)

-- there are n labels, each the remaining distance of its arrival
pub record Labels (N : Net) (n : ℕ) (labels : List ℕ) : Type 0 where
  pub long : length labels ≡ n
  pub exact : Exact N n labels

-- the first shortest walk from a, m steps long, was put into the front of the lent list; v is its distance
pub record Written (N : Net) (a v : ℕ) (entry : List ℕ) (m : ℕ) (exit : List ℕ) : Type 0 where
  pub walk : List ℕ
  pub first : FirstShortest N a walk
  pub length_of : m ≡ length walk
  pub fits : m ≤ length entry
  pub distance_of : v ≡ distance N a walk
  pub front : exit ≡ walk ++ drop m entry
