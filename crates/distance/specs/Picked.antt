-- The arrival by which the first shortest walk goes on.
-- Assumes nothing.
use Rattle.std.specs.Prelude.{◌≡◌, ◌≢◌, List, ℕ, get_or}
use Rattle.rules.specs.declared.net.Row.{Row}
use Rattle.rules.specs.Net.{no_distance}
use Rattle.rules.specs.Rows.{row_at}
use Rattle.distance.specs.Labels.{offer}

-- the step to b is the first of a if that offers the label of a, and else the second
pub data Picked (rows : List Row) (labels : List ℕ) (a b : ℕ) : Type 0 where
  first : b ≡ (row_at rows a).first.next → offer (row_at rows a).first labels ≡ get_or labels a no_distance → Picked rows labels a b
  second : b ≡ (row_at rows a).second.next → offer (row_at rows a).first labels ≢ get_or labels a no_distance → Picked rows labels a b
