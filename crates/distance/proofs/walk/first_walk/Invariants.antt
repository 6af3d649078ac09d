-- `walk::first_walk` meets its contract. The loop's invariant: what is written leads to the arrival a, and whatever follows from there
-- follows from the start. The measure is the label of a.
-- Assumes nothing.
use lib.ListN.{get_or}
use Rattle.rules.specs.Net.{no_distance}
use Rattle.distance.specs.Table.{table_net}
use Rattle.distance.proofs.Following.{Going}
use Rattle.distance.proofs.walk.first_walk.Given as goal

abbrev pub invariant-loop-a : goal.invariant-loop-a
invariant-loop-a l = Going (table_net l.net) l.labels l.from l.initial.walk l.walk l.a l.k

abbrev pub decreases-loop-a : goal.decreases-loop-a
decreases-loop-a l = get_or l.labels l.a no_distance
