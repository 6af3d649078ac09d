-- Lists of labels: a store changes the sum by as much as it changes the number.
-- Assumes nothing.
use mathlib.Core.Path.{◌≡◌}
use mathlib.Core.List.{List, [], ◌∷◌}
use Prim.Native.Nat.{ℕ, zero, suc, ◌+◌, ◌<◌}
use native.Mathlib.Nat.{le_of_suc-le-suc, not-suc-le-zero}
use native.Mathlib.Omega.{arith}
use lib.ListN.{length, get_or, set}
use Rattle.distance.specs.Labels.{label_sum}

pub sum_set : (l : List ℕ) (i v d : ℕ) → i < length l → label_sum (set l i v) + get_or l i d ≡ label_sum l + v
unfolding label_sum
sum_set [] i v d h = absurd (not-suc-le-zero h)
sum_set (x ∷ xs) zero v d h = omega arith
sum_set (x ∷ xs) (suc i) v d h = omega (arith, sum_set xs i v d (le_of_suc-le-suc h))
