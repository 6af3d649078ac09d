-- The ends of an arrival's section: the point to which the arrival comes, and the point where a step to it begins.
-- Assumes nothing.
use mathlib.Core.Path.{◌≡◌, refl}
use mathlib.Core.List.{List}
use Prim.Native.Nat.{ℕ, ◌-◌, ◌/◌, ◌%◌, ◌<◌}
use native.Mathlib.Omega.{arith}
use lib.Dec.{T}
use Rattle.rules.specs.Plan.{of_sections, end_A, end_B, end_at, touches, arrivals, to_point, from_point}
use Rattle.rules.proofs.Sound.{at_both_ends}
use Rattle.plan.proofs.Touching.{touch_A, touch_B}
use Rattle.turns.specs.Tables.{Passes, Arrived}
use Rattle.turns.proofs.Entering.{arrived_low}
use Rattle.turns.proofs.Entering.{comes}

-- p is the point to which a comes, as it was read
module _ {ss : List ℕ} (a : ℕ) {p : ℕ} (l : a < arrivals (of_sections ss)) (i : p ≡ to_point (of_sections ss) a) where
  pub comes_there : Arrived ss (a / 2) p
  comes_there = rw i (comes ss a (omega arith))

  pub point_low : {ts : List ℕ} → Passes ss ts → p < 768
  point_low ok = arrived_low ok comes_there

pub begins_there : (ss : List ℕ) (b : ℕ) → b < arrivals (of_sections ss) → Arrived ss (b / 2) (from_point (of_sections ss) b)
begins_there ss b l =
    record {
      inside = omega arith;
      touch = at_both_ends (λ e. T (touches (of_sections ss) (b / 2) (end_at (of_sections ss) (b / 2) e)))
          (touch_A ss (b / 2) (end_A (of_sections ss) (b / 2)) refl) (touch_B ss (b / 2) (end_B (of_sections ss) (b / 2)) refl) (1 - b % 2) (omega arith);
    }
