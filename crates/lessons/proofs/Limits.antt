-- What a limit tells a try, and that it holds with more reasons, for more length and for fewer lists.
-- Assumes nothing.
use mathlib.Core.Bool.{Bool}
use mathlib.Core.List.{List}
use Prim.Native.Nat.{ℕ, ◌≤◌}
use native.Mathlib.Omega.{arith}
use Rattle.rules.specs.Plan.{plan_of}
use Rattle.rules.specs.PullOut.{any_section}
use Rattle.rules.proofs.Ways.{may_use, Way}
use Rattle.points.specs.Points.{Among}
use Rattle.lessons.specs.Limit.{Limit, Hopeless}

module _ {ss ts : List ℕ} {c s h p : ℕ} where
  pub looser : {Kind Few : List ℕ → Type 0} {why more : ℕ → Bool} {m n : ℕ} → ((qs : List ℕ) → Few qs → Kind qs) → Among why more → m ≤ n
      → Limit ss ts c s h p Kind why m → Limit ss ts c s h p Few more n
  looser f a l u = record { limit = λ r marks qs b k w. omega (arith, u.limit r marks qs (λ i t. b i (a i t)) (f qs k) w) }

  -- there is no list for a try that is hopeless
  pub in_vain : {Kind : List ℕ → Type 0} {marks why : ℕ → Bool} {left most : ℕ} → Hopeless ss ts c s h p Kind marks left why most
      → (qs : List ℕ) → Kind qs → Way (plan_of 0 ss ts) (may_use any_section c s) left h p marks qs → ⊥
  in_vain {marks = marks} {left = left} u qs k w = omega (arith, u.less, u.limit.limit left marks qs u.met k w)
