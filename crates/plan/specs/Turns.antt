-- Forbidden turns: the two halves of their rule, and what is known where it has passed.
-- Assumes nothing.
use Rattle.std.specs.Prelude.{Bool, not, ◌&&◌, ◌||◌, List, ℕ, ◌≤◌, ◌<◌, eqb, ltb}
use Rattle.rules.specs.Plan.{Plan, plan_of, section_count, turn_count, end_A, end_B, connecting, touches, turn_point}

-- s and r are two different connecting sections
abbrev pub connecting_pair : Plan → ℕ → ℕ → Bool
connecting_pair y s r =
    ltb s (section_count y) && ltb r (section_count y) && not (eqb s r) && connecting y s && connecting y r

-- sections s and r share a point
abbrev pub share_point : Plan → ℕ → ℕ → Bool
share_point y s r = touches y r (end_A y s) || touches y r (end_B y s)

-- what refusals 1, 2 and 5 have seen to: there are at most 768 turns, each at a point
pub record Turned (ss ts : List ℕ) : Type 0 where
  pub few : turn_count (plan_of 0 ss ts) ≤ 768
  pub each : (t : ℕ) → t < turn_count (plan_of 0 ss ts) → turn_point (plan_of 0 ss ts) t < 768
