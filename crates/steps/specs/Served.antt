-- Which forbidden turns a pull-out serves. A pull-out serves a turn both ways or neither, so one answer stands for both.
-- Assumes nothing.
use Rattle.std.specs.Prelude.{◌≡◌, ◌⊎◌, Bool, true, false, List, ℕ, T, get_or}
use Rattle.rules.specs.Plan.{Plan, turn_section, turn_point}
use Rattle.rules.specs.PullOut.{PullOut, NoPullOut, any_section}
use Rattle.rules.proofs.PullSwap.{Barred}

-- r says whether a pull-out serves turn t. Of a turn with no section that a step may enter nothing else is asked
pub record TurnServed (y : Plan) (may : ℕ → Bool) (need t : ℕ) (r : Bool) : Type 0 where
  pub served : r ≡ true → (qs : List ℕ) × PullOut y any_section need (turn_section y t 0) (turn_point y t) (turn_section y t 1) qs
  pub unserved : r ≡ false → T (may (turn_section y t 0)) ⊎ T (may (turn_section y t 1))
      → NoPullOut y any_section need (turn_section y t 0) (turn_point y t) (turn_section y t 1)

-- the table says at each point whether its turn is served, as far as a step may use that turn
pub record Served (y : Plan) (may : ℕ → Bool) (need : ℕ) (table : List Bool) : Type 0 where
  pub served : (c p s : ℕ) → Barred y c p s → get_or table p false ≡ true → (qs : List ℕ) × PullOut y any_section need c p s qs
  pub unserved : (c p s : ℕ) → Barred y c p s → T (may s) → get_or table p false ≡ false → NoPullOut y any_section need c p s
