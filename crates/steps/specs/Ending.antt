-- Whether a walk may end at one arrival.
-- Assumes nothing.
use Rattle.std.specs.Prelude.{◌≡◌, ◌≢◌, Bool, true, false, List, ℕ}
use Rattle.rules.specs.Plan.{of_sections, to_point, sec}

-- a comes to the point goal, over another section than finish
pub record EndsThere (ss : List ℕ) (finish goal a : ℕ) : Type 0 where
  pub point : to_point (of_sections ss) a ≡ goal
  pub over : sec a ≢ finish

-- r is whether it does
pub data EndMark (ss : List ℕ) (finish goal a : ℕ) (r : Bool) : Type 0 where
  ends_there : r ≡ true → EndsThere ss finish goal a → EndMark ss finish goal a r
  elsewhere : r ≡ false → (EndsThere ss finish goal a → ⊥) → EndMark ss finish goal a r
