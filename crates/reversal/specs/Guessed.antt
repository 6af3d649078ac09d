-- What a guess tells: what it does not find is not there. What it finds is for another to check: nothing is said of that.
-- Assumes nothing.
use Rattle.std.specs.Prelude.{List, ℕ, ◌≤◌, Option, None, Some}

-- a guess at a list with the property P has r left of its budget, and there is no such list
pub record Missed (P : List ℕ → Type 0) (budget r : ℕ) : Type 0 where
  pub within : r ≤ budget
  pub nothing : (qs : List ℕ) → P qs → ⊥

-- a guess answers what it has left where it has missed; where it has ended it says nothing
abbrev pub Guessed : (List ℕ → Type 0) → ℕ → Option ℕ → Type 0
Guessed P budget None = Unit {0}
Guessed P budget (Some r) = Missed P budget r
