-- How many bytes a number may have.
-- Assumes nothing.
use Rattle.std.specs.Prelude.{◌≡◌, ℕ}

-- 1, 2 or 4: what is neither of the first two is the third
abbrev pub Width : ℕ → Type 0
Width w = (w ≡ 1 → ⊥) → (w ≡ 2 → ⊥) → w ≡ 4
