-- Sets of points: which points are in a set, and which points words keep. No contract of another crate speaks of a set but through `member`,
-- and of its words but through `kept`.
-- Assumes nothing.
use Rattle.std.specs.Prelude.{◌≡◌, Bool, false, not, ◌&&◌, ◌||◌, List, ℕ, ◌/◌, ◌%◌, ◌≤◌, ◌<◌, T, eqb, length, take, get_or}
use Rattle.std.specs.Int.{bit_at}
use Rattle.rules.proofs.Ways.{mark}
use Rattle.points.specs.declared.Points.{Points}

-- words keep the point k: bit k % 32 of word k / 32 is put; past the last word there is none
unfoldable pub kept : List ℕ → ℕ → Bool
kept ws k = eqb (bit_at (get_or ws (k / 32) 0) (k % 32)) 1

-- the point k is in the set
unfoldable pub member : Points → ℕ → Bool
member s k = kept s.words k

-- no point is in the set
pub record Empty (s : Points) : Type 0 where
  pub members : (k : ℕ) → member s k ≡ false

-- the set r has the points of s, and p
pub record Put (s : Points) (p : ℕ) (r : Points) : Type 0 where
  pub members : (k : ℕ) → member r k ≡ mark p (member s) k

-- every point of the one set is in the other
abbrev pub Among : (ℕ → Bool) → (ℕ → Bool) → Type 0
Among f g = (k : ℕ) → T (f k) → T (g k)

-- the set r has the points of s but p
pub record Taken (s : Points) (p : ℕ) (r : Points) : Type 0 where
  pub members : (k : ℕ) → member r k ≡ (not (eqb k p) && member s k)

-- the set r has the points of s and those of u
pub record Added (s u r : Points) : Type 0 where
  pub members : (k : ℕ) → member r k ≡ (member s k || member u k)

-- all points of the set lie in its first n words
pub record Narrow (s : Points) (n : ℕ) : Type 0 where
  pub low : n ≤ 24
  pub members : (k : ℕ) → T (member s k) → k / 32 < n

-- the set r has the points that these words keep
pub record Loaded (ws : List ℕ) (r : Points) : Type 0 where
  pub members : (k : ℕ) → member r k ≡ kept ws k

-- a place of as many words as b is filled with the first words of the set s, and is m then
pub record Saved (s : Points) (b m : List ℕ) : Type 0 where
  pub words : m ≡ take (length b) s.words
