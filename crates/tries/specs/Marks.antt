-- The marks of a try, point by point: how it begins, and how it goes on.
-- Assumes nothing.
use Rattle.std.specs.Prelude.{◌≡◌, Bool, not, ℕ, ◌+◌, ◌-◌, ◌<◌}
use Rattle.rules.specs.Ranges.{count_of}
use Rattle.rules.proofs.Ways.{only, mark}
use Rattle.points.specs.Points.{member}
use Rattle.tries.specs.declared.marks.Try.{Try}

-- the try has passed point k
abbrev pub marked : Try → ℕ → Bool
marked t k = member t.marks k

-- how many of the 768 points have no mark
unfoldable pub unmarked : Try → ℕ
unmarked t = count_of (λ k. not (marked t k)) 0 768

-- the try r begins at point p, with the length n to take
pub record Begun (p n : ℕ) (r : Try) : Type 0 where
  pub left : r.left ≡ n
  pub marks : (k : ℕ) → marked r k ≡ only p k
  pub fewer : unmarked r < 768

-- the try r goes on from t past point q, over a section of length n
pub record Past (t : Try) (q n : ℕ) (r : Try) : Type 0 where
  pub left : r.left ≡ t.left - n
  pub marks : (k : ℕ) → marked r k ≡ mark q (marked t) k
  pub fewer : unmarked t ≡ unmarked r + 1
