-- Counting over a range that starts at 0: how the count goes up, and which number it has come to.
-- Assumes nothing.
use mathlib.Core.Path.{◌≡◌, refl}
use mathlib.Core.Bool.{Bool, true, false, cond}
use Prim.Native.Nat.{ℕ, zero, suc, ◌+◌, ◌-◌, ◌≤◌, ◌<◌}
use native.Mathlib.Omega.{arith}
use native.Mathlib.Decide.{dec_lt}
use native.Mathlib.Numerals.{add-one}
use lib.Dec.{T}
use Rattle.rules.specs.Ranges.{count_of}
use Rattle.rules.proofs.Ranges.{count_next, count_grows}

pub cond_T : (b : Bool) → T b → cond {A = ℕ} b 1 0 ≡ 1
cond_T true t = refl
cond_T false t = absurd t

-- a longer range counts no fewer
pub count_mono : (f : ℕ → Bool) (m n : ℕ) → m ≤ n → count_of f 0 m ≤ count_of f 0 n
count_mono f m n l = let z : m + (n - m) ≡ n = omega arith in rw z at (count_grows f m (n - m))

-- a number at which the test holds counts for every longer range
pub count_passes : (f : ℕ → Bool) (i n : ℕ) → i < n → T (f i) → count_of f 0 i < count_of f 0 n
count_passes f i n l t = omega (arith, count_mono f (i + 1) n (omega arith), count_next f i, cond_T (f i) t)

-- the number at which the test holds for the j-th time, counted from 0
pub record Counted (f : ℕ → Bool) (n j : ℕ) : Type 0 where
  pub number : ℕ
  pub low : number < n
  pub holds : T (f number)
  pub earlier : count_of f 0 number ≡ j

pub count_reaches : (f : ℕ → Bool) (n j : ℕ) → j < count_of f 0 n → Counted f n j
count_reaches f zero j l = absurd (omega arith)
count_reaches f (suc n) j l = go (f n) refl (rw (← (add-one n), count_next f n) at l) (dec_lt j (count_of f 0 n)) (λ h. count_reaches f n j h)
  where
    go : (b : Bool) → f n ≡ b → j < count_of f 0 n + cond (f n) 1 0 → Dec (j < count_of f 0 n) → (j < count_of f 0 n → Counted f n j) → Counted f (suc n) j
    go b e h (yes d) below = let r = below d in record { number = r.number; low = omega (arith, r.low); holds = r.holds; earlier = r.earlier }
    go true e h (no d) below = record { number = n; low = omega arith; holds = rw e tt; earlier = let g = rw e at h in omega arith }
    go false e h (no d) below = let g = rw e at h in absurd (omega arith)
