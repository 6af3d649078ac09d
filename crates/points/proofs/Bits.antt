-- One bit of a word, as the code finds it and as two words together have it.
-- Assumes nothing.
use mathlib.Core.Path.{◌≡◌, refl}
use mathlib.Core.Bool.{◌||◌}
use Prim.Native.Nat.{ℕ, zero, suc, ◌/◌, ◌%◌, ◌^◌, ◌<◌, max}
use native.Mathlib.Omega.{arith}
use native.Mathlib.Decide.{dec_lt}
use lib.Dec.{T, eqb}
use lib.Bits.{bit_and, bit_or, and_mask}
use Rattle.std.specs.Int.{bit_at}
use Rattle.std.proofs.lemmas.Nat.Bits.{shr_and_one, bit_at_or, bit_at-lt, bit_at_above, same_from_bits}
use Rattle.rules.proofs.Tests.{T_or_left}

-- the bit of a point, shifted down and cut off
pub shifted_down : (w p : ℕ) → bit_and (w / 2 ^ bit_and p 31) 1 ≡ bit_at w (p % 32)
shifted_down w p = rw (and_mask p 5) (shr_and_one w (p % 32))

-- one of two bits is put
either : (x y : ℕ) → x < 2 → y < 2 → eqb (max x y) 1 ≡ (eqb x 1 || eqb y 1)
either zero zero l h = refl
either zero (suc zero) l h = refl
either (suc zero) zero l h = refl
either (suc zero) (suc zero) l h = refl
either zero (suc (suc y)) l h = absurd (omega arith)
either (suc zero) (suc (suc y)) l h = absurd (omega arith)
either (suc (suc x)) y l h = absurd (omega arith)

-- a bit of two words together is put where it is put in one of them
pub either_put : (x y b : ℕ) → eqb (bit_at (bit_or x y) b) 1 ≡ (eqb (bit_at x b) 1 || eqb (bit_at y b) 1)
either_put x y b = rw (bit_at_or x y b) (either (bit_at x b) (bit_at y b) (bit_at-lt x b) (bit_at-lt y b))

-- a word that adds nothing to another has no bit of its own
pub adds_none : (x y b : ℕ) → bit_or x y ≡ y → T (eqb (bit_at x b) 1) → T (eqb (bit_at y b) 1)
adds_none x y b e t = let h = rw e at (either_put x y b) in rw h (T_or_left (eqb (bit_at x b) 1) (eqb (bit_at y b) 1) t)

-- and one that has none of its own adds nothing
covered : (x y : ℕ) → x < 2 → y < 2 → (T (eqb x 1) → T (eqb y 1)) → max x y ≡ y
covered zero y l h f = omega arith
covered (suc zero) zero l h f = absurd (f tt)
covered (suc zero) (suc y) l h f = omega arith
covered (suc (suc x)) y l h f = absurd (omega arith)

pub adds_nothing : (x y : ℕ) → x < 2 ^ 32 → ((b : ℕ) → b < 32 → T (eqb (bit_at x b) 1) → T (eqb (bit_at y b) 1)) → bit_or x y ≡ y
adds_nothing x y l f = same_from_bits (bit_or x y) y (λ b. rw (bit_at_or x y b) (go b (dec_lt b 32)))
  where
    go : (b : ℕ) → Dec (b < 32) → max (bit_at x b) (bit_at y b) ≡ bit_at y b
    go b (yes low) = covered (bit_at x b) (bit_at y b) (bit_at-lt x b) (bit_at-lt y b) (f b low)
    go b (no high) = let none : bit_at x b ≡ 0 = bit_at_above x 32 b l (omega arith) in omega arith
