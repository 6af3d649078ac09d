-- What one, two and four bytes make.
-- Assumes nothing.
use Rattle.std.proofs.Common.{◌≡◌, ℕ, List, [], ◌∷◌, length, ◌+◌, ◌*◌, ◌≤◌, get_or, suc, drop-cons, arith}
use Rattle.rules.specs.YardFile.{number, size}

pub of_one : (s : List ℕ) → length s ≡ 1 → number s ≡ get_or s 0 0
unfolding number
of_one [] h = absurd (omega arith)
of_one (a ∷ []) h = omega arith
of_one (a ∷ (b ∷ s)) h = absurd (omega arith)

pub of_two : (s : List ℕ) → length s ≡ 2 → number s ≡ get_or s 0 0 * 256 + get_or s 1 0
unfolding number
of_two [] h = absurd (omega arith)
of_two (a ∷ []) h = absurd (omega arith)
of_two (a ∷ (b ∷ [])) h = omega arith
of_two (a ∷ (b ∷ (c ∷ s))) h = absurd (omega arith)

pub of_four : (s : List ℕ) → length s ≡ 4
    → number s ≡ get_or s 0 0 * 16777216 + get_or s 1 0 * 65536 + get_or s 2 0 * 256 + get_or s 3 0
unfolding number
of_four [] h = absurd (omega arith)
of_four (a ∷ []) h = absurd (omega arith)
of_four (a ∷ (b ∷ [])) h = absurd (omega arith)
of_four (a ∷ (b ∷ (c ∷ []))) h = absurd (omega arith)
of_four (a ∷ (b ∷ (c ∷ (d ∷ [])))) h = omega arith
of_four (a ∷ (b ∷ (c ∷ (d ∷ (e ∷ s))))) h = absurd (omega arith)

-- the length that a field gives
pub size_by : (s : List ℕ) (p : ℕ) → p + 3 ≤ length s → size s p ≡ get_or s (p + 1) 0 * 256 + get_or s (p + 2) 0
unfolding number
size_by s p h =
    let e : p + 2 ≡ suc (p + 1) = omega arith in
    rw (drop-cons s (p + 1) 0 (omega arith), drop-cons s (suc (p + 1)) 0 (omega arith), e) (omega arith)
