-- Tests over a range of numbers, and lists without repetition: the vocabulary in which the rules count, look and compare.
-- Assumes nothing.
use Rattle.std.specs.Prelude.{Bool, true, false, ◌&&◌, ℕ, zero, suc, leb}
use mathlib.Core.List.{List, [], ◌∷◌, Memᴰ}

-- low ≤ n ≤ high
abbrev pub between : ℕ → ℕ → ℕ → Bool
between low n high = leb low n && leb n high

-- the test holds at each of the m numbers from i on
abbrev pub every : (ℕ → Bool) → ℕ → ℕ → Bool
every f i zero = true
every f i (suc m) = elim (f i) [ true ↦ every f (suc i) m | false ↦ false ]

-- the test holds at one of the m numbers from i on
abbrev pub some_of : (ℕ → Bool) → ℕ → ℕ → Bool
some_of f i zero = false
some_of f i (suc m) = elim (f i) [ true ↦ true | false ↦ some_of f (suc i) m ]

-- the lowest of the m numbers from i on at which the test holds, or i + m
abbrev pub first_where : (ℕ → Bool) → ℕ → ℕ → ℕ
first_where f i zero = i
first_where f i (suc m) = elim (f i) [ true ↦ i | false ↦ first_where f (suc i) m ]

-- at how many of the m numbers from i on the test holds
abbrev pub count_of : (ℕ → Bool) → ℕ → ℕ → ℕ
count_of f i zero = zero
count_of f i (suc m) = elim (f i) [ true ↦ suc (count_of f (suc i) m) | false ↦ count_of f (suc i) m ]

-- no number occurs twice in the list
pub data Distinct : List ℕ → Type 0 where
  nil : Distinct []
  cons : {x : ℕ} {xs : List ℕ} → (Memᴰ x xs → ⊥) → Distinct xs → Distinct (x ∷ xs)
