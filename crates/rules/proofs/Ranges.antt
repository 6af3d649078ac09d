-- What the tests over a range say: some number, the first number, how many.
-- Assumes nothing.
use mathlib.Core.Path.{◌≡◌, refl, ◌∙◌}
use mathlib.Core.Logic.{◌⊎◌, inl, inr}
use mathlib.Core.Bool.{Bool, true, false, cond, not}
use mathlib.Core.List.{List, ◌∷◌, Memᴰ}
use Prim.Native.Nat.{ℕ, zero, suc, ◌+◌, ◌≤◌, ◌<◌}
use native.Mathlib.Nat.{eq-or-lt_of_le}
use native.Mathlib.Numerals.{add-one}
use native.Mathlib.Omega.{arith}
use native.Mathlib.Decide.{dec_lt}
use lib.Dec.{T}
use Rattle.rules.specs.Ranges.{every, some_of, first_where, count_of, Distinct, cons}
use Rattle.rules.proofs.Tests.{clash, fails}

pub distinct_head : {x : ℕ} {xs : List ℕ} → Distinct (x ∷ xs) → Memᴰ x xs → ⊥
distinct_head (cons f d) = f

pub distinct_tail : {x : ℕ} {xs : List ℕ} → Distinct (x ∷ xs) → Distinct xs
distinct_tail (cons f d) = d

pub every_T : (f : ℕ → Bool) (i m : ℕ) → T (every f i m) → (k : ℕ) → i ≤ k → k < i + m → T (f k)
every_T f i zero t k u v = absurd (omega arith)
every_T f i (suc m) t k u v = go (f i) refl t (λ s z. every_T f (suc i) m s k z (omega arith))
  where
    at_k : f i ≡ true → (i < k → T (f k)) → (i ≡ k) ⊎ (i < k) → T (f k)
    at_k e g (inl z) = rw (← z, e) tt
    at_k e g (inr z) = g z

    go : (o : Bool) → f i ≡ o → T (elim o [ true ↦ every f (suc i) m | false ↦ false ]) → (T (every f (suc i) m) → i < k → T (f k)) → T (f k)
    go true e s below = at_k e (below s) (eq-or-lt_of_le u)
    go false e s below = absurd s

pub some_T : (f : ℕ → Bool) (i m : ℕ) → T (some_of f i m) → (k : ℕ) × (k < i + m) × T (f k)
some_T f i zero t = absurd t
some_T f i (suc m) t = go (f i) refl t (λ s. some_T f (suc i) m s)
  where
    go : (o : Bool) → f i ≡ o → T (elim o [ true ↦ true | false ↦ some_of f (suc i) m ]) → (T (some_of f (suc i) m) → (k : ℕ) × (k < suc i + m) × T (f k))
        → (k : ℕ) × (k < i + suc m) × T (f k)
    go true e s below = (i, omega arith, rw e tt)
    go false e s below = let b = below s in (b.0, omega arith, b.2)

pub T_some : (f : ℕ → Bool) (i m k : ℕ) → i ≤ k → k < i + m → T (f k) → T (some_of f i m)
T_some f i zero k u v t = absurd (omega arith)
T_some f i (suc m) k u v t = go (f i) refl (eq-or-lt_of_le u) (λ z. T_some f (suc i) m k z (omega arith) t)
  where
    go : (o : Bool) → f i ≡ o → (i ≡ k) ⊎ (i < k) → (i < k → T (some_of f (suc i) m)) → T (elim o [ true ↦ true | false ↦ some_of f (suc i) m ])
    go true e c below = tt
    go false e (inl z) below = absurd (rw (← z, e) at t)
    go false e (inr z) below = below z

pub not_some_T : (f : ℕ → Bool) (i m : ℕ) → T (not (some_of f i m)) → (k : ℕ) → i ≤ k → k < i + m → T (not (f k))
not_some_T f i m t k u v = fails (f k) (λ s. clash (some_of f i m) (T_some f i m k u v s) t)

-- first_of, with what it found
pub data Least (f : ℕ → Bool) (i m : ℕ) (k : ℕ) : Type 0 where
  hit : i ≤ k → k < i + m → T (f k) → ((h : ℕ) → i ≤ h → h < k → T (not (f h))) → Least f i m k
  past : k ≡ i + m → ((h : ℕ) → i ≤ h → h < i + m → T (not (f h))) → Least f i m k

pub least : (f : ℕ → Bool) (i m : ℕ) → Least f i m (first_where f i m)
least f i zero = past (omega arith) (λ h u v. absurd (omega arith))
least f i (suc m) = go (f i) refl (least f (suc i) m)
  where
    before : {h : ℕ} → f i ≡ false → (i < h → T (not (f h))) → (i ≡ h) ⊎ (i < h) → T (not (f h))
    before e g (inl z) = rw (← z, e) tt
    before e g (inr z) = g z

    later : {k : ℕ} → f i ≡ false → Least f (suc i) m k → Least f i (suc m) k
    later e (hit u v t b) = hit (omega arith) (omega arith) t (λ h l n. before e (λ z. b h z n) (eq-or-lt_of_le l))
    later e (past q b) = past (omega arith) (λ h l n. before e (λ z. b h z (omega arith)) (eq-or-lt_of_le l))

    go : (o : Bool) → f i ≡ o → Least f (suc i) m (first_where f (suc i) m) → Least f i (suc m) (elim o [ true ↦ i | false ↦ first_where f (suc i) m ])
    go true e s = hit (omega arith) (omega arith) (rw e tt) (λ h u v. absurd (omega arith))
    go false e s = later e s

pub first_is : (f : ℕ → Bool) (m k : ℕ) → k < m → T (f k) → ((h : ℕ) → h < k → T (not (f h))) → first_where f 0 m ≡ k
first_is f m k l t b = go (least f 0 m)
  where
    go : {n : ℕ} → Least f 0 m n → n ≡ k
    go {n} (hit u v s g) = order (dec_lt n k) (dec_lt k n)
      where
        order : Dec (n < k) → Dec (k < n) → n ≡ k
        order (yes h) d = absurd (clash (f n) s (b n h))
        order (no h) (yes d) = absurd (clash (f k) t (g k (omega arith) d))
        order (no h) (no d) = omega arith
    go (past q g) = absurd (clash (f k) t (g k (omega arith) (omega arith)))

pub first_past : (f : ℕ → Bool) (m : ℕ) → ((h : ℕ) → h < m → T (not (f h))) → first_where f 0 m ≡ m
first_past f m b = go (least f 0 m)
  where
    go : {n : ℕ} → Least f 0 m n → n ≡ m
    go {n} (hit u v s g) = absurd (clash (f n) s (b n (omega arith)))
    go (past q g) = omega arith

-- one more number passed
pub one_more : (f : ℕ → Bool) {i : ℕ} → ((h : ℕ) → h < i → T (not (f h))) → T (not (f i)) → (h : ℕ) → h < i + 1 → T (not (f h))
one_more f {i} b t h l = go (dec_lt h i)
  where
    go : Dec (h < i) → T (not (f h))
    go (yes d) = b h d
    go (no d) = let e : h ≡ i = omega arith in rw e t

pub count_last : (f : ℕ → Bool) (i m : ℕ) → count_of f i (suc m) ≡ count_of f i m + cond (f (i + m)) 1 0
count_last f i zero = let z : i + 0 ≡ i = omega arith in rw z (go (f i))
  where
    go : (b : Bool) → elim b [ true ↦ suc zero | false ↦ zero ] ≡ 0 + cond b 1 0
    go true = omega arith
    go false = omega arith
count_last f i (suc m) = let z : i + suc m ≡ suc i + m = omega arith in rw z (go (f i) (count_last f (suc i) m))
  where
    go : (b : Bool) → count_of f (suc i) (suc m) ≡ count_of f (suc i) m + cond (f (suc i + m)) 1 0
        → elim b [ true ↦ suc (count_of f (suc i) (suc m)) | false ↦ count_of f (suc i) (suc m) ]
        ≡ elim b [ true ↦ suc (count_of f (suc i) m) | false ↦ count_of f (suc i) m ] + cond (f (suc i + m)) 1 0
    go true e = omega arith
    go false e = e

pub count_next : (f : ℕ → Bool) (m : ℕ) → count_of f 0 (m + 1) ≡ count_of f 0 m + cond (f m) 1 0
count_next f m = let z : 0 + m ≡ m = omega arith in rw (add-one) (count_last f 0 m ∙ rw z refl)

pub count_le : (f : ℕ → Bool) (i m : ℕ) → count_of f i m ≤ m
count_le f i zero = omega arith
count_le f i (suc m) = go (f i) (count_le f (suc i) m)
  where
    go : (b : Bool) → count_of f (suc i) m ≤ m → elim b [ true ↦ suc (count_of f (suc i) m) | false ↦ count_of f (suc i) m ] ≤ suc m
    go true h = omega arith
    go false h = omega arith

-- a range that goes further counts no fewer
pub count_grows : (f : ℕ → Bool) (m d : ℕ) → count_of f 0 m ≤ count_of f 0 (m + d)
count_grows f m zero = let z : m + 0 ≡ m = omega arith in rw z (omega arith)
count_grows f m (suc d) =
    let z : m + suc d ≡ m + d + 1 = omega arith in
    let n = count_next f (m + d) in
    let h = count_grows f m d in
    rw z (omega arith)
