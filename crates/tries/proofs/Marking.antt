-- Marks that are put one by one: what is marked afterwards, and how many points are left.
-- Assumes nothing.
use mathlib.Core.Path.{◌≡◌, refl, sym}
use mathlib.Core.Logic.{◌≢◌, ◌⊎◌, inl, inr}
use mathlib.Core.Bool.{Bool, true, false, not, ◌||◌, true≢false, false≢true}
use Prim.Native.Nat.{ℕ, zero, suc, ◌+◌, ◌-◌, ◌≤◌, ◌<◌}
use native.Mathlib.Nat.{eq-or-lt_of_le}
use native.Mathlib.Omega.{arith}
use borrow.Author.Tests.{eq-eqb, ne_eqb}
use lib.Dec.{T, eqb}
use Rattle.rules.specs.Ranges.{count_of}
use Rattle.rules.proofs.Tests.{gives_true}
use Rattle.rules.proofs.Ranges.{count_le}
use Rattle.rules.proofs.Ways.{only, mark}
use Rattle.points.specs.declared.Points.{Points}
use Rattle.points.specs.Points.{member, Empty, Put}
use Rattle.tries.specs.declared.marks.Try.{Try}
use Rattle.tries.specs.Marks.{marked, unmarked, Begun, Past}

-- the count of a range, by whether its first number counts
abbrev with_first : Bool → ℕ → ℕ
with_first o n = elim o [ true ↦ suc n | false ↦ n ]

-- tests that agree from i on count the same
count_same : (f g : ℕ → Bool) (i m : ℕ) → ((k : ℕ) → i ≤ k → f k ≡ g k) → count_of f i m ≡ count_of g i m
count_same f g i zero e = refl
count_same f g i (suc m) e = go (f i) (g i) (e i (omega arith)) (count_same f g (suc i) m (λ k l. e k (omega arith)))
  where
    go : (o u : Bool) → o ≡ u → count_of f (suc i) m ≡ count_of g (suc i) m
        → with_first o (count_of f (suc i) m) ≡ with_first u (count_of g (suc i) m)
    go o u h z = rw (h, z) refl

-- a test that holds at q, where another fails, and agrees with it elsewhere, counts one more
count_one : (f g : ℕ → Bool) (q i m : ℕ) → i ≤ q → q < i + m → f q ≡ true → g q ≡ false → ((k : ℕ) → k ≢ q → f k ≡ g k)
    → count_of f i m ≡ suc (count_of g i m)
count_one f g q i zero l h a b e = absurd (omega arith)
count_one f g q i (suc m) l h a b e = go (eq-or-lt_of_le l) (λ z. count_one f g q (suc i) m z (omega arith) a b e)
  where
    here : (o u : Bool) (x y : ℕ) → o ≡ true → u ≡ false → x ≡ y → with_first o x ≡ suc (with_first u y)
    here o u x y c d z = rw (c, d, z) refl

    later : (o u : Bool) (x y : ℕ) → o ≡ u → x ≡ suc y → with_first o x ≡ suc (with_first u y)
    later true true x y c z = omega arith
    later true false x y c z = absurd (true≢false c)
    later false true x y c z = absurd (false≢true c)
    later false false x y c z = z

    go : (i ≡ q) ⊎ (i < q) → (i < q → count_of f (suc i) m ≡ suc (count_of g (suc i) m))
        → with_first (f i) (count_of f (suc i) m) ≡ suc (with_first (g i) (count_of g (suc i) m))
    go (inl z) below =
        here (f i) (g i) (count_of f (suc i) m) (count_of g (suc i) m) (rw z a) (rw z b)
        (count_same f g (suc i) m (λ k u. e k (λ w. omega arith)))
    go (inr z) below = later (f i) (g i) (count_of f (suc i) m) (count_of g (suc i) m) (e i (λ w. omega arith)) (below z)

-- a test that fails somewhere in a range does not count all of it
count_less : (f : ℕ → Bool) (q m : ℕ) → q < m → f q ≡ false → count_of f 0 m < m
count_less f q m l b =
    omega (
      arith,
      count_le (mark q f) 0 m,
      count_one (mark q f) f q 0 m (omega arith) (omega arith) (rw (eq-eqb q q refl) refl) b (λ k n. rw (ne_eqb k q n) refl),
    )

-- the first try: of no marks one is put
pub begun : {t : Try} {none : Points} {n p : ℕ} → p < 768 → Empty none → Put none p t.marks → t.left ≡ n → Begun p n t
unfolding unmarked
begun {t} {none} {n} {p} l e m i =
    record { left = i; marks = marks; fewer = count_less (λ k. not (member t.marks k)) p 768 l (rw (marks p, eq-eqb p p refl) refl) }
  where
    or_false : (b : Bool) → (b || false) ≡ b
    or_false true = refl
    or_false false = refl

    marks : (k : ℕ) → member t.marks k ≡ only p k
    marks k = rw (m.members k, e.members k) (or_false (eqb k p))

-- of the first m points one fewer is left
one_fewer : (f g : ℕ → Bool) (q m : ℕ) → q < m → T (not (f q)) → ((k : ℕ) → g k ≡ mark q f k)
    → count_of (λ k. not (f k)) 0 m ≡ count_of (λ k. not (g k)) 0 m + 1
one_fewer f g q m l u e =
    omega (
      arith,
      count_one (λ k. not (f k)) (λ k. not (g k)) q 0 m (omega arith) (omega arith) (sym (gives_true u)) (rw (e q, eq-eqb q q refl) refl)
          (λ k n. rw (e k, ne_eqb k q n) refl),
    )

-- the try that goes on from t past the point q, over a section of length n, with these marks
pub past : (t : Try) (ms : Points) (n : ℕ) {q : ℕ} → q < 768 → T (not (marked t q)) → Put t.marks q ms → Past t q n (record { marks = ms; left = t.left - n })
unfolding unmarked
past t ms n {q} l u m = record { left = refl; marks = m.members; fewer = one_fewer (member t.marks) (member ms) q 768 l u m.members }
