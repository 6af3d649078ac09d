-- A list of different numbers below n has at most n entries (`pigeonhole`).
-- Assumes nothing.
use mathlib.Core.Path.{◌≡◌, refl}
use mathlib.Core.Logic.{◌≢◌}
use mathlib.Core.List.Memᴰ
use mathlib.Core.List.{List, [], ◌∷◌, Memᴰ}
use Prim.Native.Nat.{ℕ, zero, suc, ◌≤◌, ◌<◌}
use native.Mathlib.Omega.{arith}
use native.Mathlib.Decide.{ℕ_discrete}
use lib.ListN.{length}
use Rattle.rules.specs.Ranges.{Distinct, nil, cons}

-- every entry is below n
abbrev pub Below : ℕ → List ℕ → Type 0
Below n xs = (k : ℕ) → Memᴰ k xs → k < n

-- what is left of the list xs, whose entries are below n + 1, when n is taken out: at most one entry is lost
record Without (n : ℕ) (xs : List ℕ) : Type 0 where
  rest : List ℕ
  part : (k : ℕ) → Memᴰ k rest → Memᴰ k xs
  distinct : Distinct rest
  below : Below n rest
  long : length xs ≤ suc (length rest)

without : (n : ℕ) {xs : List ℕ} → Distinct xs → Below (suc n) xs → Without n xs
without n nil b = record { rest = []; part = λ k m. m; distinct = nil; below = λ k m. absurd (Memᴰ.not-nil m); long = omega arith }
without n (cons {x} {xs} fresh d) b = at (ℕ_discrete x n) (without n d (λ k m. b k (Memᴰ.tail m)))
  where
    at : Dec (x ≡ n) → Without n xs → Without n (x ∷ xs)
    -- x is n: the rest has no other n, since its entries differ from x
    at (yes e) w = record {
      rest = xs;
      part = λ k m. Memᴰ.tail m;
      distinct = d;
      below = λ k m. let h = b k (Memᴰ.tail m) in let g : k ≢ x = λ q. fresh (rw q at m) in omega arith;
      long = omega arith;
    }
    at (no e) w = record {
      rest = x ∷ w.rest;
      part = λ k m. keep m;
      distinct = cons (λ m. fresh (w.part x m)) w.distinct;
      below = λ k m. low m;
      long = let h = w.long in omega arith;
    }
      where
        keep : {k : ℕ} → Memᴰ k (x ∷ w.rest) → Memᴰ k (x ∷ xs)
        keep (Memᴰ.head q) = Memᴰ.head q
        keep {k} (Memᴰ.tail m) = Memᴰ.tail (w.part k m)

        low : {k : ℕ} → Memᴰ k (x ∷ w.rest) → k < n
        low (Memᴰ.head q) = let h = b x (Memᴰ.head refl) in omega arith
        low {k} (Memᴰ.tail m) = w.below k m

none_below : {xs : List ℕ} → Distinct xs → Below zero xs → length xs ≤ zero
none_below nil b = omega arith
none_below (cons {x} fresh d) b = let h = b x (Memᴰ.head refl) in omega arith

-- by induction on n: take n out, and the rest lies below n
pub pigeonhole : (n : ℕ) {xs : List ℕ} → Distinct xs → Below n xs → length xs ≤ n
pigeonhole zero d b = none_below d b
pigeonhole (suc n) d b =
    let w = without n d b in
    let h = pigeonhole n w.distinct w.below in
    let g = w.long in
    omega arith
