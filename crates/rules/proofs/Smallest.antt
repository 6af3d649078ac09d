-- The smallest list of numbers with a property, searched for by its first number.
-- Assumes nothing.
use mathlib.Core.Logic.{⊎_elim}
use mathlib.Core.Bool.{Bool, true, false, not}
use mathlib.Core.Option.{Option, none, some}
use mathlib.Core.List.{List, [], ◌∷◌}
use Prim.Native.Nat.{ℕ, zero, suc, ◌+◌, ◌≤◌, ◌<◌}
use native.Mathlib.Nat.{eq-or-lt_of_le}
use native.Mathlib.Omega.{arith}
use lib.Dec.{T}
use Rattle.rules.specs.Net.{NotAfter, lower, level}

-- the smallest list with the property, or that there is none
pub data Smallest (P : List ℕ → Type 0) : Option (List ℕ) → Type 0 where
  found : {qs : List ℕ} → P qs → ((rs : List ℕ) → P rs → NotAfter qs rs) → Smallest P (some qs)
  missing : ((rs : List ℕ) → P rs → ⊥) → Smallest P none

-- the first of the m numbers from i on for which the search finds how the list goes on, and that list
abbrev pub first_list : (ℕ → Option (List ℕ)) → ℕ → ℕ → Option (List ℕ)
first_list f i zero = none
first_list f i (suc m) = elim (f i) [ some qs ↦ some (i ∷ qs) | none ↦ first_list f (suc i) m ]

-- the list is not empty, and its first number is one of those from i to below n
abbrev pub Begins : ℕ → ℕ → List ℕ → Type 0
Begins i n [] = ⊥
Begins i n (q ∷ qs) = (i ≤ q) × (q < n)

-- where every list with the property begins with one of these numbers, and each number's search is right, so is this one
pub first_list_right : {P : List ℕ → Type 0} (f : ℕ → Option (List ℕ)) (i m : ℕ) → ((rs : List ℕ) → P rs → Begins i (i + m) rs)
    → ((q : ℕ) → q < i + m → Smallest (λ rs. P (q ∷ rs)) (f q)) → Smallest P (first_list f i m)
first_list_right {P} f i zero begins right = missing none_left
  where
    none_left : (rs : List ℕ) → P rs → ⊥
    none_left [] p = begins [] p
    none_left (q ∷ rs) p = let b = begins (q ∷ rs) p in omega arith
first_list_right {P} f i (suc m) begins right = go (right i (omega arith)) (λ b. first_list_right f (suc i) m b (λ q l. right q (omega arith)))
  where
    after : {qs : List ℕ} → ((rs : List ℕ) → P (i ∷ rs) → NotAfter qs rs) → (rs : List ℕ) → P rs → NotAfter (i ∷ qs) rs
    after b [] p = absurd (begins [] p)
    after b (q ∷ rs) p = ⊎_elim (λ e. level e (b rs (rw e p))) (λ l. lower l) (eq-or-lt_of_le (begins (q ∷ rs) p).0)

    beyond : ((rs : List ℕ) → P (i ∷ rs) → ⊥) → (rs : List ℕ) → P rs → Begins (suc i) (suc i + m) rs
    beyond n [] p = begins [] p
    beyond n (q ∷ rs) p =
        let b = begins (q ∷ rs) p in
        (⊎_elim (λ e. absurd (n rs (rw e p))) (λ l. l) (eq-or-lt_of_le b.0), omega arith)

    go : {o : Option (List ℕ)} → Smallest (λ rs. P (i ∷ rs)) o → (((rs : List ℕ) → P rs → Begins (suc i) (suc i + m) rs) → Smallest P (first_list f (suc i) m))
        → Smallest P (elim o [ some qs ↦ some (i ∷ qs) | none ↦ first_list f (suc i) m ])
    go (found p b) below = found p (after b)
    go (missing n) below = below (beyond n)

-- a search by cases, and a property put in other words
pub on_test : {P : List ℕ → Type 0} {o u : Option (List ℕ)} (b : Bool) → (T b → Smallest P o) → (T (not b) → Smallest P u)
    → Smallest P (elim b [ true ↦ o | false ↦ u ])
on_test true pass fail = pass tt
on_test false pass fail = fail tt

pub same_lists : {P Q : List ℕ → Type 0} {o : Option (List ℕ)} → ((rs : List ℕ) → P rs → Q rs) → ((rs : List ℕ) → Q rs → P rs) → Smallest P o → Smallest Q o
same_lists f g (found {qs} p b) = found (f qs p) (λ rs q. b rs (g rs q))
same_lists f g (missing n) = missing (λ rs q. n rs (g rs q))
