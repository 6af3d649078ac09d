-- The fields of a file from a byte on, one at a time.
-- Assumes nothing.
use mathlib.Core.Path.{◌≡◌, refl, ap, ◌∙◌}
use mathlib.Core.Bool.{cond}
use mathlib.Core.List.{List, [], ◌∷◌}
use Prim.Native.Nat.{ℕ, zero, suc, ◌+◌, ◌≤◌, ◌<◌}
use native.Mathlib.Omega.{arith}
use native.Mathlib.Decide.{dec_lt}
use borrow.Author.Tests.{lt-ltb, le-ltb}
use lib.Dec.{ltb}
use lib.ListN.{length}
use Rattle.rules.specs.YardFile.{past, places, fields}

-- any bound that reaches the end of the file gives the same list
enough : (s : List ℕ) (j k p : ℕ) → length s ≤ p + j → length s ≤ p + k → places j s p ≡ places k s p
unfolding places
enough s zero zero p h l = refl
enough s zero (suc k) p h l = rw (le-ltb p (length s) (omega arith)) refl
enough s (suc j) zero p h l = rw (le-ltb p (length s) (omega arith)) refl
enough s (suc j) (suc k) p h l = go (dec_lt p (length s)) (λ d. enough s j k (past s p) (omega arith) (omega arith))
  where
    go : Dec (p < length s) → (p < length s → places j s (past s p) ≡ places k s (past s p))
        → cond (ltb p (length s)) (p ∷ places j s (past s p)) [] ≡ cond (ltb p (length s)) (p ∷ places k s (past s p)) []
    go (yes d) below = rw (lt-ltb p (length s) d) (ap (λ (l : List ℕ). p ∷ l) (below d))
    go (no d) below = rw (le-ltb p (length s) (omega arith)) refl

pub fields_next : (s : List ℕ) (p : ℕ) → p < length s → fields s p ≡ p ∷ fields s (past s p)
unfolding fields places
fields_next s p h =
    enough s (length s) (suc (length s)) p (omega arith) (omega arith) ∙ one
  where
    one : places (suc (length s)) s p ≡ p ∷ places (length s) s (past s p)
    one = rw (lt-ltb p (length s) h) refl

pub fields_end : (s : List ℕ) (p : ℕ) → length s ≤ p → fields s p ≡ []
unfolding fields places
fields_end s p h = enough s (length s) zero p (omega arith) (omega arith) ∙ none
  where
    none : places zero s p ≡ []
    none = refl
