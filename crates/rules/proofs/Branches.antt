-- A value that is chosen by tests: what each branch of a function that computes it has to show.
-- Assumes nothing.
use mathlib.Core.Path.{◌≡◌, refl, sym, ◌∙◌}
use mathlib.Core.Bool.{Bool, true, false, cond, ◌&&◌, ◌||◌, true≢false, false≢true}
use Prim.Native.Nat.{ℕ}
use borrow.Author.Tests.{eq-eqb, ne_eqb}
use lib.Dec.{eqb}

-- two numbers that were read are equal, or are not
pub equal : {n a m b : ℕ} → n ≡ a → m ≡ b → n ≡ m → true ≡ eqb a b
equal {n} {a} {m} {b} i j e = sym (eq-eqb a b (sym i ∙ e ∙ j))

pub unequal : {n a m b : ℕ} → n ≡ a → m ≡ b → (n ≡ m → ⊥) → false ≡ eqb a b
unequal {n} {a} {m} {b} i j e = sym (ne_eqb a b (λ q. e (i ∙ q ∙ sym j)))

-- and their test is the test of what they were read from
pub compared : {n a m b : ℕ} → n ≡ a → m ≡ b → eqb n m ≡ eqb a b
compared i j = rw (i, j)

-- a chain of "and" is left at the first test that fails, a chain of "or" at the first that passes
pub and_on : {a b r : Bool} → true ≡ a → r ≡ b → r ≡ (a && b)
and_on {a = true} e q = q
and_on {a = false} e q = absurd (true≢false e)

pub and_off : {a : Bool} (b : Bool) → false ≡ a → false ≡ (a && b)
and_off {a = true} b e = absurd (false≢true e)
and_off {a = false} b e = refl

pub or_on : {a b r : Bool} → false ≡ a → r ≡ b → r ≡ (a || b)
or_on {a = true} e q = absurd (false≢true e)
or_on {a = false} e q = q

pub or_off : {a : Bool} (b : Bool) → true ≡ a → true ≡ (a || b)
or_off {a = true} b e = refl
or_off {a = false} b e = absurd (true≢false e)

-- one of two numbers
pub first_one : {a : Bool} {x r : ℕ} (y : ℕ) → true ≡ a → r ≡ x → r ≡ cond a x y
first_one {a = true} y e q = q
first_one {a = false} y e q = absurd (true≢false e)

pub second_one : {a : Bool} {y r : ℕ} (x : ℕ) → false ≡ a → r ≡ y → r ≡ cond a x y
second_one {a = true} x e q = absurd (false≢true e)
second_one {a = false} x e q = q
