-- A test as a statement: `simp tests at t` reads a passed test, `simp tests p` passes one.
-- And what a function that returns a test's value has to show, and its caller may read.
-- Assumes nothing.
use mathlib.Core.Path.{◌≡◌, refl}
use mathlib.Core.Logic.{◌≢◌, ◌⊎◌, inl, inr, ◌↔◌, ⊎_elim}
use mathlib.Core.Bool.{Bool, true, false, not, ◌&&◌, ◌||◌, false≢true}
use Prim.Native.Nat.{ℕ, ◌≤◌, ◌<◌}
use native.Mathlib.Omega.{arith}
use lib.Dec.{T, eqb, eqb→eq, eqb_refl, leb, leb→le, le→leb, nleb→lt}

pub and_T : (a b : Bool) → T (a && b) → T a × T b
and_T true b t = (tt, t)
and_T false b t = absurd t

pub T_and : (a b : Bool) → T a → T b → T (a && b)
T_and true b s t = t
T_and false b s t = absurd s

pub or_T : (a b : Bool) → T (a || b) → T a ⊎ T b
or_T true b t = inl tt
or_T false b t = inr t

pub T_or_left : (a b : Bool) → T a → T (a || b)
T_or_left true b t = tt
T_or_left false b t = absurd t

pub T_or_right : (a b : Bool) → T b → T (a || b)
T_or_right true b t = tt
T_or_right false b t = t

-- a test cannot both pass and fail
pub clash : (b : Bool) → T b → T (not b) → ⊥
clash true t n = n
clash false t n = t

pub fails : (b : Bool) → (T b → ⊥) → T (not b)
fails true f = f tt
fails false f = tt

-- a test that says no claims nothing
pub says_no : {A : Type 0} → false ≡ true → A
says_no z = absurd (false≢true z)

-- a failed "a and not b" is "a, so b"
pub unless_T : (a b : Bool) → T (not (a && not b)) → T a → T b
unless_T true true t s = tt
unless_T true false t s = t
unless_T false b t s = absurd s

pub and_iff : (a b : Bool) → T (a && b) ↔ (T a × T b)
and_iff a b = (and_T a b, λ p. T_and a b p.0 p.1)

pub or_iff : (a b : Bool) → T (a || b) ↔ (T a ⊎ T b)
or_iff a b = (or_T a b, ⊎_elim (T_or_left a b) (T_or_right a b))

pub not_or_iff : (a b : Bool) → T (not (a || b)) ↔ (T (not a) × T (not b))
not_or_iff true b = (λ t. absurd t, λ p. p.0)
not_or_iff false b = (λ t. (tt, t), λ p. p.1)

pub not_not_iff : (b : Bool) → T (not (not b)) ↔ T b
not_not_iff true = (λ t. t, λ t. t)
not_not_iff false = (λ t. t, λ t. t)

pub eqb_iff : (a b : ℕ) → T (eqb a b) ↔ (a ≡ b)
eqb_iff a b = (eqb→eq a b, λ e. rw e (eqb_refl b))

pub not_eqb_iff : (a b : ℕ) → T (not (eqb a b)) ↔ (a ≢ b)
not_eqb_iff a b = (λ t e. clash (eqb a b) (rw e (eqb_refl b)) t, λ n. fails (eqb a b) (λ t. n (eqb→eq a b t)))

pub leb_iff : (a b : ℕ) → T (leb a b) ↔ (a ≤ b)
leb_iff a b = (leb→le a b, le→leb a b)

pub not_leb_iff : (a b : ℕ) → T (not (leb a b)) ↔ (b < a)
not_leb_iff a b = (nleb→lt a b, λ l. fails (leb a b) (λ t. let h = leb→le a b t in omega arith))

pub ruleset tests = (and_iff, or_iff, not_or_iff, not_not_iff, eqb_iff, not_eqb_iff, leb_iff, not_leb_iff)

-- not in the set `tests`: it would undo the others
pub not_iff : (b : Bool) → T (not b) ↔ (T b → ⊥)
not_iff b = (λ t s. clash b s t, fails b)

-- what a function that returns a test's value has to show
pub gives_true : {b : Bool} → T b → true ≡ b
gives_true {b = true} t = refl
gives_true {b = false} t = absurd t

pub gives_false : {b : Bool} → (T b → ⊥) → false ≡ b
gives_false {b = true} n = absurd (n tt)
gives_false {b = false} n = refl

pub gives_same : {a b : Bool} → (T a → T b) → (T b → T a) → a ≡ b
gives_same {a = true} {b} f g = gives_true (f tt)
gives_same {a = false} {b} f g = gives_false (λ t. g t)

-- what its caller may read in the arm that is taken, and in the other
pub says_true : {r : Bool} (b : Bool) → r ≡ true → r ≡ b → T b
says_true b h e = rw (← e, h) tt

pub says_false : {r : Bool} (b : Bool) → r ≡ false → r ≡ b → T (not b)
says_false b h e = rw (← e, h) tt
