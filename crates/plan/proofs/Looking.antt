-- The first number at which a test holds: what a loop keeps that looks for it, and what it means for a verdict.
-- Assumes nothing.
use Rattle.std.proofs.Common.{◌≡◌, ℕ, ◌+◌, ◌<◌, Bool, true, false, not, List, ◌∷◌, sym, ◌∙◌, arith, below_more, Option, None, Some}
use lib.Dec.{T}
use Rattle.rules.specs.Ranges.{some_of}
use Rattle.rules.specs.Refusals.{Verdict, Check, refused_at, verdict}
use Rattle.rules.proofs.Tests.{clash, gives_true, gives_false}
use Rattle.rules.proofs.Ranges.{some_T, T_some, first_is, first_past}
use Rattle.rules.proofs.Verdicts.{refuses, goes_on}
use Rattle.plan.specs.Lent.{NoneBelow, First}

pub none_at_first : (f : ℕ → Bool) → NoneBelow f 0
none_at_first f k l = absurd (omega arith)

-- r is the value of the test at i
pub none_more : (f : ℕ → Bool) {i : ℕ} {r : Bool} → NoneBelow f i → r ≡ f i → r ≡ false → NoneBelow f (i + 1)
none_more f h e q = below_more (λ k. f k ≡ false) _ h (sym e ∙ q)

pub as_tests : (f : ℕ → Bool) {n : ℕ} → NoneBelow f n → (k : ℕ) → k < n → T (not (f k))
as_tests f h k l = rw (h k l) tt

module _ (f : ℕ → Bool) {n : ℕ} where
  pub some_below : {i : ℕ} → i < n → f i ≡ true → true ≡ some_of f 0 n
  some_below {i} l e = gives_true (T_some f 0 n i (omega arith) (omega arith) (rw e tt))

  pub none_below : NoneBelow f n → false ≡ some_of f 0 n
  none_below h = gives_false (λ t. let w = some_T f 0 n t in clash (f w.0) w.2 (as_tests f h w.0 (omega (arith, w.1))))

-- the same first number for tests that agree
pub first_same : {f g : ℕ → Bool} {n : ℕ} (r : Option ℕ) → ((k : ℕ) → k < n → f k ≡ g k) → First f n r → First g n r
first_same None same h = λ k l. sym (same k l) ∙ h k l
first_same (Some i) same h = (h.0, sym (same i h.0) ∙ h.1, λ k l. sym (same k (omega (arith, h.0))) ∙ h.2 k l)

-- a row of the list of refusals gives the verdict where it applies, and else leaves it to the rows below
module _ (c : Check) (cs : List Check) where
  pub row_refuses : {i : ℕ} → First c.bad c.places (Some i) → refused_at c.number i ≡ verdict (c ∷ cs)
  row_refuses {i} h = sym (refuses c cs i (sym (first_is c.bad c.places i h.0 (rw h.1 tt) (as_tests c.bad h.2))) h.0)

  pub row_passes : First c.bad c.places None → {v : Verdict} → v ≡ verdict cs → v ≡ verdict (c ∷ cs)
  row_passes h r = r ∙ sym (goes_on c cs c.places (sym (first_past c.bad c.places (as_tests c.bad h))) (omega arith))
