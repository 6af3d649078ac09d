-- The arrival over a section that is entered at a point: its section, its points, and that there is no other.
-- Assumes nothing.
use mathlib.Core.Path.{◌≡◌, refl, sym, ◌∙◌}
use mathlib.Core.Logic.{◌≢◌, ⊎_elim}
use mathlib.Core.Bool.{Bool, true, false, cond}
use mathlib.Core.List.{List}
use Prim.Native.Nat.{ℕ, ◌+◌, ◌-◌, ◌*◌, ◌/◌, ◌%◌}
use native.Mathlib.Omega.{arith}
use lib.Dec.{T, eqb}
use Rattle.rules.specs.Plan.{of_sections, end_A, end_B, end_at, touches, from_point, sec}
use Rattle.rules.proofs.Branches.{equal, unequal, first_one, second_one}
use Rattle.rules.proofs.Tests.{says_true, says_false, tests}
use Rattle.rules.proofs.Sound.{at_both_ends}
use Rattle.plan.proofs.Touching.{touch_cases}
use Rattle.steps.specs.StepOver.{arrival_over}

module _ (ss : List ℕ) (s p : ℕ) where
  -- as the code makes it
  pub over_A : true ≡ eqb (end_A (of_sections ss) s) p → 2 * s + 1 ≡ arrival_over ss s p
  unfolding arrival_over
  over_A e = let k : ◌≡◌ {A = ℕ} 1 (cond (eqb (end_A (of_sections ss) s) p) 1 0) = first_one 0 e refl in omega arith

  pub over_B : false ≡ eqb (end_A (of_sections ss) s) p → 2 * s ≡ arrival_over ss s p
  unfolding arrival_over
  over_B e = let k : ◌≡◌ {A = ℕ} 0 (cond (eqb (end_A (of_sections ss) s) p) 1 0) = second_one 1 e refl in omega arith

  pub over_section : arrival_over ss s p / 2 ≡ s
  unfolding arrival_over
  over_section = go (eqb (end_A (of_sections ss) s) p)
    where
      go : (o : Bool) → (2 * s + cond o 1 0) / 2 ≡ s
      go true = omega arith
      go false = omega arith

  -- it begins at p
  pub over_begins : T (touches (of_sections ss) s p) → from_point (of_sections ss) (arrival_over ss s p) ≡ p
  over_begins t = go (eqb (end_A (of_sections ss) s) p) refl
    where
      half : (b e : ℕ) → b / 2 ≡ s → 1 - b % 2 ≡ e → from_point (of_sections ss) b ≡ end_at (of_sections ss) s e
      half b e i j = rw (i, j)

      go : (o : Bool) → eqb (end_A (of_sections ss) s) p ≡ o → from_point (of_sections ss) (arrival_over ss s p) ≡ p
      go true e =
          half (arrival_over ss s p) 0 over_section (omega (arith, over_A (sym e)))
          ∙ (simp tests at (says_true (eqb (end_A (of_sections ss) s) p) refl (sym e)))
      go false e =
          half (arrival_over ss s p) 1 over_section (omega (arith, over_B (sym e)))
          ∙ ⊎_elim (λ i. absurd ((simp tests at (says_false (eqb (end_A (of_sections ss) s) p) refl (sym e))) i)) (λ i. i) (touch_cases ss s p t)

  -- of two different ends it begins at one
  pub over_only : end_A (of_sections ss) s ≢ end_B (of_sections ss) s → (b : ℕ) → from_point (of_sections ss) b ≡ p → sec b ≡ s → b ≡ arrival_over ss s p
  over_only n b i e = at_both_ends (λ k. 1 - b % 2 ≡ k → end_at (of_sections ss) s k ≡ p → b ≡ arrival_over ss s p) at_A at_B (1 - b % 2) (omega arith) refl (rw e at i)
    where
      at_A : 1 - b % 2 ≡ 0 → end_A (of_sections ss) s ≡ p → b ≡ arrival_over ss s p
      at_A j q = omega (arith, over_A (equal refl refl q))

      at_B : 1 - b % 2 ≡ 1 → end_B (of_sections ss) s ≡ p → b ≡ arrival_over ss s p
      at_B j q = omega (arith, over_B (unequal refl refl (λ z. n (z ∙ sym q))))
