-- A section touches a point: one of its two ends is the point.
-- Assumes nothing.
use mathlib.Core.Path.{◌≡◌, sym, ◌∙◌}
use mathlib.Core.Logic.{◌⊎◌, inl, inr, ⊎_elim}
use mathlib.Core.List.{List}
use Prim.Native.Nat.{ℕ, ◌<◌}
use native.Mathlib.Omega.{arith}
use lib.Dec.{T, eqb}
use Rattle.rules.specs.Plan.{of_sections, end_A, end_B, touches, same_ends}
use Rattle.rules.proofs.Tests.{tests, and_T, or_T}
use Rattle.plan.specs.Ends.{Joins}

module _ (ss : List ℕ) (s : ℕ) where
  pub touch_A : (p : ℕ) → end_A (of_sections ss) s ≡ p → T (touches (of_sections ss) s p)
  touch_A p e = simp tests (inl (simp tests e))

  pub touch_B : (p : ℕ) → end_B (of_sections ss) s ≡ p → T (touches (of_sections ss) s p)
  touch_B p e = simp tests (inr (simp tests e))

  pub touch_cases : (p : ℕ) → T (touches (of_sections ss) s p) → (end_A (of_sections ss) s ≡ p) ⊎ (end_B (of_sections ss) s ≡ p)
  touch_cases p t =
      ⊎_elim (λ e. inl (simp tests at e)) (λ e. inr (simp tests at e)) (or_T (eqb (end_A (of_sections ss) s) p) (eqb (end_B (of_sections ss) s) p) t)

-- a point that a section touches is a point of the plan
pub touch_below : {ss : List ℕ} {s : ℕ} → Joins ss s → (p : ℕ) → T (touches (of_sections ss) s p) → p < 768
touch_below {ss} {s} j p t = ⊎_elim (λ e. omega (arith, j.a)) (λ e. omega (arith, j.b)) (touch_cases ss s p t)

-- sections that join the same two points touch each other's end A
pub same_touch : {ss : List ℕ} {r : ℕ} → Joins ss r → (s : ℕ) → T (same_ends (of_sections ss) s r) → T (touches (of_sections ss) r (end_A (of_sections ss) s))
same_touch {ss} {r} j s t =
    let h = and_T (touches (of_sections ss) s (end_A (of_sections ss) r)) (touches (of_sections ss) s (end_B (of_sections ss) r)) t in
    go (touch_cases ss s (end_A (of_sections ss) r) h.0) (touch_cases ss s (end_B (of_sections ss) r) h.1)
  where
    go : (end_A (of_sections ss) s ≡ end_A (of_sections ss) r) ⊎ (end_B (of_sections ss) s ≡ end_A (of_sections ss) r)
        → (end_A (of_sections ss) s ≡ end_B (of_sections ss) r) ⊎ (end_B (of_sections ss) s ≡ end_B (of_sections ss) r)
        → T (touches (of_sections ss) r (end_A (of_sections ss) s))
    go (inl x) y = touch_A ss r (end_A (of_sections ss) s) (sym x)
    go (inr x) (inl y) = touch_B ss r (end_A (of_sections ss) s) (sym y)
    go (inr x) (inr y) = absurd (j.apart (sym x ∙ y))
