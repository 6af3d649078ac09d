-- What is known of a plan where some of its checks have passed.
-- Assumes nothing.
use mathlib.Core.Path.{◌≡◌, refl}
use mathlib.Core.Logic.{⊎_elim}
use mathlib.Core.Bool.{Bool, true, false, not, cond, ◌&&◌}
use mathlib.Core.List.{List, []}
use Prim.Native.Nat.{ℕ, ◌≤◌, ◌<◌}
use native.Mathlib.Omega.{arith}
use native.Mathlib.Decide.{dec_lt}
use lib.Dec.{T}
use Rattle.rules.specs.Plan.{Plan, plan_of, of_sections, section_count, turn_count, end_A, end_B, touches, turn_section, turn_point}
use Rattle.rules.specs.Refusals.{verdict, passed}
use Rattle.rules.specs.PlanCheck.{tables_good, ground_good, stock_good, section_bad, degree, turn_bad, plan_checks}
use Rattle.rules.proofs.Tests.{tests, says_true}
use Rattle.rules.proofs.Verdicts.{Passed, passes}
use Rattle.plan.specs.Ends.{Joins, Joined, AtMostThree}
use Rattle.plan.specs.Turns.{Turned, connecting_pair, share_point}
use Rattle.plan.proofs.Counting.{count_reaches}
use Rattle.plan.specs.Lent.{NoneBelow}
use Rattle.plan.proofs.Looking.{as_tests}
use Rattle.plan.proofs.Touching.{touch_cases}

-- of a rule in two halves that is not broken, the first
first_half : (a b : Bool) → T (not (not (a && b))) → T a
first_half true b t = tt
first_half false b t = t

fails_says : (b : Bool) → T (not b) → b ≡ false
fails_says true t = absurd t
fails_says false t = refl

-- number 1: r says that the tables are good
pub sized : (v : ℕ) (ss ts : List ℕ) {r : Bool} → r ≡ tables_good (plan_of v ss ts) → r ≡ true
    → (v ≤ 768) × (section_count (of_sections ss) ≤ 1024) × (turn_count (plan_of 0 ss ts) ≤ 768)
sized v ss ts {r} e t = let h = simp tests at (says_true (tables_good (plan_of v ss ts)) t e) in (omega arith, omega arith, omega arith)

-- number 2
ground_of : (v : ℕ) (ss : List ℕ) (s : ℕ) → T (not (section_bad (plan_of v ss []) s)) → T (ground_good (plan_of v ss []) s)
ground_of v ss s t = first_half (ground_good (plan_of v ss []) s) (stock_good (plan_of v ss []) s) t

pub joined_known : {v : ℕ} {ss : List ℕ} → v ≤ 768 → section_count (of_sections ss) ≤ 1024 → NoneBelow (section_bad (plan_of v ss [])) (section_count (of_sections ss)) → Joined ss
joined_known {v} {ss} l m c = record { few = m; each = λ s h. at s (ground_of v ss s (as_tests (section_bad (plan_of v ss [])) c s h)) }
  where
    at : (s : ℕ) → T (ground_good (plan_of v ss []) s) → Joins ss s
    at s t = let h = simp tests at t in record { a = omega arith; b = omega arith; apart = λ e. omega arith }

-- number 5
pub turned_known : {ss ts : List ℕ} → Joined ss → turn_count (plan_of 0 ss ts) ≤ 768 → NoneBelow (turn_bad (plan_of 0 ss ts)) (turn_count (plan_of 0 ss ts)) → Turned ss ts
turned_known {ss} {ts} joined l c = record { few = l; each = λ t h. at t (as_tests (turn_bad (plan_of 0 ss ts)) c t h) }
  where
    either : (b : Bool) (x y : ℕ) → x < 768 → y < 768 → cond b x y < 768
    either true x y h g = h
    either false x y h g = g

    at : (t : ℕ) → T (not (turn_bad (plan_of 0 ss ts) t)) → turn_point (plan_of 0 ss ts) t < 768
    at t u =
        let s = turn_section (plan_of 0 ss ts) t 0 in
        let r = turn_section (plan_of 0 ss ts) t 1 in
        let pair = simp tests at (first_half (connecting_pair (plan_of 0 ss ts) s r) (share_point (plan_of 0 ss ts) s r) u) in
        let j = joined.each s (omega arith) in
        either (touches (plan_of 0 ss ts) r (end_A (plan_of 0 ss ts) s)) (end_A (plan_of 0 ss ts) s) (end_B (plan_of 0 ss ts) s) j.a j.b

-- all six: what a caller that has had the plan checked may rely on
module _ (y : Plan) (e : verdict (plan_checks y) ≡ passed) where
  rows : Passed (plan_checks y)
  rows = passes (plan_checks y) tt e

  counts_good : (y.points ≤ 768) × (section_count y ≤ 1024) × (turn_count y ≤ 768)
  counts_good = let h = simp tests at (rows.0 0 (omega arith)) in (omega arith, omega arith, omega arith)

  pub plan_joined : Joined y.sections
  plan_joined = joined_known {v = y.points} counts_good.0 counts_good.1 (λ k l. fails_says (section_bad y k) (rows.1.0 k l))

  pub plan_turned : Turned y.sections y.turns
  plan_turned = turned_known plan_joined counts_good.2 (λ k l. fails_says (turn_bad y k) (rows.1.1.1.1.0 k l))

  -- a number that is no point of the plan has no sections, so not over three
  no_sections : (p : ℕ) → y.points ≤ p → degree y p ≤ 3
  no_sections p l = go (dec_lt 0 (degree y p))
    where
      beyond : (s : ℕ) → s < section_count y → T (touches y s p) → ⊥
      beyond s h t =
          let g = simp tests at (ground_of y.points y.sections s (rows.1.0 s h)) in
          ⊎_elim (λ z. omega arith) (λ z. omega arith) (touch_cases y.sections s p t)

      go : Dec (0 < degree y p) → degree y p ≤ 3
      go (yes d) = let r = count_reaches (λ s. touches y s p) (section_count y) 0 d in absurd (beyond r.number r.low r.holds)
      go (no d) = omega arith

  pub plan_three : AtMostThree y.sections
  plan_three = record { at = λ p h. go p (dec_lt p y.points) }
    where
      go : (p : ℕ) → Dec (p < y.points) → degree y p ≤ 3
      go p (yes d) = let h = simp tests at (rows.1.1.1.0 p d) in omega arith
      go p (no d) = no_sections p (omega arith)
