-- The rows of the list of refusals of a plan, each by its name.
-- Assumes nothing.
use Rattle.std.proofs.Common.{◌≡◌, ℕ, suc, ap, arith, Bool, true, not, List, drop, sym, ◌∙◌}
use Rattle.rules.specs.Plan.{Plan, section_count, turn_count}
use Rattle.rules.specs.Refusals.{Verdict, Check, each, refused_at, passed, verdict}
use Rattle.rules.specs.PlanCheck.{tables_good, section_bad, doubled, degree_bad, turn_bad, second_turn, plan_checks}
use Rattle.rules.proofs.Tests.{not_not_iff, says_true}
use Rattle.rules.proofs.Verdicts.{passes_once}

-- a refusal's number is not 0
pub not_refused : {n p : ℕ} → refused_at (suc n) p ≡ passed → ⊥
not_refused e = let i = ap (λ (v : Verdict). v.number) e in omega arith

module _ (y : Plan) where
  -- the rows from number i + 1 on
  abbrev pub rows_past : ℕ → List Check
  rows_past i = drop i (plan_checks y)

  abbrev pub row_2 : Check
  row_2 = each 2 (section_count y) (section_bad y)

  abbrev pub row_3 : Check
  row_3 = each 3 (section_count y) (doubled y)

  abbrev pub row_4 : Check
  row_4 = each 4 y.points (degree_bad y)

  abbrev pub row_5 : Check
  row_5 = each 5 (turn_count y) (turn_bad y)

  abbrev pub row_6 : Check
  row_6 = each 6 (turn_count y) (second_turn y)

  -- row 1, which has one place: r says that the tables are good
  module _ {r : Bool} (e : r ≡ tables_good y) where
    pub past_1 : r ≡ true → {v : Verdict} → v ≡ verdict (rows_past 1) → v ≡ verdict (rows_past 0)
    past_1 t q =
        q ∙ sym (passes_once (not (tables_good y)) 1 (rows_past 1) ((not_not_iff (tables_good y)).1 (says_true (tables_good y) t e)))
