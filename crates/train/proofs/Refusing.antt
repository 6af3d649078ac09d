-- Refusals 1 to 11: how the answers of the plan's check and of the train's check, and the length of the label buffer, refuse a query or
-- accept it; and that the plan of an accepted query passes (`plan_accepted`).
-- Assumes nothing.
use Rattle.std.proofs.Common.{◌≡◌, ◌≢◌, ℕ, not, List, [], ◌∷◌, ◌++◌, sym, ap, ◌∙◌, eqb}
use Rattle.rules.specs.Plan.{arrivals}
use Rattle.rules.specs.PlanCheck.{plan_checks}
use Rattle.rules.specs.Refusals.{Verdict, Check, passed, once, verdict}
use Rattle.rules.specs.Refused.{verdict_of}
use Rattle.rules.specs.declared.refusal.Refusal.{Refusal}
use Rattle.rules.specs.declared.refusal.Refusal.TheVariants.{Labels}
use Rattle.rules.specs.Query.{Query, train_checks, query_checks}
use Rattle.rules.proofs.Refused.{refusal_numbered}
use Rattle.rules.proofs.Tests.{tests}
use Rattle.rules.proofs.Verdicts.{refuses_once, passes_once, refused_first, passed_first, passes, accepts, passes_both}
use Rattle.train.specs.Asked.{Accepted}

-- row 11
abbrev label_check : Query → ℕ → List Check
label_check q n = once 11 (not (eqb n (arrivals q.plan))) ∷ []

-- a list of checks whose verdict is a refusal, before another
before : (cs ds : List Check) (r : Refusal) → verdict_of r ≡ verdict cs → verdict (cs ++ ds) ≡ verdict_of r
before cs ds r e = refused_first cs ds (λ z. refusal_numbered r (ap (λ (v : Verdict). v.number) e ∙ z)) ∙ sym e

module _ (q : Query) (n : ℕ) where
  pub plan_accepted : Accepted q n → verdict (plan_checks q.plan) ≡ passed
  plan_accepted ok =
      accepts (plan_checks q.plan) (passes_both (plan_checks q.plan) (train_checks q ++ label_check q n) (passes (query_checks q n) tt ok)).0

  pub plan_refused : (r : Refusal) → verdict_of r ≡ verdict (plan_checks q.plan) → verdict (query_checks q n) ≡ verdict_of r
  plan_refused r e = before (plan_checks q.plan) (train_checks q ++ label_check q n) r e

  module _ (ok : passed ≡ verdict (plan_checks q.plan)) where
    after_6 : verdict (query_checks q n) ≡ verdict (train_checks q ++ label_check q n)
    after_6 = passed_first (plan_checks q.plan) (train_checks q ++ label_check q n) tt (sym ok)

    pub train_refused : (r : Refusal) → verdict_of r ≡ verdict (train_checks q) → verdict (query_checks q n) ≡ verdict_of r
    train_refused r e = after_6 ∙ before (train_checks q) (label_check q n) r e

    module _ (stands : passed ≡ verdict (train_checks q)) where
      after_10 : verdict (query_checks q n) ≡ verdict (label_check q n)
      after_10 = after_6 ∙ passed_first (train_checks q) (label_check q n) tt (sym stands)

      pub labels_refused : n ≢ arrivals q.plan → verdict (query_checks q n) ≡ verdict_of Labels
      labels_refused d = after_10 ∙ refuses_once (not (eqb n (arrivals q.plan))) 11 [] (simp tests d)

      pub accepted : n ≡ arrivals q.plan → Accepted q n
      accepted i = after_10 ∙ passes_once (not (eqb n (arrivals q.plan))) 11 [] (simp tests i)
