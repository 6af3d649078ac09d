use Rattle.std.proofs.Common.{rules, refl}
use Rattle.rules.specs.PlanCheck.{doubled}
use Rattle.plan.specs.Lent.{plan_lent}
use Rattle.plan.proofs.Finding.{first_from}
use Rattle.plan.proofs.read.Plan.first_doubled.Goals as goal

pub returns-then-at_most_three-clause-first : goal.returns-then-at_most_three-clause-first
returns-then-at_most_three-clause-first c =
    first_from _ _ _ _ (doubled (plan_lent c.args.self.now)) _ c.find.ensures.ran refl c.section_count.ensures (λ x q e. search rules) (λ x q e. search rules)

pub returns-else-at_most_three-clause-first : goal.returns-else-at_most_three-clause-first
returns-else-at_most_three-clause-first c =
    first_from _ _ _ _ (doubled (plan_lent c.args.self.now)) _ c.find-else-at_most_three.ensures.ran refl c.section_count-else-at_most_three.ensures
    (λ x q e. search rules) (λ x q e. search rules)
