use Rattle.std.proofs.Common.{rules, refl}
use Rattle.rules.specs.Plan.{same_ends}
use Rattle.plan.specs.Lent.{plan_lent}
use Rattle.plan.proofs.Finding.{any_from}
use Rattle.plan.proofs.read.Plan.doubled_anywhere.Goals as goal

pub returns : goal.returns
returns c =
    any_from _ _ _ _ (same_ends (plan_lent c.args.self.now) c.args.s) _ c.any.ensures.ran refl refl (λ x q e. search rules) (λ x q e. search rules)
