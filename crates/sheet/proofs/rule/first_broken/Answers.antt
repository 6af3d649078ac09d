-- `rule::first_broken` meets its contract: what `find` tells of the arrivals.
-- Assumes nothing.
use Rattle.std.proofs.Common.{rules, tests, refl, arith}
use Rattle.rules.specs.Net.{KeepsRules}
use Rattle.rules.specs.Trip.{net_of}
use Rattle.sheet.specs.Keeping.{label_at}
use Rattle.sheet.proofs.Keeping.{first_from}
use Rattle.sheet.proofs.rule.first_broken.Goals as goal

pub returns-clause-first : goal.returns-clause-first
returns-clause-first c =
    λ t L m.
    first_from _ _ _ _ (KeepsRules (net_of t) (label_at c.args.labels.now)) _ c.find.ensures.ran refl refl (λ x q e. grind (arith, tests)) (λ x q e. (search rules, grind (arith, tests)))
