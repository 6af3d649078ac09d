-- `claim::check_labels` meets its contract: a label breaks a rule, or the start label is compared.
-- Assumes nothing.
use Rattle.std.proofs.Common.{refl}
use Rattle.sheet.specs.Checking.{bad_label}
use Rattle.sheet.proofs.claim.check_labels.Goals as goal

pub returns-in-Some-clause-answer : goal.returns-in-Some-clause-answer
returns-in-Some-clause-answer c = λ t L m. let f = c.in-Some.ensures.first t L m in bad_label c.in-Some.bad refl f.0 f.1 f.2
