-- What is asked, and the yard that is made ready for it.
-- Assumes nothing.
use Rattle.std.specs.Prelude.{◌≡◌}
use Rattle.rules.specs.PullAnswer as rules
use Rattle.plan.specs.Lent.{plan_lent}
use Rattle.turns.specs.declared.yard.Yard.{Yard}
use Rattle.turns.specs.Tables.{Ready}
use Rattle.pullout.specs.declared.Reversal.{Reversal}

-- the reversal that is asked for over the lent tables
abbrev pub reversal_lent : Reversal → rules.Reversal
reversal_lent v = rules.reversal_of (plan_lent v.plan) v.length v.arrival v.section

-- the yard has the plan that is asked about, and is ready
pub record Prepared (v : Reversal) (y : Yard) : Type 0 where
  pub same : y.plan ≡ v.plan
  pub ready : Ready y
