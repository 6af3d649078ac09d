-- What is asked, and that refusals 1 to 11 do not apply to it.
-- Assumes nothing.
use Rattle.std.specs.Prelude.{◌≡◌, ℕ}
use Rattle.rules.specs.Refusals.{verdict, passed}
use Rattle.rules.specs.Query as rules
use Rattle.plan.specs.Lent.{plan_lent}
use Rattle.train.specs.declared.Query.{Query}

-- the query that is asked over the lent tables
abbrev pub query_lent : Query → rules.Query
query_lent q = rules.query_of (plan_lent q.plan) q.length q.start q.leave q.finish q.enter

-- refusals 1 to 11 do not apply, with a label buffer of n numbers
abbrev pub Accepted : rules.Query → ℕ → Type 0
Accepted q n = verdict (rules.query_checks q n) ≡ passed
