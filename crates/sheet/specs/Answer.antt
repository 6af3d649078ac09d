-- The answer of the sheet checker as document 01's numbers, and what may be answered.
-- Assumes nothing.
use Rattle.std.specs.Prelude.{◌≡◌, Option, None, Some, Result, Ok, Err}
use Rattle.rules.specs.Refusals.{passed}
use Rattle.rules.specs.Refused.{verdict_of}
use Rattle.rules.specs.Query.{Query}
use Rattle.rules.specs.Search.{Numbers, refusal}
use Rattle.rules.specs.Sheet.{Sheet, SheetAnswer}
use Rattle.rules.specs.declared.refusal.Refusal.{Refusal}
use Rattle.rules.specs.declared.route.Route.{Route}

-- what each answer stands for: the total, the reversals and the steps of an accepted list, zeros for an accepted "no route", or a refusal's number and place
abbrev pub numbers_of : Result (Option Route) Refusal → Numbers
numbers_of (Ok (Some w)) = record { refusal = 0; place = 0; total = w.total; reversals = w.reversals; steps = w.steps }
numbers_of (Ok None) = refusal passed
numbers_of (Err r) = refusal (verdict_of r)

-- the numbers of a walk are said of a sheet that claims one, and "no route" of one that claims none
abbrev pub Claimed : Sheet → Result (Option Route) Refusal → Type 0
Claimed h (Ok (Some w)) = h.claim ≡ 1
Claimed h (Ok None) = h.claim ≡ 0
Claimed h (Err r) = Unit

-- what may be answered to the sheet h of the query q
pub record Judges (q : Query) (h : Sheet) (r : Result (Option Route) Refusal) : Type 0 where
  pub numbers : SheetAnswer q h (numbers_of r)
  pub claimed : Claimed h r
