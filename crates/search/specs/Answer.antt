-- The answer of the search as document 01's numbers, with both buffers.
-- Assumes nothing.
use Rattle.std.specs.Prelude.{List, ℕ, Result, Ok, Err}
use Rattle.rules.specs.declared.refusal.Refusal.{Refusal}
use Rattle.rules.specs.declared.route.Route.{Route}
use Rattle.rules.specs.Refused.{verdict_of}
use Rattle.rules.specs.Search.{Numbers, refusal, Outcome}

-- what each answer stands for: a walk's total, reversals and steps, or a refusal's number and place
abbrev pub numbers_of : Result Route Refusal → Numbers
numbers_of (Ok r) = record { refusal = 0; place = 0; total = r.total; reversals = r.reversals; steps = r.steps }
numbers_of (Err r) = refusal (verdict_of r)

-- the same with the two buffers at exit
abbrev pub result_of : Result Route Refusal → List ℕ → List ℕ → Outcome
result_of r route labels = record { numbers = numbers_of r; route = route; labels = labels }
