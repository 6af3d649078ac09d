-- The answer of the call for one pull-out as document 01's numbers.
-- Assumes nothing.
use Rattle.std.specs.Prelude.{List, ℕ, Result, Ok, Err}
use Rattle.rules.specs.PullAnswer.{Pulled as Numbers, not_pulled}
use Rattle.rules.specs.Refused.{verdict_of}
use Rattle.rules.specs.declared.refusal.Refusal.{Refusal}

-- the refusal, the place and the count that each answer stands for, with the lent list at exit
abbrev pub numbers_of : Result ℕ Refusal → List ℕ → Numbers
numbers_of (Ok n) list = record { refusal = 0; place = 0; count = n; list = list }
numbers_of (Err r) list = not_pulled (verdict_of r) list
