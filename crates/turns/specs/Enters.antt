-- Which section a pull-out may enter.
-- Assumes nothing.
use Rattle.std.specs.Prelude.{List, ℕ}
use Rattle.rules.specs.Plan.{plan_of}
use Rattle.rules.specs.PullOut.{any_section}
use Rattle.rules.proofs.Ways.{may_use, Fits}

-- a pull-out for the turn from c to s may enter section e at p, come there over section h
abbrev pub Enters : List ℕ → List ℕ → ℕ → ℕ → ℕ → ℕ → ℕ → Type 0
Enters ss ts c s h p e = Fits (plan_of 0 ss ts) (may_use any_section c s) h p e
