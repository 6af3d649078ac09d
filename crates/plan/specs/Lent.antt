-- A plan as it is lent, and the first number at which a test holds.
-- Assumes nothing.
use Rattle.std.specs.Prelude.{◌≡◌, Bool, true, false, ℕ, ◌<◌, Option, MatchOption}
use Rattle.rules.specs.Plan as rules
use Rattle.plan.specs.declared.read.Plan.{Plan}

-- the plan that stands in the lent tables
abbrev pub plan_lent : Plan → rules.Plan
plan_lent y = rules.plan_of y.points y.sections.now y.turns.now

-- the test fails at each number below n
abbrev pub NoneBelow : (ℕ → Bool) → ℕ → Type 0
NoneBelow f n = (k : ℕ) → k < n → f k ≡ false

-- the first of the n numbers from 0 on at which the test holds, or that it holds at none
abbrev pub First : (ℕ → Bool) → ℕ → Option ℕ → Type 0
First f n r = MatchOption r (NoneBelow f n) (λ i. (i < n) × (f i ≡ true) × NoneBelow f i)
