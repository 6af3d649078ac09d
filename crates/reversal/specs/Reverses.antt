-- Whether a train can reverse.
-- Assumes nothing.
use Rattle.std.specs.Prelude.{Bool, true, false, List, ℕ}
use Rattle.rules.specs.Plan.{Plan, plan_of}
use Rattle.rules.specs.PullOut.{PullOut, NoPullOut, any_section}
use Rattle.turns.specs.declared.enter.Serving.{Serving}

-- the answer is whether there is a pull-out for (c, p, s) that takes the length need
pub data Reverses (y : Plan) (need c p s : ℕ) : Bool → Type 0 where
  can : (qs : List ℕ) → PullOut y any_section need c p s qs → Reverses y need c p s true
  can_not : NoPullOut y any_section need c p s → Reverses y need c p s false

-- whether there is one for the turn to be served at p, however many points the plan has
abbrev pub CanReverse : Serving → ℕ → ℕ → Bool → Type 0
CanReverse v p need r = (points : ℕ) → Reverses (plan_of points v.yard.now.plan.sections.now v.yard.now.plan.turns.now) need v.from p v.onto r
