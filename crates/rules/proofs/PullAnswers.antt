-- The contract of the call for one pull-out determines its answer and the lent list (`pull_unique`).
-- Assumes nothing.
use mathlib.Core.Path.{◌≡◌, ap}
use mathlib.Core.Bool.{Bool}
use mathlib.Core.List.{List}
use Prim.Native.Nat.{ℕ}
use native.Mathlib.Omega.{arith}
use lib.ListN.{length}
use Rattle.rules.specs.Plan.{Plan}
use Rattle.rules.specs.PullOut.{FirstPullOut}
use Rattle.rules.specs.PullAnswer.{Reversal, Pulled, PullAnswer, refused, none_found, no_space, pulled}
use Rattle.rules.proofs.Verdicts.{not_both}
use Rattle.rules.proofs.First.{not_after_antisym}

-- of two first pull-outs neither comes after the other
pub first_pull_unique : {y : Plan} {may_pull : ℕ → Bool} {need c p s : ℕ} {qs rs : List ℕ} → FirstPullOut y may_pull need c p s qs
    → FirstPullOut y may_pull need c p s rs → qs ≡ rs
first_pull_unique {qs = qs} {rs = rs} f g = not_after_antisym (f.first rs g.pull_out) (g.first qs f.pull_out)

-- the cases exclude one another: a refusal and a passed check, no pull-out and a pull-out, a list too short and one long enough
pub pull_unique : {v : Reversal} {list : List ℕ} {r s : Pulled} → PullAnswer v list r → PullAnswer v list s → r ≡ s
pull_unique (refused w e n z) (refused u f m x) = cc
pull_unique (refused w e n z) (none_found f g x) = absurd (not_both e f n)
pull_unique (refused w e n z) (no_space qs f g l x) = absurd (not_both e f n)
pull_unique (refused w e n z) (pulled qs f g l x) = absurd (not_both e f n)
pull_unique (none_found e g z) (refused w f n x) = absurd (not_both f e n)
pull_unique (none_found e g z) (none_found f h x) = cc
pull_unique (none_found e g z) (no_space qs f h l x) = absurd (g qs h.pull_out)
pull_unique (none_found e g z) (pulled qs f h l x) = absurd (g qs h.pull_out)
pull_unique (no_space qs e g l z) (refused w f n x) = absurd (not_both f e n)
pull_unique (no_space qs e g l z) (none_found f h x) = absurd (h qs g.pull_out)
pull_unique (no_space qs e g l z) (no_space rs f h m x) = cc
pull_unique (no_space qs e g l z) (pulled rs f h m x) = let p = ap length (first_pull_unique g h) in absurd (omega arith)
pull_unique (pulled qs e g l z) (refused w f n x) = absurd (not_both f e n)
pull_unique (pulled qs e g l z) (none_found f h x) = absurd (h qs g.pull_out)
pull_unique (pulled qs e g l z) (no_space rs f h m x) = let p = ap length (first_pull_unique g h) in absurd (omega arith)
pull_unique (pulled qs e g l z) (pulled rs f h m x) = let p = first_pull_unique g h in cc
