-- What an answer says to the caller, and what gives one: a way that was followed, a guess that found nothing, or a search.
-- Assumes nothing.
use mathlib.Core.Path.{◌≡◌}
use mathlib.Core.Bool.{Bool, true, false, true≢false, false≢true}
use mathlib.Core.List.{List}
use Prim.Native.Nat.{ℕ, ◌<◌}
use Rattle.std.proofs.Common.{Option}
use Rattle.std.specs.Option.{is_some}
use Rattle.rules.specs.Plan.{Plan, plan_of}
use Rattle.rules.specs.PullOut.{PullOut, NoPullOut, any_section}
use Rattle.rules.proofs.Ways.{may_use, only, Way}
use Rattle.rules.proofs.AnyPoints.{way_points}
use Rattle.rules.proofs.PullWays.{way_pull, no_pull}
use Rattle.tries.specs.Searched.{Searched, none_there, first_there}
use Rattle.reversal.specs.Reverses.{Reverses, can, can_not}
use Rattle.reversal.specs.Glanced.{Takes}

-- what the caller reads
pub reverses_true : {y : Plan} {need c p s : ℕ} {r : Bool} → Reverses y need c p s r → r ≡ true → (qs : List ℕ) × PullOut y any_section need c p s qs
reverses_true (can qs w) e = (qs, w)
reverses_true (can_not n) e = absurd (false≢true e)

pub reverses_false : {y : Plan} {need c p s : ℕ} {r : Bool} → Reverses y need c p s r → r ≡ false → NoPullOut y any_section need c p s
reverses_false (can qs w) e = absurd (true≢false e)
reverses_false (can_not n) e = n

module _ {ss ts : List ℕ} {n c p s : ℕ} where
  -- a list that leads on from the start is a pull-out
  pub way_reverses : 0 < n → (qs : List ℕ) → Way (plan_of 0 ss ts) (may_use any_section c s) n c p (only p) qs
      → (v : ℕ) → Reverses (plan_of v ss ts) n c p s true
  way_reverses z qs w v = can qs (way_pull z (way_points 0 v w))

  -- no list takes the length, whatever the marks
  pub none_reverses : ((qs : List ℕ) → Takes ss ts c s n c p qs → ⊥) → (v : ℕ) → Reverses (plan_of v ss ts) n c p s false
  none_reverses miss v = can_not (no_pull (λ rs k. miss rs (record { marks = only p; way = way_points v 0 k })))

-- the search for the first pull-out has found one, or there is none
pub searched_reverses : {y : Plan} {need c p s : ℕ} {n : Option ℕ} {b a : List ℕ} → Searched y need c p s b n a → Reverses y need c p s (is_some n)
searched_reverses (none_there e w miss) = rw e (can_not miss)
searched_reverses (first_there qs e l w f) = rw e (can qs f.pull_out)
