-- What a try looks for, and what a look at one section tells it.
-- Assumes nothing.
use Rattle.std.specs.Prelude.{◌≡◌, Bool, false, not, List, ℕ, ◌≤◌, ◌<◌, T}
use Rattle.rules.specs.Plan.{plan_of, len, is_free, far, free_from}
use Rattle.rules.specs.PullOut.{any_section}
use Rattle.rules.proofs.Ways.{may_use, only, Way}
use Rattle.turns.specs.Enters.{Enters}
use Rattle.lessons.specs.Limit.{Hopeless}
use Rattle.tries.specs.declared.marks.Try.{Try}
use Rattle.tries.specs.declared.look.Look.{Look}
use Rattle.tries.specs.declared.look.Look.TheVariants.{Shut, Met, Last, On}
use Rattle.tries.specs.Marks.{marked}
use Rattle.tries.specs.Tried.{Heads}

-- the lists that such a try looks for, when it has come over section h to p
abbrev pub Goes : List ℕ → List ℕ → ℕ → ℕ → Try → ℕ → ℕ → List ℕ → Type 0
Goes ss ts c s t h p qs = Way (plan_of 0 ss ts) (may_use any_section c s) t.left h p (marked t) qs

-- a try with these marks and the length `left` goes on over section e, which has the length n, to its far point q
pub record GoesOn (ss ts : List ℕ) (c s : ℕ) (marks : ℕ → Bool) (left h p e q n : ℕ) : Type 0 where
  pub enters : Enters ss ts c s h p e
  pub short : free_from (plan_of 0 ss ts) e p < left
  pub free : T (is_free (plan_of 0 ss ts) e)
  pub far : q ≡ far (plan_of 0 ss ts) e p
  pub new : T (not (marks q))
  pub long : n ≡ len (plan_of 0 ss ts) e

-- what a look at section e tells: no list begins with it, for no reason that is a mark, or because q has one; it takes what is left; or
-- the try goes on
abbrev pub Looked : List ℕ → List ℕ → ℕ → ℕ → (ℕ → Bool) → ℕ → ℕ → ℕ → ℕ → Look → Type 0
Looked ss ts c s marks left h p e (Shut n) = Hopeless ss ts c s h p (Heads e) marks left (λ k. false) n
Looked ss ts c s marks left h p e (Met q n) = (q < 768) × Hopeless ss ts c s h p (Heads e) marks left (only q) n
Looked ss ts c s marks left h p e Last = Enters ss ts c s h p e × (left ≤ free_from (plan_of 0 ss ts) e p)
Looked ss ts c s marks left h p e (On q n) = GoesOn ss ts c s marks left h p e q n
