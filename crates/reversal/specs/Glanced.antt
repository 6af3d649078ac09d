-- What a glance at one section tells. It looks at no marks, so it leaves out no list that any marks allow; what it lets pass goes on as
-- a pull-out does, but for the points passed.
-- Assumes nothing.
use Rattle.std.specs.Prelude.{◌≡◌, Bool, List, ◌∷◌, ℕ, ◌-◌, ◌≤◌, ◌<◌, T}
use Rattle.rules.specs.Plan.{plan_of, len, is_free, far, free_from}
use Rattle.rules.specs.PullOut.{any_section}
use Rattle.rules.proofs.Ways.{may_use, Way}
use Rattle.reversal.specs.declared.glance.Position.{Position}
use Rattle.reversal.specs.declared.glance.Ahead.{Ahead}
use Rattle.reversal.specs.declared.glance.Ahead.TheVariants.{Shut, Last, On}
use Rattle.turns.specs.Tables.{Arrived}
use Rattle.turns.specs.Enters.{Enters}
use Rattle.turns.specs.declared.enter.Serving.{Serving}

-- the list takes the length n of a train that came over section h to p and is pulled out for the turn from c to s, with some marks
pub record Takes (ss ts : List ℕ) (c s n h p : ℕ) (qs : List ℕ) : Type 0 where
  pub marks : ℕ → Bool
  pub way : Way (plan_of 0 ss ts) (may_use any_section c s) n h p marks qs

-- such a train goes on over section e to its far point q, and the length m is then left
pub record GoesOver (ss ts : List ℕ) (c s n h p e q m : ℕ) : Type 0 where
  pub enters : Enters ss ts c s h p e
  pub short : free_from (plan_of 0 ss ts) e p < n
  pub free : T (is_free (plan_of 0 ss ts) e)
  pub far : q ≡ far (plan_of 0 ss ts) e p
  pub left : m ≡ n - len (plan_of 0 ss ts) e

-- a train can have come there
abbrev pub CameTo : Serving → Position → Type 0
CameTo v from = Arrived v.yard.now.plan.sections.now from.over from.at

-- a train of some length stands there that is to serve the turn: it has come over the turn's first section
pub record Starts (v : Serving) (from : Position) : Type 0 where
  pub over : from.over ≡ v.from
  pub came : CameTo v from
  pub some : 0 < from.left

-- the list takes what is left there
abbrev pub TakesFrom : Serving → Position → List ℕ → Type 0
TakesFrom v from = Takes v.yard.now.plan.sections.now v.yard.now.plan.turns.now v.from v.onto from.left from.over from.at

-- section e may be entered there
abbrev pub EntersFrom : Serving → Position → ℕ → Type 0
EntersFrom v from e = Enters v.yard.now.plan.sections.now v.yard.now.plan.turns.now v.from v.onto from.over from.at e

-- the train goes on over section e from the one position to the other
pub record LeadsTo (v : Serving) (from : Position) (e : ℕ) (to : Position) : Type 0 where
  pub over : to.over ≡ e
  pub goes : GoesOver v.yard.now.plan.sections.now v.yard.now.plan.turns.now v.from v.onto from.left from.over from.at e to.at to.left

-- a glance at section e tells that no list begins with it, that it takes what is left, or that the train goes on over it
abbrev pub Glanced : Serving → Position → ℕ → Ahead → Type 0
Glanced v from e Shut = (qs : List ℕ) → TakesFrom v from (e ∷ qs) → ⊥
Glanced v from e Last = EntersFrom v from e × (from.left ≤ free_from (plan_of 0 v.yard.now.plan.sections.now v.yard.now.plan.turns.now) e from.at)
Glanced v from e (On to) = LeadsTo v from e to

-- where it is not shut, this is what a glance at some section tells
abbrev pub Seen : Serving → Position → Ahead → Type 0
Seen v from Shut = Unit {0}
Seen v from Last = (e : ℕ) × Glanced v from e Last
Seen v from (On to) = (e : ℕ) × Glanced v from e (On to)
