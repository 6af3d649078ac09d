-- What the tests of a glance come to, and what follows from it: beyond a section that is gone over, the lists go on.
-- Assumes nothing.
use mathlib.Core.Path.{◌≡◌}
use mathlib.Core.Bool.{Bool, false, not}
use mathlib.Core.List.{List, ◌∷◌}
use Prim.Native.Nat.{ℕ, ◌<◌}
use native.Mathlib.Omega.{arith}
use lib.Dec.{T}
use Rattle.rules.specs.Plan.{plan_of, len, is_free, far, free_from}
use Rattle.rules.specs.PullOut.{any_section}
use Rattle.rules.proofs.Tests.{clash, says_false}
use Rattle.rules.proofs.Ways.{may_use, mark, Way, next, free_whole, way_fits, way_onward}
use Rattle.turns.specs.Tables.{Arrived}
use Rattle.turns.proofs.Entering.{at_far, entry, T_entry}
use Rattle.turns.specs.declared.enter.Serving.{Serving}
use Rattle.reversal.specs.declared.glance.Position.{Position}
use Rattle.reversal.specs.Glanced.{Takes, GoesOver, CameTo, TakesFrom, LeadsTo}

-- the list leads on from there, with these marks
abbrev pub WayFrom : Serving → Position → (ℕ → Bool) → List ℕ → Type 0
WayFrom v from = Way (plan_of 0 v.yard.now.plan.sections.now v.yard.now.plan.turns.now) (may_use any_section v.from v.onto) from.left from.over from.at

-- no list begins with a section that may not be entered, nor with one that is too short to be the last and not free
module _ (ss ts : List ℕ) (c s n h p e : ℕ) where
  pub glanced_out : {r : Bool} → r ≡ entry ss ts c s h p e → r ≡ false → (qs : List ℕ) → Takes ss ts c s n h p (e ∷ qs) → ⊥
  glanced_out i k qs w = clash (entry ss ts c s h p e) (T_entry ss ts c s h p e (way_fits w.way)) (says_false (entry ss ts c s h p e) k i)

  pub glanced_occupied : {x : ℕ} {r : Bool} → x ≡ free_from (plan_of 0 ss ts) e p → x < n → r ≡ is_free (plan_of 0 ss ts) e → r ≡ false
      → (qs : List ℕ) → Takes ss ts c s n h p (e ∷ qs) → ⊥
  glanced_occupied i l j k qs w =
      let short : free_from (plan_of 0 ss ts) e p < n = omega arith in
      clash (is_free (plan_of 0 ss ts) e) (way_onward short w.way).0 (says_false (is_free (plan_of 0 ss ts) e) k j)

-- beyond a section that is gone over
module _ {ss ts : List ℕ} {c s n h p e q m : ℕ} (g : GoesOver ss ts c s n h p e q m) where
  over_arrived : Arrived ss e q
  over_arrived = record { inside = g.enters.inside; touch = rw g.far (at_far (plan_of 0 ss ts) e p) }

  longer : len (plan_of 0 ss ts) e < n
  longer = omega (arith, g.short, free_whole (plan_of 0 ss ts) e p g.free)

  -- what leads on from there leads on from before, where its far point has no mark
  over_way : {marks : ℕ → Bool} {qs : List ℕ} → T (not (marks q)) → Way (plan_of 0 ss ts) (may_use any_section c s) m e q (mark q marks) qs
      → Way (plan_of 0 ss ts) (may_use any_section c s) n h p marks (e ∷ qs)
  over_way new w = next g.enters g.free longer (rw g.far at new) (rw (g.left, g.far) at w)

  over_takes : (qs : List ℕ) → Takes ss ts c s n h p (e ∷ qs) → Takes ss ts c s m e q qs
  over_takes qs w =
      let v : Way (plan_of 0 ss ts) (may_use any_section c s) m e q (mark (far (plan_of 0 ss ts) e p) w.marks) qs =
      rw (g.left, g.far) (way_onward g.short w.way).2 in
      record { marks = mark (far (plan_of 0 ss ts) e p) w.marks; way = v }

-- the same from one position to the next
module _ {v : Serving} {from to : Position} {e : ℕ} (g : LeadsTo v from e to) where
  pub leads_came : CameTo v to
  leads_came = rw g.over (over_arrived g.goes)

  pub leads_takes : (qs : List ℕ) → TakesFrom v from (e ∷ qs) → TakesFrom v to qs
  leads_takes qs w = rw g.over (over_takes g.goes qs w)

  pub leads_way : {marks : ℕ → Bool} {qs : List ℕ} → T (not (marks to.at)) → WayFrom v to (mark to.at marks) qs → WayFrom v from marks (e ∷ qs)
  leads_way new w = over_way g.goes new (rw g.over at w)
