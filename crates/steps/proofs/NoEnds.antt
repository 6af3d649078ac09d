-- Where a point has one section only, no arrival comes there over another.
-- Assumes nothing.
use mathlib.Core.Path.{◌≡◌, refl, sym, ◌∙◌}
use mathlib.Core.Logic.{◌≢◌, ⊎_elim}
use mathlib.Core.List.{List}
use Prim.Native.Nat.{ℕ, ◌+◌, ◌*◌, ◌/◌, ◌≤◌, ◌<◌}
use native.Mathlib.Omega.{arith}
use lib.Dec.{T}
use lib.ListN.{get_or}
use Rattle.rules.specs.Plan.{of_sections, section_count, end_A, end_B, end_at, touches, arrivals, to_point}
use Rattle.rules.proofs.Sound.{at_both_ends}
use Rattle.plan.specs.Ends.{Indexed, no_section}
use Rattle.plan.proofs.Touching.{touch_A, touch_B, touch_below}
use Rattle.turns.specs.Tables.{Arrived}
use Rattle.turns.proofs.ThreeSlots.{in_slot, ascending}
use Rattle.steps.proofs.Arrivals.{comes_there}

module _ {ss slots : List ℕ} (indexed : Indexed ss slots) (finish enter : ℕ) (low : finish < section_count (of_sections ss)) (e : enter ≤ 1)
    {p : ℕ} (i : p ≡ end_at (of_sections ss) finish enter) where
  finish_there : Arrived ss finish p
  finish_there = record {
    inside = low;
    touch = rw i (at_both_ends (λ k. T (touches (of_sections ss) finish (end_at (of_sections ss) finish k)))
        (touch_A ss finish (end_A (of_sections ss) finish) refl) (touch_B ss finish (end_B (of_sections ss) finish) refl) enter e);
  }

  pub goal_low : p < 768
  goal_low = touch_below (indexed.joined.each finish low) p finish_there.touch

  -- nothing stands in the second slot
  module _ {x : ℕ} (j : x ≡ get_or slots (3 * p + 1) 0) (k : x ≡ no_section) where
    only_one : (s : ℕ) → Arrived ss s p → s ≡ get_or slots (3 * p + 0) 0
    only_one s a =
        let few = indexed.joined.few in
        let last = ascending indexed.joined indexed.three indexed.slotted p 1 2 goal_low (omega arith) (omega arith) in
        let inside = a.inside in
        ⊎_elim (λ z. z) (⊎_elim (λ z. absurd (omega arith)) (λ z. absurd (omega arith)))
        (in_slot indexed.joined indexed.three indexed.slotted s p a.inside a.touch)

    pub none_other : (a : ℕ) → a < arrivals (of_sections ss) → to_point (of_sections ss) a ≡ p → a / 2 ≢ finish → ⊥
    none_other a l c n = n (only_one (a / 2) (comes_there a l (sym c)) ∙ sym (only_one finish finish_there))
