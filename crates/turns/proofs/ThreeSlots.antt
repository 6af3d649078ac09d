-- The three slots of a point: they hold all its sections, in ascending order.
-- Assumes nothing.
use mathlib.Core.Path.{◌≡◌, sym}
use mathlib.Core.Logic.{◌⊎◌, inl, inr}
use mathlib.Core.List.{List}
use Prim.Native.Nat.{ℕ, zero, suc, ◌+◌, ◌*◌, ◌≤◌, ◌<◌}
use native.Mathlib.Omega.{arith}
use native.Mathlib.Decide.{dec_lt}
use lib.Dec.{T}
use lib.ListN.{get_or}
use Rattle.rules.specs.Plan.{of_sections, section_count, touches}
use Rattle.rules.specs.PlanCheck.{degree}
use Rattle.plan.specs.Ends.{Joined, AtMostThree, Slots, degree_before}
use Rattle.plan.proofs.Counting.{Counted, count_mono, count_reaches}
use Rattle.plan.proofs.SlotTable.{slot_low}

module _ {ss slots : List ℕ} (joined : Joined ss) (three : AtMostThree ss) (slotted : Slots ss slots) where
  -- a section at p stands in one of them
  pub in_slot : (s p : ℕ) → s < section_count (of_sections ss) → T (touches (of_sections ss) s p)
      → (s ≡ get_or slots (3 * p + 0) 0) ⊎ ((s ≡ get_or slots (3 * p + 1) 0) ⊎ (s ≡ get_or slots (3 * p + 2) 0))
  in_slot s p l t = go (degree_before ss p s) (slot_low joined three s p l t) (sym (slotted.stands s p l t))
    where
      go : (k : ℕ) → k < 3 → s ≡ get_or slots (3 * p + k) 0
          → (s ≡ get_or slots (3 * p + 0) 0) ⊎ ((s ≡ get_or slots (3 * p + 1) 0) ⊎ (s ≡ get_or slots (3 * p + 2) 0))
      go zero h e = inl e
      go (suc zero) h e = inr (inl e)
      go (suc (suc zero)) h e = inr (inr e)
      go (suc (suc (suc k))) h e = absurd (omega arith)

  -- the section in a slot below the degree
  held : (p j : ℕ) (r : Counted (λ s. touches (of_sections ss) s p) (section_count (of_sections ss)) j) → get_or slots (3 * p + j) 0 ≡ r.number
  held p j r = rw r.earlier at (slotted.stands r.number p r.low r.holds)

  pub ascending : (p j k : ℕ) → p < 768 → j < k → k < 3 → get_or slots (3 * p + j) 0 ≤ get_or slots (3 * p + k) 0
  ascending p j k l m h = go (dec_lt j (degree (of_sections ss) p)) (dec_lt k (degree (of_sections ss) p))
    where
      order : (x z : ℕ) → degree_before ss p x ≡ j → degree_before ss p z ≡ k → Dec (x < z) → x ≤ z
      order x z e f (yes d) = omega arith
      order x z e f (no d) = absurd (omega (arith, count_mono (λ s. touches (of_sections ss) s p) z x (omega arith)))

      go : Dec (j < degree (of_sections ss) p) → Dec (k < degree (of_sections ss) p) → get_or slots (3 * p + j) 0 ≤ get_or slots (3 * p + k) 0
      go (yes d) (yes e) =
          let a = count_reaches (λ s. touches (of_sections ss) s p) (section_count (of_sections ss)) j d in
          let b = count_reaches (λ s. touches (of_sections ss) s p) (section_count (of_sections ss)) k e in
          rw (held p j a, held p k b) (order a.number b.number a.earlier b.earlier (dec_lt a.number b.number))
      go (yes d) (no e) =
          let a = count_reaches (λ s. touches (of_sections ss) s p) (section_count (of_sections ss)) j d in
          omega (arith, held p j a, a.low, joined.few, slotted.beyond p k l (omega arith) h)
      go (no d) e = omega (arith, slotted.beyond p j l (omega arith) (omega arith), slotted.beyond p k l (omega arith) h)
