-- The other sections of a point at which a train has come over one of them: two, in ascending order, and no more.
-- Assumes nothing.
use mathlib.Core.Path.{◌≡◌, refl, sym, ◌∙◌}
use mathlib.Core.Logic.{◌≢◌, ◌⊎◌, inl, inr}
use mathlib.Core.List.{List}
use Prim.Native.Nat.{ℕ, ◌+◌, ◌*◌, ◌<◌}
use native.Mathlib.Omega.{arith}
use native.Mathlib.Decide.{ℕ_discrete, dec_lt}
use borrow.Author.Tests.{eq-eqb, ne_eqb}
use lib.ListN.{get_or}
use Rattle.rules.specs.Plan.{of_sections, section_count, touches}
use Rattle.rules.specs.PlanCheck.{degree}
use Rattle.plan.specs.Ends.{Joined, AtMostThree, Slots, no_section}
use Rattle.plan.proofs.Counting.{Counted, count_reaches}
use Rattle.plan.proofs.SlotTable.{slot_holds}
use Rattle.turns.specs.Tables.{Arrived}
use Rattle.turns.proofs.ThreeSlots.{ascending}
use Rattle.steps.specs.StepOver.{other_than}

-- one of the two numbers is not c
module _ (c x y : ℕ) where
  pub other_second : x ≡ c → other_than c x y ≡ y
  other_second e = rw (eq-eqb x c e) refl

  pub other_first : x ≢ c → other_than c x y ≡ x
  other_first n = rw (ne_eqb x c n) refl

-- three numbers rise, but that "none" may stand at the end of them more than once
pub record Rising (x y z : ℕ) : Type 0 where
  pub first : y ≢ no_section → x < y
  pub second : z ≢ no_section → y < z
  pub both : z ≢ no_section → x < z

module _ {c x y z : ℕ} (R : Rising x y z) (l : c < no_section) where
  -- the other two rise
  pub others_rise : other_than c z y ≢ no_section → other_than c x y < other_than c z y
  others_rise n = go (ℕ_discrete x c) (ℕ_discrete z c)
    where
      go : Dec (x ≡ c) → Dec (z ≡ c) → other_than c x y < other_than c z y
      go (yes e) (yes f) = absurd (omega (arith, R.both (λ i. omega arith)))
      go (yes e) (no f) = rw (other_second c x y e, other_first c z y f) (R.second (rw (other_first c z y f) at n))
      go (no e) (yes f) = rw (other_first c x y e, other_second c z y f) (R.first (rw (other_second c z y f) at n))
      go (no e) (no f) = rw (other_first c x y e, other_first c z y f) (R.both (rw (other_first c z y f) at n))

  -- neither is c
  pub low_not : other_than c x y ≢ c
  low_not i = go (ℕ_discrete x c)
    where
      go : Dec (x ≡ c) → ⊥
      go (yes e) = let k = sym (other_second c x y e) ∙ i in omega (arith, R.first (λ j. omega arith))
      go (no e) = e (sym (other_first c x y e) ∙ i)

  pub high_not : other_than c z y ≢ c
  high_not i = go (ℕ_discrete z c)
    where
      go : Dec (z ≡ c) → ⊥
      go (yes e) = let k = sym (other_second c z y e) ∙ i in omega (arith, R.second (λ j. omega arith))
      go (no e) = e (sym (other_first c z y e) ∙ i)

-- one of the three that is not c is one of the other two
pub other_of : {c x y z n : ℕ} → (c ≡ x) ⊎ ((c ≡ y) ⊎ (c ≡ z)) → (n ≡ x) ⊎ ((n ≡ y) ⊎ (n ≡ z)) → n ≢ c → (n ≡ other_than c x y) ⊎ (n ≡ other_than c z y)
other_of {c} {x} {y} {z} i (inl j) n = inl (j ∙ sym (other_first c x y (λ e. n (j ∙ e))))
other_of {c} {x} {y} {z} (inl i) (inr (inl j)) n = inl (j ∙ sym (other_second c x y (sym i)))
other_of {c} {x} {y} {z} (inr (inl i)) (inr (inl j)) n = absurd (n (j ∙ sym i))
other_of {c} {x} {y} {z} (inr (inr i)) (inr (inl j)) n = inr (j ∙ sym (other_second c z y (sym i)))
other_of {c} {x} {y} {z} i (inr (inr j)) n = inr (j ∙ sym (other_first c z y (λ e. n (j ∙ e))))

-- a property of both is one of each
pub other_either : (P : ℕ → Type 0) (c x y : ℕ) → P x → P y → P (other_than c x y)
other_either P c x y u w = go (ℕ_discrete x c)
  where
    go : Dec (x ≡ c) → P (other_than c x y)
    go (yes e) = rw (other_second c x y e) w
    go (no e) = rw (other_first c x y e) u

module _ {ss slots : List ℕ} (joined : Joined ss) (three : AtMostThree ss) (slotted : Slots ss slots) (p : ℕ) (low : p < 768) where
  -- a section in a slot of p is one at p
  pub slot_there : (j : ℕ) → j < 3 → get_or slots (3 * p + j) 0 < section_count (of_sections ss) → Arrived ss (get_or slots (3 * p + j) 0) p
  slot_there j h l = go (dec_lt j (degree (of_sections ss) p))
    where
      go : Dec (j < degree (of_sections ss) p) → Arrived ss (get_or slots (3 * p + j) 0) p
      go (yes d) =
          let w = slot_holds slotted p (section_count (of_sections ss)) j (omega arith) d in
          record { inside = l; touch = rw w.3 w.2 }
      go (no d) = absurd (omega (arith, slotted.beyond p j low (omega arith) h, joined.few))

  -- the same section does not stand twice
  pub slots_rise : (j k : ℕ) → j < k → k < 3 → get_or slots (3 * p + k) 0 ≢ no_section → get_or slots (3 * p + j) 0 < get_or slots (3 * p + k) 0
  slots_rise j k m h n = go (dec_lt k (degree (of_sections ss) p))
    where
      held : (i : ℕ) (r : Counted (λ s. touches (of_sections ss) s p) (section_count (of_sections ss)) i) → get_or slots (3 * p + i) 0 ≡ r.number
      held i r = rw r.earlier at (slotted.stands r.number p r.low r.holds)

      go : Dec (k < degree (of_sections ss) p) → get_or slots (3 * p + j) 0 < get_or slots (3 * p + k) 0
      go (yes d) =
          let a = count_reaches (λ s. touches (of_sections ss) s p) (section_count (of_sections ss)) j (omega arith) in
          let b = count_reaches (λ s. touches (of_sections ss) s p) (section_count (of_sections ss)) k d in
          apart (ℕ_discrete (get_or slots (3 * p + j) 0) (get_or slots (3 * p + k) 0)) a b
        where
          apart : Dec (get_or slots (3 * p + j) 0 ≡ get_or slots (3 * p + k) 0)
              → Counted (λ s. touches (of_sections ss) s p) (section_count (of_sections ss)) j → Counted (λ s. touches (of_sections ss) s p) (section_count (of_sections ss)) k
              → get_or slots (3 * p + j) 0 < get_or slots (3 * p + k) 0
          apart (yes e) a b =
              let z : a.number ≡ b.number = sym (held j a) ∙ e ∙ held k b in
              absurd (omega (arith, rw z at a.earlier, b.earlier))
          apart (no e) a b = omega (arith, ascending joined three slotted p j k low m h)
      go (no d) = absurd (n (slotted.beyond p k low (omega arith) h))

  pub slots_rising : Rising (get_or slots (3 * p + 0) 0) (get_or slots (3 * p + 1) 0) (get_or slots (3 * p + 2) 0)
  slots_rising = record {
    first = slots_rise 0 1 (omega arith) (omega arith);
    second = slots_rise 1 2 (omega arith) (omega arith);
    both = slots_rise 0 2 (omega arith) (omega arith);
  }
