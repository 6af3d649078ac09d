-- Refusal 3 at a section, looked for in the slots of its end A that come before its own.
-- Assumes nothing.
use mathlib.Core.Path.{◌≡◌, ◌∙◌}
use mathlib.Core.Bool.{Bool, true, false, not}
use mathlib.Core.List.{List}
use Prim.Native.Nat.{ℕ, ◌+◌, ◌*◌, ◌≤◌, ◌<◌}
use native.Mathlib.Omega.{arith}
use native.Mathlib.Nat.{eq-or-lt_of_le}
use mathlib.Core.Logic.{◌⊎◌, inl, inr}
use lib.Dec.{T}
use lib.ListN.{get_or}
use Rattle.rules.specs.Plan.{of_sections, section_count, end_A, touches, same_ends}
use Rattle.rules.specs.PlanCheck.{doubled}
use Rattle.rules.proofs.Tests.{clash, gives_true, gives_false, says_true, says_false}
use Rattle.rules.proofs.Ranges.{some_T, T_some, one_more}
use Rattle.plan.specs.Ends.{Indexed, degree_before}
use Rattle.plan.proofs.Counting.{count_passes}
use Rattle.plan.proofs.Touching.{touch_A, same_touch}
use Rattle.plan.proofs.SlotTable.{slot_low, slot_holds}

-- the number of the slot of its end A in which section s stands
abbrev pub own : List ℕ → ℕ → ℕ
own ss s = degree_before ss (end_A (of_sections ss) s) s

-- the loop has come to slot j of a, the end A of section s: none of the slots before it, which all come before its own, has a
-- section that joins the same two points
pub record Looked (ss slots : List ℕ) (s a j : ℕ) : Type 0 where
  pub known : Indexed ss slots
  pub low : s < section_count (of_sections ss)
  pub end : a ≡ end_A (of_sections ss) s
  pub within : j ≤ own ss s
  pub none : (i : ℕ) → i < j → T (not (same_ends (of_sections ss) s (get_or slots (3 * end_A (of_sections ss) s + i) 0)))

pub looked_none : {ss slots : List ℕ} {s a : ℕ} → Indexed ss slots → s < section_count (of_sections ss) → a ≡ end_A (of_sections ss) s → Looked ss slots s a 0
looked_none k l e = record { known = k; low = l; end = e; within = omega arith; none = λ i h. absurd (omega arith) }

-- r is what stands in slot j, and q whether it joins the same two points
module _ {ss slots : List ℕ} {s a j : ℕ} (looked : Looked ss slots s a j) where
  own_touch : T (touches (of_sections ss) s (end_A (of_sections ss) s))
  own_touch = touch_A ss s (end_A (of_sections ss) s) (omega arith)

  pub slot_inside : j < 3
  slot_inside = omega (arith, looked.within, slot_low looked.known.joined looked.known.three s (end_A (of_sections ss) s) looked.low own_touch)

  module _ {r : ℕ} (e : r ≡ get_or slots (3 * a + j) 0) where
    -- a slot before its own holds an earlier section
    earlier : j < own ss s → r < s
    earlier u =
        let h = slot_holds looked.known.slotted (end_A (of_sections ss) s) s j (omega (arith, looked.low)) u in
        omega (arith, h.1, rw looked.end at e, h.3)

    pub nothing_nearby : r ≡ s → false ≡ doubled (of_sections ss) s
    nothing_nearby o = gives_false (λ t. let w = some_T (same_ends (of_sections ss) s) 0 s t in twin w.0 (omega (arith, w.1)) w.2 (eq-or-lt_of_le looked.within))
      where
        twin : (t : ℕ) → t < s → T (same_ends (of_sections ss) s t) → (j ≡ own ss s) ⊎ (j < own ss s) → ⊥
        twin t u v (inr w) = omega (arith, earlier w)
        twin t u v (inl w) =
            let x = same_touch (looked.known.joined.each t (omega (arith, looked.low))) s v in
            let n = count_passes (λ k. touches (of_sections ss) k (end_A (of_sections ss) s)) t s u x in
            let g = looked.none (degree_before ss (end_A (of_sections ss) s) t) (omega arith) in
            clash (same_ends (of_sections ss) s t) v (rw (looked.known.slotted.stands t (end_A (of_sections ss) s) (omega (arith, looked.low)) x) at g)

    module _ (o : r ≡ s → ⊥) where
      pub before_own : j < own ss s
      before_own = go (eq-or-lt_of_le looked.within)
        where
          go : (j ≡ own ss s) ⊎ (j < own ss s) → j < own ss s
          go (inl w) = absurd (o (e ∙ rw (looked.end, w) (looked.known.slotted.stands s (end_A (of_sections ss) s) looked.low own_touch)))
          go (inr w) = w

      module _ {q : Bool} (f : q ≡ same_ends (of_sections ss) s r) where
        pub twin_nearby : q ≡ true → true ≡ doubled (of_sections ss) s
        twin_nearby y = gives_true (T_some (same_ends (of_sections ss) s) 0 s r (omega arith) (omega (arith, earlier before_own)) (says_true (same_ends (of_sections ss) s r) y f))

        pub looked_more : q ≡ false → Looked ss slots s a (j + 1)
        looked_more y =
            record {
              known = looked.known;
              low = looked.low;
              end = looked.end;
              within = omega (arith, before_own);
              none = one_more (λ k. same_ends (of_sections ss) s (get_or slots (3 * end_A (of_sections ss) s + k) 0)) looked.none
                  (rw (e, looked.end) at (says_false (same_ends (of_sections ss) s r) y f));
            }
