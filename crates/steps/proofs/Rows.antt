-- The row of an arrival: the steps over the other sections of its point are all its steps.
-- Assumes nothing.
use mathlib.Core.Path.{◌≡◌, refl, sym, ◌∙◌}
use mathlib.Core.Logic.{◌≢◌, ◌⊎◌}
use mathlib.Core.Bool.{Bool}
use mathlib.Core.List.{List}
use Prim.Native.Nat.{ℕ, ◌+◌, ◌*◌, ◌/◌, ◌<◌}
use native.Mathlib.Omega.{arith}
use lib.ListN.{get_or}
use Rattle.std.proofs.Common.{Option, None, Some}
use Rattle.std.specs.Option.{unwrap_or}
use Rattle.rules.specs.Plan.{of_sections, section_count, arrivals, to_point, sec}
use Rattle.rules.specs.Trip as rules
use Rattle.rules.specs.declared.net.Row.{Row}
use Rattle.rules.specs.declared.net.Step as rows
use Rattle.rules.specs.declared.net.TheConstants.Step.{NONE}
use Rattle.plan.specs.Ends.{no_section}
use Rattle.turns.specs.Tables.{Arrived}
use Rattle.turns.proofs.Entering.{passed_joined, passed_three}
use Rattle.turns.proofs.ThreeSlots.{in_slot}
use Rattle.steps.specs.declared.trip.Trip.{Trip}
use Rattle.steps.specs.StepOver.{rules_trip, StepTables, other_than, Meets, StepOver, Held, StepsFrom}
use Rattle.steps.proofs.Arrivals.{comes_there, point_low, begins_there}
use Rattle.steps.proofs.TwoOthers.{Rising, others_rise, low_not, high_not, other_of, other_either, slot_there, slots_rising}

-- a row has the step that there is, and what leads to "none" where there is none
pub held : {t : rules.Trip} {a s : ℕ} (r : Option rows.Step) → StepOver t a s r → Held t a s (unwrap_or r NONE)
held None n = record { over = λ z. absurd (z refl); entry = λ z. absurd (z refl); only = λ d w q. absurd (n d w q) }
held (Some x) w = record { over = λ z. w.over; entry = λ z. w.entry; only = w.only }

module _ {t : Trip} {served : List Bool} {a p : ℕ} (K : StepTables t served) (l : a < arrivals (of_sections t.query.plan.sections.now)) (i : p ≡ to_point (of_sections t.query.plan.sections.now) a) where
  abbrev ss : List ℕ
  ss = t.query.plan.sections.now

  abbrev slots : List ℕ
  slots = t.slots.now

  own : Arrived ss (a / 2) p
  own = comes_there a l i

  pub p_low : p < 768
  p_low = point_low a l i K.tables.checked

  own_low : a / 2 < no_section
  own_low = omega (arith, (passed_joined K.tables.checked).few)

  rising : Rising (get_or slots (3 * p + 0) 0) (get_or slots (3 * p + 1) 0) (get_or slots (3 * p + 2) 0)
  rising = slots_rising (passed_joined K.tables.checked) (passed_three K.tables.checked) K.tables.slotted p p_low

  -- x, y and z are the sections in the slots of p, as they were read
  module _ {x y z : ℕ} (ix : x ≡ get_or slots (3 * p + 0) 0) (iy : y ≡ get_or slots (3 * p + 1) 0) (iz : z ≡ get_or slots (3 * p + 2) 0) where
    rises : Rising x y z
    rises = rw (ix, iy, iz) rising

    at : (n j : ℕ) → n ≡ get_or slots (3 * p + j) 0 → j < 3 → n < section_count (of_sections ss) → Arrived ss n p
    at n j e h k = rw e (slot_there (passed_joined K.tables.checked) (passed_three K.tables.checked) K.tables.slotted p p_low j h (rw e at k))

    pub meets_low : {s : ℕ} → s ≡ other_than (a / 2) x y → Meets ss a p s
    meets_low {s} e =
        record {
          from = l;
          point = i;
          there = rw e (other_either (λ n. n < section_count (of_sections ss) → Arrived ss n p) (a / 2) x y (at x 0 ix (omega arith)) (at y 1 iy (omega arith)));
          other = λ k q. low_not rises own_low (sym e ∙ q);
        }

    pub meets_high : {s : ℕ} → s ≡ other_than (a / 2) z y → Meets ss a p s
    meets_high {s} e =
        record {
          from = l;
          point = i;
          there = rw e (other_either (λ n. n < section_count (of_sections ss) → Arrived ss n p) (a / 2) z y (at z 2 iz (omega arith)) (at y 1 iy (omega arith)));
          other = λ k q. high_not rises own_low (sym e ∙ q);
        }

    -- the row has the steps over the two
    pub steps_from : {low high : ℕ} {row : Row} → low ≡ other_than (a / 2) x y → high ≡ other_than (a / 2) z y
        → Held (rules_trip t) a low row.first → Held (rules_trip t) a high row.second → StepsFrom (rules_trip t) a row
    steps_from {low} {high} il ih first second =
        record {
          low = low;
          high = high;
          first = first;
          second = second;
          ascending = rw (il, ih) (others_rise rises own_low);
          all = λ n w. all (sec n) (rw (w.joined ∙ sym i) at (begins_there ss n w.to)) w.other;
        }
      where
        all : (n : ℕ) → Arrived ss n p → n ≢ a / 2 → (n ≡ low) ⊎ (n ≡ high)
        all n w o = rw (il, ih) (other_of (three (a / 2) own) (three n w) o)
          where
            three : (n : ℕ) → Arrived ss n p → (n ≡ x) ⊎ ((n ≡ y) ⊎ (n ≡ z))
            three n w = rw (ix, iy, iz) (in_slot (passed_joined K.tables.checked) (passed_three K.tables.checked) K.tables.slotted n p w.inside w.touch)
