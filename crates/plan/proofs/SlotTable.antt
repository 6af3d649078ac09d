-- The sections at each point, in three slots a point: how the table is filled, and what a slot holds.
-- Assumes nothing.
use mathlib.Core.Path.{◌≡◌, sym, ◌∙◌}
use mathlib.Core.Logic.{◌≢◌, ◌⊎◌, inl, inr}
use mathlib.Core.List.{List}
use Prim.Native.Nat.{ℕ, ◌+◌, ◌*◌, ◌≤◌, ◌<◌}
use native.Mathlib.Omega.{arith}
use native.Mathlib.Decide.{ℕ_discrete, dec_lt}
use lib.Dec.{T}
use lib.ListN.{length, get_or, set, length-set, replicate, length-replicate, get_or-replicate}
use lib.Seq.{get_or-set_same, get_or-set_other}
use Rattle.rules.specs.Plan.{of_sections, section_count, end_A, end_B, touches}
use Rattle.plan.specs.Ends.{Joined, AtMostThree, Slots, no_section, no_slots, degree_before, counted}
use Rattle.plan.proofs.Counting.{count_mono, count_passes, count_reaches}
use Rattle.plan.proofs.Touching.{touch_A, touch_B, touch_cases, touch_below}
use Rattle.plan.proofs.Counts.{Counts, counts_none, counts_more, first_so_far, second_so_far}

-- where section t stands at point p
abbrev slot : List ℕ → ℕ → ℕ → ℕ
slot ss p t = 3 * p + degree_before ss p t

-- the loop has come to section k on its way to n: f says how full the points are, each section before k stands at both of its
-- ends, and nothing stands in the slots not yet filled
pub record Held (ss slots f : List ℕ) (n k : ℕ) : Type 0 where
  pub three : AtMostThree ss
  pub counts : Counts ss f n k
  pub long : length slots ≡ 2304
  pub stands : (t p : ℕ) → t < k → T (touches (of_sections ss) t p) → get_or slots (slot ss p t) 0 ≡ t
  pub beyond : (p j : ℕ) → p < 768 → degree_before ss p k ≤ j → j < 3 → get_or slots (3 * p + j) 0 ≡ no_section

pub held_none : {ss : List ℕ} {n : ℕ} → Joined ss → AtMostThree ss → n ≡ section_count (of_sections ss) → Held ss no_slots (replicate 768 0) n 0
held_none j three e =
    record {
      three = three;
      counts = counts_none j e;
      long = length-replicate {A = ℕ} 2304 no_section;
      stands = λ t p h u. absurd (omega arith);
      beyond = λ p i h u l. get_or-replicate {A = ℕ} 2304 (3 * p + i) no_section 0 (omega arith);
    }

pub held_all : {ss slots f : List ℕ} {n k : ℕ} → Held ss slots f n k → n ≤ k → Slots ss slots
held_all {ss} {n} {k} h g =
    let z : k ≡ section_count (of_sections ss) = omega (arith, h.counts.end, h.counts.within) in
    record { stands = λ s p u t. h.stands s p (omega (arith, h.counts.end)) t; beyond = rw z at h.beyond }

module _ {ss : List ℕ} (joined : Joined ss) (three : AtMostThree ss) where
  -- fewer than three sections come before a section at its end
  pub slot_low : (t p : ℕ) → t < section_count (of_sections ss) → T (touches (of_sections ss) t p) → degree_before ss p t < 3
  slot_low t p l u =
      omega (arith, count_passes (λ r. touches (of_sections ss) r p) t (section_count (of_sections ss)) l u, three.at p (touch_below (joined.each t l) p u))

  -- an earlier section does not stand where section k is put
  earlier_apart : (t k p q : ℕ) → t < k → k < section_count (of_sections ss) → T (touches (of_sections ss) t p) → T (touches (of_sections ss) k q) → slot ss p t ≢ slot ss q k
  earlier_apart t k p q l m u v e = go (ℕ_discrete p q)
    where
      go : Dec (p ≡ q) → ⊥
      go (yes d) = omega (arith, count_passes (λ r. touches (of_sections ss) r q) t k l (rw d at u), rw d at e)
      go (no d) = d (omega (arith, slot_low t p (omega arith) u, slot_low k q m v))

-- one section more: x and y are its ends as they were read
module _ {ss slots f : List ℕ} {n k x y : ℕ} (h : Held ss slots f n k) (l : k < n) (i : x ≡ end_A (of_sections ss) k) (j : y ≡ end_B (of_sections ss) k) where
  in_table : k < section_count (of_sections ss)
  in_table = omega (arith, h.counts.end)

  low : (p : ℕ) → T (touches (of_sections ss) k p) → degree_before ss p k < 3
  low p u = slot_low h.counts.joined h.three k p in_table u

  at_x : T (touches (of_sections ss) k x)
  at_x = touch_A ss k x (sym i)

  at_y : T (touches (of_sections ss) k y)
  at_y = touch_B ss k y (sym j)

  pub first_room : (x < 768) × (get_or f x 0 < 3)
  first_room = let so = first_so_far h.counts l i in (so.0, omega (arith, low x at_x))

  pub second_room : {f₁ : List ℕ} → f₁ ≡ counted f x → (y < 768) × (get_or f₁ y 0 < 3)
  second_room e = let so = second_so_far h.counts l i e j in (so.0, omega (arith, low y at_y))

  -- the table with section k in the next slots of x and y
  placed : List ℕ
  placed = set (set slots (slot ss x k) k) (slot ss y k) k

  x_y_apart : slot ss x k ≢ slot ss y k
  x_y_apart e = (h.counts.joined.each k in_table).apart (sym i ∙ omega (arith, low x at_x, low y at_y) ∙ j)

  inside : (p : ℕ) → T (touches (of_sections ss) k p) → slot ss p k < length slots
  inside p u = omega (arith, h.long, low p u, touch_below (h.counts.joined.each k in_table) p u)

  new_stands : (p : ℕ) → (end_A (of_sections ss) k ≡ p) ⊎ (end_B (of_sections ss) k ≡ p) → get_or placed (slot ss p k) 0 ≡ k
  unfolding placed
  new_stands p (inl e) =
      rw (← e, ← i) (get_or-set_other (set slots (slot ss x k) k) (slot ss y k) (slot ss x k) k 0 x_y_apart ∙ get_or-set_same slots (slot ss x k) k 0 (inside x at_x))
  new_stands p (inr e) = rw (← e, ← j) (get_or-set_same (set slots (slot ss x k) k) (slot ss y k) k 0 (rw length-set (inside y at_y)))

  old_stands : (t p : ℕ) → t < k → T (touches (of_sections ss) t p) → get_or placed (slot ss p t) 0 ≡ t
  unfolding placed
  old_stands t p d u =
      get_or-set_other (set slots (slot ss x k) k) (slot ss y k) (slot ss p t) k 0 (earlier_apart h.counts.joined h.three t k p y d in_table u at_y)
      ∙ get_or-set_other slots (slot ss x k) (slot ss p t) k 0 (earlier_apart h.counts.joined h.three t k p x d in_table u at_x)
      ∙ h.stands t p d u

  -- a slot that is beyond the sections up to k is not where section k is put
  not_there : (z p m : ℕ) → T (touches (of_sections ss) k z) → degree_before ss p (k + 1) ≤ m → m < 3 → 3 * p + m ≢ slot ss z k
  not_there z p m u v w e = go (ℕ_discrete p z)
    where
      go : Dec (p ≡ z) → ⊥
      go (yes d) = omega (arith, count_passes (λ r. touches (of_sections ss) r z) k (k + 1) (omega arith) u, rw d at v, rw d at e)
      go (no d) = d (omega (arith, low z u))

  still_empty : (p m : ℕ) → p < 768 → degree_before ss p (k + 1) ≤ m → m < 3 → get_or placed (3 * p + m) 0 ≡ no_section
  unfolding placed
  still_empty p m g v w =
      get_or-set_other (set slots (slot ss x k) k) (slot ss y k) (3 * p + m) k 0 (not_there y p m at_y v w)
      ∙ get_or-set_other slots (slot ss x k) (3 * p + m) k 0 (not_there x p m at_x v w)
      ∙ h.beyond p m g (omega (arith, count_mono (λ r. touches (of_sections ss) r p) k (k + 1) (omega arith))) w

  pub held_more : {f₁ f₂ slots₁ slots₂ : List ℕ} → f₁ ≡ counted f x → slots₁ ≡ set slots (3 * x + get_or f x 0) k → f₂ ≡ counted f₁ y
      → slots₂ ≡ set slots₁ (3 * y + get_or f₁ y 0) k → Held ss slots₂ f₂ n (k + 1)
  unfolding placed
  held_more {f₁} {f₂} {slots₁} {slots₂} e q g r =
      record {
        three = h.three;
        counts = counts_more h.counts l i e j g;
        long = rw (r, q, length-set, length-set) h.long;
        stands = λ t p u v. rw as_placed (at t p v (dec_lt t k) u);
        beyond = λ p m g v w. rw as_placed (still_empty p m g v w);
      }
    where
      as_placed : slots₂ ≡ placed
      as_placed = rw (r, q, (first_so_far h.counts l i).1, (second_so_far h.counts l i e j).1)

      at : (t p : ℕ) → T (touches (of_sections ss) t p) → Dec (t < k) → t < k + 1 → get_or placed (slot ss p t) 0 ≡ t
      at t p v (yes d) u = old_stands t p d v
      at t p v (no d) u = let z : t ≡ k = omega arith in rw z (new_stands p (touch_cases ss k p (rw z at v)))

-- what slot j of point p holds, where j is below the number of the first n sections at p; with all sections for n, that is
-- the degree of p
pub slot_holds : {ss slots : List ℕ} → Slots ss slots → (p n j : ℕ) → n ≤ section_count (of_sections ss) → j < degree_before ss p n
    → (s : ℕ) × (s < n) × T (touches (of_sections ss) s p) × (get_or slots (3 * p + j) 0 ≡ s)
slot_holds {ss} {slots} h p n j l u =
    let r = count_reaches (λ s. touches (of_sections ss) s p) n j u in
    (r.number, r.low, r.holds, rw r.earlier at (h.stands r.number p (omega (arith, r.low)) r.holds))
