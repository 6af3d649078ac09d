-- A try that goes on over a section: what it then looks for, and what is known of it.
-- Assumes nothing.
use mathlib.Core.Path.{◌≡◌, refl, sym, ◌∙◌}
use mathlib.Core.Logic.{◌⊎◌, ⊎_elim, inl, inr}
use mathlib.Core.Bool.{Bool}
use mathlib.Core.List.{List, ◌∷◌}
use Prim.Native.Nat.{ℕ, ◌+◌, ◌*◌, ◌≤◌, ◌<◌}
use native.Mathlib.Omega.{arith}
use lib.Dec.{T}
use lib.ListN.{get_or}
use Rattle.std.proofs.Common.{Option, Result, Ok}
use Rattle.rules.specs.Plan.{plan_of, len}
use Rattle.rules.specs.PullOut.{any_section}
use Rattle.rules.proofs.Ways.{may_use, mark, Way, last, next, free_whole, way_onward, fewer_marks}
use Rattle.turns.specs.declared.yard.Turn.{Turn}
use Rattle.turns.specs.Tables.{Passes, Tables, Arrived}
use Rattle.turns.specs.Enters.{Enters}
use Rattle.turns.proofs.Entering.{at_far, passed_joined, passed_three, arrived_low, far_low}
use Rattle.turns.proofs.ThreeSlots.{in_slot, ascending}
use Rattle.tries.specs.declared.marks.Try.{Try}
use Rattle.tries.specs.Marks.{marked, Past}
use Rattle.tries.specs.Looked.{Goes, GoesOn}
use Rattle.tries.specs.Tried.{Heads, Over, Tried}
use Rattle.tries.proofs.Trying.{Vain, first_found}

module _ {ss ts : List ℕ} {c s : ℕ} {marks : ℕ → Bool} {left h p e q n : ℕ} (g : GoesOn ss ts c s marks left h p e q n) where
  pub on_low : Passes ss ts → q < 768
  on_low ok = rw g.far (far_low ok e p g.enters.inside)

  pub on_arrived : Arrived ss e q
  on_arrived = record { inside = g.enters.inside; touch = rw g.far (at_far (plan_of 0 ss ts) e p) }

  shorter : len (plan_of 0 ss ts) e < left
  shorter = omega (arith, g.short, free_whole (plan_of 0 ss ts) e p g.free)

-- the try t goes on over section e, and r is the try from there
module _ {ss ts : List ℕ} {c s : ℕ} {t r : Try} {h p e q n : ℕ} (g : GoesOn ss ts c s (marked t) t.left h p e q n) (w : Past t q n r) where
  -- its marks are those of t and one more
  more : (k : ℕ) → T (mark q (marked t) k) → T (marked r k)
  more k = λ u. rw (w.marks k) u

  no_more : (k : ℕ) → T (marked r k) → T (mark q (marked t) k)
  no_more k = λ u. rw (w.marks k) at u

  -- it looks for what t looks for beyond section e
  pub from_there : (qs : List ℕ) → Goes ss ts c s r e q qs → Goes ss ts c s t h p (e ∷ qs)
  from_there qs v =
      let u : Way (plan_of 0 ss ts) (may_use any_section c s) r.left e q (mark q (marked t)) qs = fewer_marks more v in
      next g.enters g.free (shorter g) (rw g.far at g.new) (rw (w.left, g.long, g.far) at u)

  pub to_there : (qs : List ℕ) → Goes ss ts c s t h p (e ∷ qs) → Goes ss ts c s r e q qs
  to_there qs v =
      let u : Way (plan_of 0 ss ts) (may_use any_section c s) r.left e q (mark q (marked t)) qs =
      rw (w.left, g.long, g.far) (way_onward g.short v).2 in
      fewer_marks no_more u

-- what stands in slot k of the point p
abbrev pub slot : List ℕ → ℕ → ℕ → ℕ
slot slots p k = get_or slots (3 * p + k) 0

-- no list that the try looks for begins with what stands in one of the first j slots of p
abbrev pub InVain : List ℕ → List ℕ → List ℕ → ℕ → ℕ → Try → ℕ → ℕ → ℕ → Type 0
InVain ss ts slots c s t h p j = Vain (Goes ss ts c s t h p) (slot slots p) j

-- a way from p begins with one of the sections in p's slots
pub in_slots : {ss ts slots : List ℕ} {table : List (Option Turn)} → Tables ss ts slots table → (c s : ℕ) {n h p x y z : ℕ} {marks : ℕ → Bool} → x ≡ get_or slots (3 * p + 0) 0
    → y ≡ get_or slots (3 * p + 1) 0 → z ≡ get_or slots (3 * p + 2) 0 → (qs : List ℕ) → Way (plan_of 0 ss ts) (may_use any_section c s) n h p marks qs
    → Heads x qs ⊎ (Heads y qs ⊎ Heads z qs)
in_slots {ss} {ts} tables c s {n} {h} {p} {x} {y} {z} {marks} i j k qs w = go qs w
  where
    at : (q : ℕ) → Enters ss ts c s h p q → (q ≡ x) ⊎ ((q ≡ y) ⊎ (q ≡ z))
    at q f =
        let ok = tables.checked in
        ⊎_elim (λ e. inl (e ∙ sym i)) (⊎_elim (λ e. inr (inl (e ∙ sym j))) (λ e. inr (inr (e ∙ sym k))))
        (in_slot (passed_joined ok) (passed_three ok) tables.slotted q p f.inside f.touch)

    go : (qs : List ℕ) → Way (plan_of 0 ss ts) (may_use any_section c s) n h p marks qs → Heads x qs ⊎ (Heads y qs ⊎ Heads z qs)
    go qs (last {q} f e) = at q f
    go qs (next {q} f e l m v) = at q f

module _ {ss ts slots : List ℕ} {table : List (Option Turn)} (tables : Tables ss ts slots table) {h p : ℕ} (a : Arrived ss h p) where
  pub slots_ascend : (j k : ℕ) {x y : ℕ} → j < k → k < 3 → x ≡ get_or slots (3 * p + j) 0 → y ≡ get_or slots (3 * p + k) 0 → x ≤ y
  slots_ascend j k l m e f =
      let ok = tables.checked in
      omega (arith, ascending (passed_joined ok) (passed_three ok) tables.slotted p j k (arrived_low ok a) l m)

  -- so the tries of its three sections, in their order, make the try of the point
  module _ (c s : ℕ) (t : Try) where
    begins : (qs : List ℕ) → Goes ss ts c s t h p qs → (k : ℕ) × (k < 3) × Heads (slot slots p k) qs
    begins qs w =
        ⊎_elim (λ u. (0, omega arith, u)) (⊎_elim (λ u. (1, omega arith, u)) (λ u. (2, omega arith, u))) (in_slots tables c s refl refl refl qs w)

    pub point_found : {j e d n : ℕ} {b o a : List ℕ} {r : Result ℕ ℕ} → InVain ss ts slots c s t h p j → o ≡ b → e ≡ slot slots p j
        → Tried (Over (Goes ss ts c s t h p) e) o d r a → r ≡ Ok n → Tried (Goes ss ts c s t h p) b d r a
    point_found v same = first_found (Goes ss ts c s t h p) (slot slots p) begins v same (λ j k l m. slots_ascend j k l m refl refl)
