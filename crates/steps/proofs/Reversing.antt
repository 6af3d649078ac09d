-- The reversals of a list of arrivals that are linked, counted one after another; and that every walk is such a list.
-- Assumes nothing.
use mathlib.Core.Path.{◌≡◌, refl, sym, ◌∙◌}
use mathlib.Core.Bool.{Bool, true, false, cond}
use mathlib.Core.List.{List, ◌∷◌}
use Prim.Native.Nat.{ℕ, ◌+◌, ◌/◌, ◌≤◌, ◌<◌}
use native.Mathlib.Numerals.{add-one}
use native.Mathlib.Omega.{arith}
use mir.Val.{bool_byte}
use lib.ListN.{length, get_or, drop, drop_of_length-le}
use lib.Seq.{drop-cons}
use Rattle.std.proofs.Common.{Option}
use Rattle.rules.specs.Plan.{plan_of, of_sections, to_point, forbidden}
use Rattle.rules.specs.Net.{Walk, here, onward}
use Rattle.rules.specs.Trip.{Trip, Step, reverses, reversals, net_of}
use Rattle.turns.specs.Tables.{Passes, TurnTable, forbidden_by}
use Rattle.turns.specs.declared.yard.Turn.{Turn}
use Rattle.turns.proofs.TurnsByPoint.{by_table}
use Rattle.steps.specs.Linked.{Link, Linked, linked, linked_end}
use Rattle.steps.proofs.Arrivals.{comes_there, point_low, begins_there}

-- a step links two arrivals, and a walk is linked
pub step_link : {t : Trip} {a b : ℕ} → Step t a b → Link t.plan.sections a b
step_link s = record { from = s.from; to = s.to; joined = s.joined; other = s.other }

pub walk_linked : {t : Trip} {a : ℕ} {bs : List ℕ} → Walk (net_of t) a bs → Linked t.plan.sections a bs
walk_linked (here f) = linked_end
walk_linked (onward s w) = linked (step_link s) (walk_linked w)

-- one step: the table says whether it is a reversal
module _ {ss ts : List ℕ} {table : List (Option Turn)} {a b p : ℕ} (ok : Passes ss ts) (made : TurnTable ss ts table) (k : Link ss a b)
    (i : p ≡ to_point (of_sections ss) a) where
  pub p_low : p < 768
  p_low = point_low a k.from i ok

  pub by_turn : forbidden_by table p (a / 2) (b / 2) ≡ forbidden (plan_of 0 ss ts) (a / 2) (b / 2)
  by_turn = by_table ok made p_low (comes_there a k.from i) (rw (k.joined ∙ sym i) at (begins_there ss b k.to)) (λ e. k.other (sym e))

-- after i steps of the walk, to arrival a, so many reversals were found
pub record Tallied (t : Trip) (from : ℕ) (walk : List ℕ) (found a i : ℕ) : Type 0 where
  pub few : found ≤ i
  pub rest : Linked t.plan.sections a (drop i walk)
  pub sum : found + reversals t a (drop i walk) ≡ reversals t from walk

pub tallied_none : {t : Trip} {from : ℕ} {walk : List ℕ} → Linked t.plan.sections from walk → Tallied t from walk 0 from 0
tallied_none k = record { few = omega arith; rest = k; sum = omega arith }

-- the first of a linked list, and the others
first_link : {ss : List ℕ} {a b : ℕ} {bs : List ℕ} → Linked ss a (b ∷ bs) → Link ss a b
first_link (linked k w) = k

other_links : {ss : List ℕ} {a b : ℕ} {bs : List ℕ} → Linked ss a (b ∷ bs) → Linked ss b bs
other_links (linked k w) = w

-- a bool as a number
as_number : (b : Bool) → bool_byte b ≡ cond b 1 0
as_number true = refl
as_number false = refl

at_most_one : (b : Bool) → cond b 1 0 ≤ 1
at_most_one true = omega arith
at_most_one false = omega arith

module _ {t : Trip} {from : ℕ} {walk : List ℕ} {found a i : ℕ} (k : Tallied t from walk found a i) (l : i < length walk) where
  -- the next of the walk
  next_there : drop i walk ≡ get_or walk i 0 ∷ drop (i + 1) walk
  next_there = rw (add-one i) (drop-cons walk i 0 l)

  pub next_link : Link t.plan.sections a (get_or walk i 0)
  next_link = first_link (rw next_there at k.rest)

  pub tallied_more : {r : ℕ} → r ≡ bool_byte (reverses t a (get_or walk i 0)) → Tallied t from walk (found + r) (get_or walk i 0) (i + 1)
  tallied_more e =
      let d = e ∙ as_number (reverses t a (get_or walk i 0)) in
      let s = rw next_there at k.sum in
      record { few = omega (arith, at_most_one (reverses t a (get_or walk i 0))); rest = other_links (rw next_there at k.rest); sum = omega arith }

pub tallied_all : {t : Trip} {from : ℕ} {walk : List ℕ} {found a i : ℕ} → Tallied t from walk found a i → length walk ≤ i → found ≡ reversals t from walk
tallied_all {t} {walk = walk} {a = a} {i = i} k d =
    let s = rw (drop_of_length-le walk {i = i} d) at k.sum in
    omega arith
