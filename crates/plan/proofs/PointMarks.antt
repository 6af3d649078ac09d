-- Marks at the points of the turns passed, one turn after the other.
-- Assumes nothing.
use mathlib.Core.Path.{◌≡◌, refl, sym, ◌∙◌}
use mathlib.Core.Bool.{Bool, true, false, ◌||◌}
use mathlib.Core.List.{List}
use Prim.Native.Nat.{ℕ, zero, suc, ◌+◌, ◌≤◌, ◌<◌}
use native.Mathlib.Omega.{arith}
use native.Mathlib.Decide.{ℕ_discrete}
use native.Mathlib.Numerals.{add-one}
use borrow.Author.Tests.{eq-eqb, ne_eqb}
use lib.Dec.{eqb}
use lib.ListN.{length, get_or, set, length-set, replicate, length-replicate, get_or-replicate}
use lib.Seq.{get_or-set_same, get_or-set_other}
use Rattle.rules.specs.Ranges.{some_of}
use Rattle.rules.specs.Plan.{plan_of, turn_count, turn_point}
use Rattle.rules.specs.PlanCheck.{second_turn}
use Rattle.plan.specs.Turns.{Turned}
use Rattle.std.proofs.Common.{None, Some}
use Rattle.plan.specs.Lent.{NoneBelow, First}
use Rattle.plan.proofs.Looking.{none_at_first, none_more}

some_last : (f : ℕ → Bool) (i m : ℕ) → some_of f i (suc m) ≡ (some_of f i m || f (i + m))
some_last f i zero = let z : i + 0 ≡ i = omega arith in rw z (go (f i))
  where
    go : (b : Bool) → elim b [ true ↦ true | false ↦ false ] ≡ (false || b)
    go true = refl
    go false = refl
some_last f i (suc m) = let z : i + suc m ≡ suc i + m = omega arith in rw z (go (f i) (some_last f (suc i) m))
  where
    go : (b : Bool) → some_of f (suc i) (suc m) ≡ (some_of f (suc i) m || f (suc i + m))
        → elim b [ true ↦ true | false ↦ some_of f (suc i) (suc m) ] ≡ (elim b [ true ↦ true | false ↦ some_of f (suc i) m ] || f (suc i + m))
    go true e = refl
    go false e = e

pub some_next : (f : ℕ → Bool) (m : ℕ) → some_of f 0 (m + 1) ≡ (some_of f 0 m || f m)
some_next f m = let z : 0 + m ≡ m = omega arith in rw (add-one) (some_last f 0 m ∙ rw z refl)

-- point p is the point of one of the first t turns
abbrev taken_by : List ℕ → List ℕ → ℕ → ℕ → Bool
taken_by ss ts p t = some_of (λ u. eqb (turn_point (plan_of 0 ss ts) u) p) 0 t

-- the loop has come to turn t on its way to n, and has found no second turn: a mark stands at the point of each turn before
-- t, and nowhere else
pub record Marked (ss ts : List ℕ) (marks : List Bool) (n t : ℕ) : Type 0 where
  pub turned : Turned ss ts
  pub end : n ≡ turn_count (plan_of 0 ss ts)
  pub none : NoneBelow (second_turn (plan_of 0 ss ts)) t
  pub long : length marks ≡ 768
  pub at : (p : ℕ) → p < 768 → get_or marks p false ≡ taken_by ss ts p t

pub marked_none : {ss ts : List ℕ} {n : ℕ} → Turned ss ts → n ≡ turn_count (plan_of 0 ss ts) → Marked ss ts (replicate 768 false) n 0
marked_none {ss} {ts} t e =
    record {
      turned = t;
      end = e;
      none = none_at_first (second_turn (plan_of 0 ss ts));
      long = length-replicate {A = Bool} 768 false;
      at = λ p h. get_or-replicate {A = Bool} 768 p false false h;
    }

-- x is the point of turn t as it was read
module _ {ss ts : List ℕ} {marks : List Bool} {n t x : ℕ} (m : Marked ss ts marks n t) (l : t < n) (i : x ≡ turn_point (plan_of 0 ss ts) t) where
  pub marks_inside : x < 768
  marks_inside = omega (arith, m.turned.each t (omega (arith, m.end)))

  mark_says : get_or marks x false ≡ second_turn (plan_of 0 ss ts) t
  mark_says = m.at x marks_inside ∙ rw i refl

  pub second_found : get_or marks x false ≡ true → First (second_turn (plan_of 0 ss ts)) (turn_count (plan_of 0 ss ts)) (Some t)
  second_found q = (omega (arith, m.end), sym mark_says ∙ q, m.none)

  pub marked_more : get_or marks x false ≡ false → Marked ss ts (set marks x true) n (t + 1)
  marked_more q =
      record {
        turned = m.turned;
        end = m.end;
        none = none_more (second_turn (plan_of 0 ss ts)) m.none mark_says q;
        long = rw length-set m.long;
        at = λ p h. rw some_next (go p h (ℕ_discrete x p));
      }
    where
      or_true : (b : Bool) → true ≡ (b || true)
      or_true true = refl
      or_true false = refl

      or_false : (b : Bool) → b ≡ (b || false)
      or_false true = refl
      or_false false = refl

      go : (p : ℕ) → p < 768 → Dec (x ≡ p) → get_or (set marks x true) p false ≡ (taken_by ss ts p t || eqb (turn_point (plan_of 0 ss ts) t) p)
      go p h (yes e) =
          rw (← i, eq-eqb x p e, ← e) (get_or-set_same marks x true false (omega (arith, m.long, marks_inside)) ∙ or_true (taken_by ss ts x t))
      go p h (no e) = rw (← i, ne_eqb x p e) (get_or-set_other marks x p true false (λ z. e (sym z)) ∙ m.at p h ∙ or_false (taken_by ss ts p t))

pub none_second : {ss ts : List ℕ} {marks : List Bool} {n t : ℕ} → Marked ss ts marks n t → n ≤ t → First (second_turn (plan_of 0 ss ts)) (turn_count (plan_of 0 ss ts)) None
none_second m l = λ k h. m.none k (omega (arith, m.end))
