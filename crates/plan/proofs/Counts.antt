-- A table that counts the sections at each point, one section after the other.
-- Assumes nothing.
use mathlib.Core.Path.{◌≡◌, refl, sym, ◌∙◌}
use mathlib.Core.Logic.{◌≢◌}
use mathlib.Core.Bool.{true, cond, ◌||◌}
use mathlib.Core.List.{List}
use Prim.Native.Nat.{ℕ, ◌+◌, ◌≤◌, ◌<◌}
use native.Mathlib.Omega.{arith}
use native.Mathlib.Decide.{ℕ_discrete}
use borrow.Author.Tests.{eq-eqb, ne_eqb}
use lib.Dec.{eqb, ltb, nltb→le}
use lib.ListN.{length, get_or, length-set, replicate, length-replicate, get_or-replicate}
use lib.Seq.{get_or-set_same, get_or-set_other}
use Rattle.rules.specs.Plan.{plan_of, of_sections, section_count, end_A, end_B, touches}
use Rattle.rules.specs.PlanCheck.{degree_bad}
use Rattle.rules.proofs.Ranges.{count_next, count_le}
use Rattle.plan.specs.Ends.{Joins, Joined, AtMostThree, Degrees, degree_before, counted, degree_bad_by}
use Rattle.std.proofs.Common.{Option, Bool, false, zero, suc, [], ◌∷◌}
use Rattle.plan.specs.Lent.{First}
use Rattle.plan.proofs.Looking.{first_same}

-- the loop has come to section k on its way to n, the number of sections, and d counts the sections before k
pub record Counts (ss d : List ℕ) (n k : ℕ) : Type 0 where
  pub joined : Joined ss
  pub end : n ≡ section_count (of_sections ss)
  pub within : k ≤ n
  pub long : length d ≡ 768
  pub at : (p : ℕ) → p < 768 → get_or d p 0 ≡ degree_before ss p k

pub counts_none : {ss : List ℕ} {n : ℕ} → Joined ss → n ≡ section_count (of_sections ss) → Counts ss (replicate 768 0) n 0
counts_none j e =
    record { joined = j; end = e; within = omega arith; long = length-replicate {A = ℕ} 768 0; at = λ p h. get_or-replicate {A = ℕ} 768 p 0 0 h }

pub counts_all : {ss d : List ℕ} {n k : ℕ} → Counts ss d n k → n ≤ k → Degrees ss d
counts_all {ss} {d} {n} {k} c g = let z : k ≡ section_count (of_sections ss) = omega (arith, c.end, c.within) in record { at = rw z at c.at }

-- a table of degrees in which nothing is over three
pub few_over : {ss d : List ℕ} → Degrees ss d → ((p : ℕ) → p < 768 → get_or d p 0 ≤ 3) → AtMostThree ss
few_over t all = record { at = λ p h. omega (arith, t.at p h, all p h) }

pub counted_at : (d : List ℕ) (a p : ℕ) → a < length d → get_or (counted d a) p 0 ≡ get_or d p 0 + cond (eqb a p) 1 0
counted_at d a p h = go (ℕ_discrete a p)
  where
    go : Dec (a ≡ p) → get_or (counted d a) p 0 ≡ get_or d p 0 + cond (eqb a p) 1 0
    go (yes e) = rw (eq-eqb a p e, ← e) (get_or-set_same d a (get_or d a 0 + 1) 0 h)
    go (no e) = rw (ne_eqb a p e) (get_or-set_other d a p (get_or d a 0 + 1) 0 (λ z. e (sym z)) ∙ omega arith)

-- of two different ends at most one is p
pub ends_once : (a b p : ℕ) → a ≢ b → cond (eqb a p) 1 0 + cond (eqb b p) 1 0 ≡ cond (eqb a p || eqb b p) 1 0
ends_once a b p n = go (ℕ_discrete a p) (ℕ_discrete b p)
  where
    go : Dec (a ≡ p) → Dec (b ≡ p) → cond (eqb a p) 1 0 + cond (eqb b p) 1 0 ≡ cond (eqb a p || eqb b p) 1 0
    go (yes d) (yes e) = absurd (n (d ∙ sym e))
    go (yes d) (no e) = rw (eq-eqb a p d, ne_eqb b p e) (omega arith)
    go (no d) (yes e) = rw (ne_eqb a p d, eq-eqb b p e) (omega arith)
    go (no d) (no e) = rw (ne_eqb a p d, ne_eqb b p e) (omega arith)

-- One section more: x and y are its ends as they were read, d₁ and d₂ the table after each.
module _ {ss d : List ℕ} {n k : ℕ} (c : Counts ss d n k) (l : k < n) where
  k_joins : Joins ss k
  k_joins = c.joined.each k (omega (arith, c.end))

  pub first_so_far : {x : ℕ} → x ≡ end_A (of_sections ss) k → (x < 768) × (get_or d x 0 ≡ degree_before ss x k)
  first_so_far {x} i = let h : x < 768 = omega (arith, k_joins.a) in (h, c.at x h)

  pub second_so_far : {x y : ℕ} {d₁ : List ℕ} → x ≡ end_A (of_sections ss) k → d₁ ≡ counted d x → y ≡ end_B (of_sections ss) k
      → (y < 768) × (get_or d₁ y 0 ≡ degree_before ss y k)
  second_so_far {x} {y} {d₁} i e j =
      let h : y < 768 = omega (arith, k_joins.b) in
      (h, rw e (get_or-set_other d x y (get_or d x 0 + 1) 0 (λ z. k_joins.apart (sym i ∙ sym z ∙ j)) ∙ c.at y h))

  -- so few sections that no count leaves its type
  fits : (p : ℕ) → degree_before ss p k < 4294967295
  fits p = omega (arith, c.joined.few, c.end, count_le (λ r. touches (of_sections ss) r p) 0 k)

  pub first_fits : {x : ℕ} → x ≡ end_A (of_sections ss) k → (x < 768) × (get_or d x 0 < 4294967295)
  first_fits {x} i = let h = first_so_far i in (h.0, omega (arith, fits x))

  pub second_fits : {x y : ℕ} {d₁ : List ℕ} → x ≡ end_A (of_sections ss) k → d₁ ≡ counted d x → y ≡ end_B (of_sections ss) k
      → (y < 768) × (get_or d₁ y 0 < 4294967295)
  second_fits {x} {y} i e j = let h = second_so_far i e j in (h.0, omega (arith, fits y))

  pub counts_more : {x y : ℕ} {d₁ d₂ : List ℕ} → x ≡ end_A (of_sections ss) k → d₁ ≡ counted d x → y ≡ end_B (of_sections ss) k → d₂ ≡ counted d₁ y
      → Counts ss d₂ n (k + 1)
  counts_more {x} {y} {d₁} {d₂} i e j f =
      record {
        joined = c.joined;
        end = c.end;
        within = omega arith;
        long = rw (f, e, length-set, length-set) c.long;
        at = λ p h. rw (f, e, i, j) (both p h);
      }
    where
      both : (p : ℕ) → p < 768 → get_or (counted (counted d (end_A (of_sections ss) k)) (end_B (of_sections ss) k)) p 0 ≡ degree_before ss p (k + 1)
      both p h =
          omega (
            arith,
            counted_at (counted d (end_A (of_sections ss) k)) (end_B (of_sections ss) k) p (rw length-set (omega (arith, c.long, k_joins.b))),
            counted_at d (end_A (of_sections ss) k) p (omega (arith, c.long, k_joins.a)),
            ends_once (end_A (of_sections ss) k) (end_B (of_sections ss) k) p k_joins.apart,
            count_next (λ r. touches (of_sections ss) r p) k,
            c.at p h,
          )

pub by_degrees : {ss d : List ℕ} (v : ℕ) (ts : List ℕ) (r : Option ℕ) → Degrees ss d → v ≤ 768 → First (degree_bad_by d) v r → First (degree_bad (plan_of v ss ts)) v r
by_degrees v ts r t l = first_same r (λ p h. rw (t.at p (omega arith)) refl)
