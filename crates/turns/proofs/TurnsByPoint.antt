-- The turn of each point in a table: how it is filled, and that it says which turns are forbidden.
-- Assumes nothing.
use mathlib.Core.Path.{◌≡◌, sym, ◌∙◌}
use mathlib.Core.Logic.{◌≢◌}
use mathlib.Core.List.{List}
use Prim.Native.Nat.{ℕ, ◌+◌, ◌≤◌, ◌<◌}
use native.Mathlib.Omega.{arith}
use native.Mathlib.Decide.{ℕ_discrete, dec_lt}
use lib.Dec.{T}
use lib.ListN.{length, set, length-set, replicate, length-replicate, get_or-replicate}
use lib.Seq.{get_or-set_same, get_or-set_other}
use Rattle.rules.specs.Plan.{plan_of, turn_count, turn_section, turn_point, forbidden}
use Rattle.rules.proofs.Tests.{gives_same, gives_false}
use Rattle.rules.proofs.Ranges.{T_some}
use Rattle.rules.proofs.Sound.{SoundPlan, sound_plan}
use Rattle.rules.proofs.TurnPoints.{is_turn, turn_there, same_turn}
use Rattle.plan.specs.Turns.{Turned}
use Rattle.std.proofs.Common.{Option, None, Some, refl}
use Rattle.turns.specs.declared.yard.Turn.{Turn}
use Rattle.turns.specs.Tables.{Passes, TurnAt, turn, no_turn, TurnTable, forbidden_by, Arrived}

-- the loop has come to turn t on its way to n, and has put the turns before it into the table
pub record Filled (ss ts : List ℕ) (table : List (Option Turn)) (n t : ℕ) : Type 0 where
  pub turned : Turned ss ts
  pub end : n ≡ turn_count (plan_of 0 ss ts)
  pub within : t ≤ n
  pub long : length table ≡ 768
  pub at : (p : ℕ) → p < 768 → TurnAt ss ts table t p

pub filled_none : {ss ts : List ℕ} {n : ℕ} → Turned ss ts → n ≡ turn_count (plan_of 0 ss ts) → Filled ss ts (replicate 768 None) n 0
filled_none turned e =
    record {
      turned = turned;
      end = e;
      within = omega arith;
      long = length-replicate {A = Option Turn} 768 None;
      at = λ p h. no_turn (λ t l. absurd (omega arith)) (get_or-replicate {A = Option Turn} 768 p None None (omega arith));
    }

pub filled_all : {ss ts : List ℕ} {table : List (Option Turn)} {n t : ℕ} → Filled ss ts table n t → n ≤ t → TurnTable ss ts table
filled_all {ss} {ts} {n} {t} f l =
    let z : t ≡ turn_count (plan_of 0 ss ts) = omega (arith, f.end, f.within) in
    record { at = rw z at f.at }

-- one turn more: x is its point as it was read, a and b are its sections
module _ {ss ts : List ℕ} {table : List (Option Turn)} {n t x : ℕ} (f : Filled ss ts table n t) (l : t < n) (i : x ≡ turn_point (plan_of 0 ss ts) t) where
  pub point_low : x < 768
  point_low = omega (arith, f.turned.each t (omega (arith, f.end)))

  pub filled_more : {a b : ℕ} → a ≡ turn_section (plan_of 0 ss ts) t 0 → b ≡ turn_section (plan_of 0 ss ts) t 1
      → Filled ss ts (set table x (Some (record { first = a; second = b }))) n (t + 1)
  filled_more {a} {b} u v =
      record {
        turned = f.turned;
        end = f.end;
        within = omega arith;
        long = rw length-set f.long;
        at = λ p h. go p h (ℕ_discrete p x);
      }
    where
      still : (p : ℕ) → p ≢ x → TurnAt ss ts table t p → TurnAt ss ts (set table x (Some (record { first = a; second = b }))) (t + 1) p
      still p d (turn s h e j) = turn s (omega arith) e (get_or-set_other table x p (Some (record { first = a; second = b })) None d ∙ j)
      still p d (no_turn none j) = no_turn (λ s h e. earlier s h e (dec_lt s t)) (get_or-set_other table x p (Some (record { first = a; second = b })) None d ∙ j)
        where
          earlier : (s : ℕ) → s < t + 1 → turn_point (plan_of 0 ss ts) s ≡ p → Dec (s < t) → ⊥
          earlier s h e (yes w) = none s w e
          earlier s h e (no w) = let z : s ≡ t = omega arith in d (sym (rw z at e) ∙ sym i)

      go : (p : ℕ) → p < 768 → Dec (p ≡ x) → TurnAt ss ts (set table x (Some (record { first = a; second = b }))) (t + 1) p
      go p h (yes d) =
          rw d (turn t (omega arith) (sym i)
          (get_or-set_same table x (Some (record { first = a; second = b })) None (omega (arith, f.long, point_low)) ∙ rw (u, v) refl))
      go p h (no d) = still p d (f.at p h)

-- two different sections that meet at p are the turn there by the table where they are a forbidden turn
pub by_table : {ss ts : List ℕ} {table : List (Option Turn)} {h e p : ℕ} → Passes ss ts → TurnTable ss ts table → p < 768 → Arrived ss h p → Arrived ss e p → h ≢ e
    → forbidden_by table p h e ≡ forbidden (plan_of 0 ss ts) h e
by_table {ss} {ts} {table} {h} {e} {p} ok made low ah ae n = go (made.at p low)
  where
    -- what is known of the plan
    sound : SoundPlan (plan_of ok.points ss ts)
    sound = sound_plan ok.passes

    there : T (forbidden (plan_of 0 ss ts) h e)
        → (t : ℕ) × (t < turn_count (plan_of 0 ss ts)) × (turn_point (plan_of 0 ss ts) t ≡ p) × T (is_turn (plan_of 0 ss ts) h e t)
    there f = turn_there sound ah.inside ae.inside n ah.touch ae.touch f

    go : TurnAt ss ts table (turn_count (plan_of 0 ss ts)) p → forbidden_by table p h e ≡ forbidden (plan_of 0 ss ts) h e
    go (turn t l i j) =
        rw (j, forbidden_by) (gives_same (λ u. T_some (is_turn (plan_of 0 ss ts) h e) 0 (turn_count (plan_of 0 ss ts)) t (omega arith) (omega arith) u)
        (λ f. let w = there f in let z = same_turn sound w.0 t w.1 l (w.2 ∙ sym i) in rw z at w.3))
    go (no_turn none j) = rw (j, forbidden_by) (gives_false (λ f. let w = there f in none w.0 w.1 w.2))
