-- What the passed checks say of a section and an arrival, and what the tests come to: whether a section may be entered.
-- Assumes nothing.
use mathlib.Core.Path.{◌≡◌, sym, ◌∙◌}
use mathlib.Core.Logic.{◌≢◌}
use mathlib.Core.Bool.{Bool, true, false, cond, not, ◌&&◌}
use mathlib.Core.List.{List}
use Prim.Native.Nat.{ℕ, ◌/◌, ◌%◌, ◌<◌}
use native.Mathlib.Omega.{arith}
use lib.Dec.{T, eqb, eqb_refl, ltb, ltb→lt, lt→ltb}
use Rattle.rules.specs.Plan.{Plan, plan_of, of_sections, section_count, field, end_A, end_B, to_point, touches, far, forbidden}
use Rattle.rules.specs.PullOut.{any_section}
use Rattle.rules.proofs.Tests.{tests, clash, and_T, T_and, T_or_left, T_or_right, gives_false, gives_same, says_true, says_false}
use Rattle.rules.proofs.Sound.{at_both_ends}
use Rattle.rules.proofs.Ways.{may_use}
use Rattle.rules.proofs.PullSearch.{fits, fits_T, T_fits}
use Rattle.plan.specs.Ends.{Joined, AtMostThree}
use Rattle.plan.proofs.Known.{plan_joined, plan_three}
use Rattle.plan.proofs.Touching.{touch_below}
use Rattle.turns.specs.Tables.{Passes, TurnTable, forbidden_by, Arrived}
use Rattle.turns.specs.Enters.{Enters}
use Rattle.std.proofs.Common.{Option}
use Rattle.turns.specs.declared.yard.Turn.{Turn}
use Rattle.turns.proofs.TurnsByPoint.{by_table}

-- the far end of a section is an end of it
pub at_far : (y : Plan) (e p : ℕ) → T (touches y e (far y e p))
at_far y e p = go (eqb (end_A y e) p)
  where
    go : (b : Bool) → T (touches y e (cond b (end_B y e) (end_A y e)))
    go true = T_or_right (eqb (end_A y e) (end_B y e)) (eqb (end_B y e) (end_B y e)) (eqb_refl (end_B y e))
    go false = T_or_left (eqb (end_A y e) (end_A y e)) (eqb (end_B y e) (end_A y e)) (eqb_refl (end_A y e))

-- what the passed checks say of the sections
pub passed_joined : {ss ts : List ℕ} → Passes ss ts → Joined ss
passed_joined {ss} {ts} ok = plan_joined (plan_of ok.points ss ts) ok.passes

pub passed_three : {ss ts : List ℕ} → Passes ss ts → AtMostThree ss
passed_three {ss} {ts} ok = plan_three (plan_of ok.points ss ts) ok.passes

pub arrived_low : {ss ts : List ℕ} {h p : ℕ} → Passes ss ts → Arrived ss h p → p < 768
arrived_low {h} {p} ok a = touch_below ((passed_joined ok).each h a.inside) p a.touch

pub far_low : {ss ts : List ℕ} → Passes ss ts → (e p : ℕ) → e < section_count (plan_of 0 ss ts) → far (plan_of 0 ss ts) e p < 768
far_low {ss} {ts} ok e p l = touch_below ((passed_joined ok).each e l) (far (plan_of 0 ss ts) e p) (at_far (plan_of 0 ss ts) e p)

pub section_low : {ss ts : List ℕ} {e : ℕ} → Passes ss ts → e < section_count (plan_of 0 ss ts) → e < 1024
section_low ok l = omega (arith, (passed_joined ok).few)

-- the test that a section is one of the plan's and may be entered
abbrev pub entry : List ℕ → List ℕ → ℕ → ℕ → ℕ → ℕ → ℕ → Bool
entry ss ts c s h p e = ltb e (section_count (plan_of 0 ss ts)) && fits (plan_of 0 ss ts) (may_use any_section c s) h p e

module _ (ss ts : List ℕ) (c s h p e : ℕ) where
  pub entry_T : T (entry ss ts c s h p e) → Enters ss ts c s h p e
  entry_T t =
      let u = and_T (ltb e (section_count (plan_of 0 ss ts))) (fits (plan_of 0 ss ts) (may_use any_section c s) h p e) t in
      fits_T (plan_of 0 ss ts) (may_use any_section c s) h p e (ltb→lt e (section_count (plan_of 0 ss ts)) u.0) u.1

  pub T_entry : Enters ss ts c s h p e → T (entry ss ts c s h p e)
  T_entry f =
      T_and (ltb e (section_count (plan_of 0 ss ts))) (fits (plan_of 0 ss ts) (may_use any_section c s) h p e)
      (lt→ltb e (section_count (plan_of 0 ss ts)) f.inside) (T_fits (plan_of 0 ss ts) (may_use any_section c s) f)

  -- a test that fails
  no_entry : (Enters ss ts c s h p e → ⊥) → false ≡ entry ss ts c s h p e
  no_entry n = gives_false (λ t. n (entry_T t))

  -- what the usable sections are not
  not_both : Enters ss ts c s h p e → (e ≢ c) × (e ≢ s)
  not_both f = let u = simp tests at f.usable in (u.0.1, u.1)

  module _ {table : List (Option Turn)} (ok : Passes ss ts) (made : TurnTable ss ts table) (a : Arrived ss h p) where
    -- the table says of a section at p whether the turn into it is forbidden
    by_turn : e < section_count (plan_of 0 ss ts) → T (touches (plan_of 0 ss ts) e p) → e ≢ h → forbidden_by table p h e ≡ forbidden (plan_of 0 ss ts) h e
    by_turn l t n = by_table ok made (arrived_low ok a) a (record { inside = l; touch = t }) (λ i. n (sym i))

    pub turn_shut : {r : Bool} → r ≡ forbidden_by table p h e → r ≡ true → false ≡ entry ss ts c s h p e
    turn_shut i q =
        no_entry (λ f. clash (forbidden (plan_of 0 ss ts) h e)
        (says_true (forbidden (plan_of 0 ss ts) h e) q (i ∙ by_turn f.inside f.touch f.other)) f.turn)

    -- all tests but the last have passed
    pub entry_last : {i t f : Bool} → i ≡ ltb e (section_count (plan_of 0 ss ts)) → i ≡ true → t ≡ touches (plan_of 0 ss ts) e p → t ≡ true → e ≢ h
        → f ≡ forbidden_by table p h e → f ≡ false → e ≢ c → not (eqb e s) ≡ entry ss ts c s h p e
    entry_last {i} {t} {f} ei ni et nt nh ef nf nc = gives_same to from
      where
        l : e < section_count (plan_of 0 ss ts)
        l = ltb→lt e (section_count (plan_of 0 ss ts)) (says_true (ltb e (section_count (plan_of 0 ss ts))) ni ei)

        u : T (touches (plan_of 0 ss ts) e p)
        u = says_true (touches (plan_of 0 ss ts) e p) nt et

        to : T (not (eqb e s)) → T (entry ss ts c s h p e)
        to ns =
            T_entry (record {
              inside = l;
              touch = u;
              turn = says_false (forbidden (plan_of 0 ss ts) h e) nf (ef ∙ by_turn l u nh);
              other = nh;
              usable = simp tests ((tt, nc), simp tests at ns);
            })

        from : T (entry ss ts c s h p e) → T (not (eqb e s))
        from t = simp tests (not_both (entry_T t)).1

-- the section of an arrival has the arrival's point for an end
pub comes : (ss : List ℕ) (a : ℕ) → a / 2 < section_count (of_sections ss) → Arrived ss (a / 2) (to_point (of_sections ss) a)
comes ss a l =
    record {
      inside = l;
      touch = at_both_ends (λ e. T (touches (of_sections ss) (a / 2) (field (of_sections ss) (a / 2) e)))
          (T_or_left (eqb x x) (eqb z x) (eqb_refl x)) (T_or_right (eqb x z) (eqb z z) (eqb_refl z)) (a % 2) (omega arith);
    }
  where
    x : ℕ
    x = end_A (of_sections ss) (a / 2)

    z : ℕ
    z = end_B (of_sections ss) (a / 2)
