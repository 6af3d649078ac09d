-- The step over one section, as the tests of the code come to it.
-- Assumes nothing.
use mathlib.Core.Path.{◌≡◌, refl, sym, ◌∙◌}
use mathlib.Core.Bool.{Bool, true, false, cond}
use mathlib.Core.List.{List}
use Prim.Native.Nat.{ℕ, ◌+◌, ◌/◌, ◌<◌}
use native.Mathlib.Omega.{arith}
use lib.Dec.{T, ltb, ltb→lt, lt→ltb}
use lib.ListN.{get_or}
use Rattle.rules.specs.Plan.{plan_of, of_sections, section_count, len, forbidden}
use Rattle.rules.specs.PullOut.{PullOut, any_section}
use Rattle.rules.proofs.Tests.{clash, says_true, says_false}
use Rattle.rules.proofs.Sound.{sound_plan}
use Rattle.rules.proofs.PullSwap.{Barred}
use Rattle.plan.specs.Lent.{plan_lent}
use Rattle.turns.specs.Tables.{forbidden_by, Arrived}
use Rattle.turns.proofs.TurnsByPoint.{by_table}
use Rattle.turns.proofs.Entering.{passed_joined}
use Rattle.steps.specs.declared.trip.Trip.{Trip}
use Rattle.steps.specs.StepOver.{rules_trip, may_enter, StepTables, Meets, arrival_over, OnlyStep, NoStep}
use Rattle.steps.proofs.Arrivals.{comes_there, point_low}
use Rattle.steps.proofs.ArrivalOver.{over_section, over_begins, over_only}

module _ {t : Trip} {served : List Bool} {a p s : ℕ} (K : StepTables t served) (M : Meets t.query.plan.sections.now a p s) where
  abbrev ss : List ℕ
  ss = t.query.plan.sections.now

  abbrev ts : List ℕ
  ts = t.query.plan.turns.now

  own : Arrived ss (a / 2) p
  own = comes_there a M.from M.point

  pub p_low : p < 768
  p_low = point_low a M.from M.point K.tables.checked

  -- what a test that was passed says
  pub is_section : {r : Bool} → r ≡ ltb s (section_count (of_sections ss)) → r ≡ true → s < section_count (of_sections ss)
  is_section i n = ltb→lt s (section_count (of_sections ss)) (says_true (ltb s (section_count (of_sections ss))) n i)

  pub is_entered : {r : Bool} → r ≡ may_enter t s → r ≡ true → T (may_enter t s)
  is_entered i n = says_true (may_enter t s) n i

  -- what one that was not passed says
  pub no_such_section : {r : Bool} → r ≡ ltb s (section_count (of_sections ss)) → r ≡ false → NoStep (rules_trip t) a s
  no_such_section i n d w q =
      clash (ltb s (section_count (of_sections ss))) (lt→ltb s (section_count (of_sections ss)) (omega (arith, w.to, q)))
      (says_false (ltb s (section_count (of_sections ss))) n i)

  pub not_entered : {r : Bool} → r ≡ may_enter t s → r ≡ false → NoStep (rules_trip t) a s
  not_entered i n d w q = clash (may_enter t s) (rw q at w.may) (says_false (may_enter t s) n i)

  module _ (l : s < section_count (of_sections ss)) where
    pub cost_low : {k : ℕ} → k ≡ len (of_sections ss) s → t.query.length + k < 4294967296
    cost_low i =
        let sound = sound_plan {y = plan_of K.tables.checked.points ss ts} K.tables.checked.passes in
        omega (arith, K.short, (sound.each_section s l).long)

    -- the table says whether the turn to s is forbidden
    by_turn : forbidden_by t.turns.now p (a / 2) s ≡ forbidden (plan_lent t.query.plan) (a / 2) s
    by_turn = by_table K.tables.checked K.tables.turned p_low own (M.there l) (λ i. M.other l (sym i))

    barred : T (forbidden (plan_lent t.query.plan) (a / 2) s) → Barred (plan_lent t.query.plan) (a / 2) p s
    barred f = record {
      c_inside = own.inside;
      s_inside = l;
      differ = M.other l;
      c_touch = own.touch;
      s_touch = (M.there l).touch;
      turn = f;
    }

    -- the turn asks for a pull-out that there is not
    pub no_pull_out : {f : Bool} → f ≡ forbidden_by t.turns.now p (a / 2) s → f ≡ true → get_or served p false ≡ false → NoStep (rules_trip t) a s
    no_pull_out j n z d w q =
        let turned : true ≡ forbidden (plan_lent t.query.plan) (a / 2) s = sym n ∙ j ∙ by_turn in
        let u : T (forbidden (plan_lent t.query.plan) (a / 2) s) = rw (← turned) tt in
        let pull = rw (q, ← M.point) at (w.turn (rw q u)) in
        K.serving.unserved (a / 2) p s (barred u) (rw q at w.may) z pull.0 pull.1

    -- the section is entered, at the point of a, and the pull-out that its turn may ask for is there
    module _ {b : ℕ} (i : b ≡ arrival_over ss s p) (m : T (may_enter t s)) where
      half : b / 2 ≡ s
      half = rw i (over_section ss s p)

      one_step : {k : ℕ} → k ≡ cond (forbidden (plan_lent t.query.plan) (a / 2) s) t.query.length 0 + len (of_sections ss) s
          → (T (forbidden (plan_lent t.query.plan) (a / 2) s) → (qs : List ℕ) × PullOut (plan_lent t.query.plan) any_section t.query.length (a / 2) p s qs)
          → OnlyStep (rules_trip t) a s (record { next = b; cost = k })
      one_step j u = record {
        over = half;
        entry = record {
          step = record {
            from = M.from;
            to = omega (arith, half);
            joined = rw i (over_begins ss s p (M.there l).touch) ∙ M.point;
            other = rw half (M.other l);
            may = rw half m;
            turn = λ f. rw (half, ← M.point) (u (rw half at f));
          };
          cost_of = rw half j;
        };
        only = λ d w q. over_only ss s p ((passed_joined K.tables.checked).each s l).apart d (w.joined ∙ sym M.point) q ∙ sym i;
      }

      module _ {f : Bool} (j : f ≡ forbidden_by t.turns.now p (a / 2) s) where
        pub runs_on : {k : ℕ} → f ≡ false → k ≡ len (of_sections ss) s → OnlyStep (rules_trip t) a s (record { next = b; cost = k })
        runs_on n q =
            let no_turn : false ≡ forbidden (plan_lent t.query.plan) (a / 2) s = sym n ∙ j ∙ by_turn in
            one_step (rw (← no_turn) (omega arith)) (λ u. absurd (rw (← no_turn) at u))

        pub pulls_out : {k : ℕ} → f ≡ true → get_or served p false ≡ true → k ≡ len (of_sections ss) s
            → OnlyStep (rules_trip t) a s (record { next = b; cost = t.query.length + k })
        pulls_out n z q =
            let turned : true ≡ forbidden (plan_lent t.query.plan) (a / 2) s = sym n ∙ j ∙ by_turn in
            one_step (rw (← turned, q) refl) (λ u. K.serving.served (a / 2) p s (barred u) z)
