-- What is asked for: an arrival, a section at its point, and the forbidden turn between them.
-- Assumes nothing.
use mathlib.Core.Path.{◌≡◌, sym, ◌∙◌}
use mathlib.Core.Logic.{◌≢◌, ⊎_elim}
use mathlib.Core.Bool.{Bool, true, false, ◌&&◌}
use mathlib.Core.List.{List}
use Prim.Native.Nat.{ℕ, ◌*◌, ◌/◌, ◌<◌}
use native.Mathlib.Omega.{arith}
use lib.Dec.{T, ltb, ltb→lt}
use Rattle.rules.specs.Plan.{plan_of, of_sections, section_count, turn_count, touches, arrivals, to_point, forbidden}
use Rattle.rules.specs.PullAnswer.{reversal_of, turn_asked}
use Rattle.rules.proofs.Tests.{and_T, gives_false}
use Rattle.rules.proofs.Ranges.{some_T}
use Rattle.rules.proofs.Branches.{and_on}
use Rattle.rules.proofs.Sound.{sound_plan}
use Rattle.rules.proofs.TurnPoints.{is_turn, turn_cases}
use Rattle.std.proofs.Common.{Option}
use Rattle.turns.specs.declared.yard.Turn.{Turn}
use Rattle.turns.specs.Tables.{Passes, TurnTable, forbidden_by, Arrived}
use Rattle.turns.proofs.TurnsByPoint.{by_table}
use Rattle.turns.proofs.Entering.{arrived_low, comes}

-- there are such an arrival and such a section, and they meet
abbrev pub met : List ℕ → ℕ → ℕ → Bool
met ss a s = ltb a (arrivals (of_sections ss)) && ltb s (section_count (of_sections ss)) && touches (of_sections ss) s (to_point (of_sections ss) a)

module _ (ss : List ℕ) (a s : ℕ) where
  pub both_there : true ≡ met ss a s → (a / 2 < section_count (of_sections ss)) × Arrived ss s (to_point (of_sections ss) a)
  both_there e =
      let n = section_count (of_sections ss) in
      let t = and_T (ltb a (2 * n) && ltb s n) (touches (of_sections ss) s (to_point (of_sections ss) a)) (rw (← e) tt) in
      let u = and_T (ltb a (2 * n)) (ltb s n) t.0 in
      let h = ltb→lt a (2 * n) u.0 in
      (omega arith, record { inside = ltb→lt s n u.1; touch = t.1 })

module _ {ss ts : List ℕ} (a s : ℕ) (ok : Passes ss ts) (m : true ≡ met ss a s) where
  pub asked_low : to_point (of_sections ss) a < 768
  asked_low = arrived_low ok (both_there ss a s m).1

  -- no turn is of one section
  pub same_section : a / 2 ≡ s → false ≡ turn_asked (reversal_of (plan_of 0 ss ts) 0 a s)
  same_section e = and_on m (gives_false bad)
    where
      bad : T (forbidden (plan_of 0 ss ts) (a / 2) s) → ⊥
      bad t =
          let w = some_T (is_turn (plan_of 0 ss ts) (a / 2) s) 0 (turn_count (plan_of 0 ss ts)) t in
          let sound = sound_plan {y = plan_of ok.points ss ts} ok.passes in
          (sound.each_turn w.0 (omega (arith, w.1))).differ
          (⊎_elim (λ i. i.0 ∙ e ∙ sym i.1) (λ i. i.0 ∙ sym e ∙ sym i.1) (turn_cases (plan_of 0 ss ts) (a / 2) s w.0 w.2))

  pub asked_turn : {table : List (Option Turn)} → TurnTable ss ts table → a / 2 ≢ s → forbidden_by table (to_point (of_sections ss) a) (a / 2) s ≡ turn_asked (reversal_of (plan_of 0 ss ts) 0 a s)
  asked_turn made n = and_on m (by_table ok made asked_low (comes ss a (both_there ss a s m).0) (both_there ss a s m).1 n)
