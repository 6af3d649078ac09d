-- The turns that a pull-out serves: how the table is filled, and that one answer is right for both ways.
-- Assumes nothing.
use mathlib.Core.Path.{◌≡◌, sym, ◌∙◌}
use mathlib.Core.Logic.{◌⊎◌, inl, inr, ⊎_elim}
use mathlib.Core.Bool.{Bool, true, false, false≢true}
use mathlib.Core.List.{List}
use Prim.Native.Nat.{ℕ, ◌+◌, ◌≤◌, ◌<◌}
use native.Mathlib.Omega.{arith}
use native.Mathlib.Decide.{ℕ_discrete}
use lib.Dec.{T}
use lib.ListN.{length, get_or, set, length-set, replicate, length-replicate}
use lib.Seq.{get_or-set_same, get_or-set_other}
use Rattle.rules.specs.Plan.{Plan, plan_of, turn_count, turn_section, turn_point}
use Rattle.rules.specs.PullOut.{PullOut, NoPullOut, any_section}
use Rattle.rules.proofs.Tests.{clash, says_false}
use Rattle.rules.proofs.Sound.{SoundPlan, sound_plan}
use Rattle.rules.proofs.TurnPoints.{is_turn, turn_cases, turn_there}
use Rattle.rules.proofs.AnyPoints.{pull_points, barred_points}
use Rattle.rules.proofs.PullSwap.{Barred, barred_back, swapped}
use Rattle.plan.proofs.Known.{plan_turned}
use Rattle.turns.specs.Tables.{Passes, Arrived}
use Rattle.reversal.specs.Reverses.{Reverses}
use Rattle.reversal.proofs.Reversing.{reverses_true, reverses_false}
use Rattle.steps.specs.Served.{TurnServed, Served}

-- the answer for turn t, whose sections and point were read as c, s and p
module _ {y : Plan} (may : ℕ → Bool) {need t c s : ℕ} (ic : c ≡ turn_section y t 0) (is : s ≡ turn_section y t 1) where
  pub not_asked : {b d : Bool} → b ≡ may c → b ≡ false → d ≡ may s → d ≡ false → TurnServed y may need t false
  not_asked ib nb id nd =
      record {
        served = λ z. absurd (false≢true z);
        unserved = λ z m. absurd (⊎_elim (λ u. clash (may c) (rw ic u) (says_false (may c) nb ib)) (λ u. clash (may s) (rw is u) (says_false (may s) nd id)) m);
      }

  pub asked : {p : ℕ} {r : Bool} → p ≡ turn_point y t → Reverses y need c p s r → TurnServed y may need t r
  asked ip w = record { served = λ q. rw (ic, ip, is) at (reverses_true w q); unserved = λ q m. rw (ic, ip, is) at (reverses_false w q) }

-- what the passed checks say of the turns
pub few_turns : {ss ts : List ℕ} → Passes ss ts → turn_count (plan_of 0 ss ts) ≤ 768
few_turns {ss} {ts} ok = (plan_turned (plan_of ok.points ss ts) ok.passes).few

-- the sections of a turn are at its point
pub turn_arrived : {ss ts : List ℕ} → Passes ss ts → (t : ℕ) {c p : ℕ} → t < turn_count (plan_of 0 ss ts) → c ≡ turn_section (plan_of 0 ss ts) t 0
    → p ≡ turn_point (plan_of 0 ss ts) t → Arrived ss c p
turn_arrived {ss} {ts} ok t l ic ip =
    let turn = (sound_plan {y = plan_of ok.points ss ts} ok.passes).each_turn t l in
    let there : Arrived ss (turn_section (plan_of 0 ss ts) t 0) (turn_point (plan_of 0 ss ts) t) = record { inside = turn.in_range.0; touch = turn.share.0 } in
    rw (ip, ic) there

-- there are answers for the turns before t
pub record Asked (y : Plan) (may : ℕ → Bool) (need : ℕ) (points : List Bool) (t : ℕ) : Type 0 where
  pub long : length points ≡ 768
  pub at : (u : ℕ) → u < t → TurnServed y may need u (get_or points (turn_point y u) false)

pub asked_none : {y : Plan} {may : ℕ → Bool} {need : ℕ} → Asked y may need (replicate 768 false) 0
asked_none = record { long = length-replicate {A = Bool} 768 false; at = λ u l. absurd (omega arith) }

module _ {ss ts : List ℕ} (ok : Passes ss ts) where
  sound : SoundPlan (plan_of ok.points ss ts)
  sound = sound_plan ok.passes

  -- p is the point of turn t
  module _ {t p : ℕ} (l : t < turn_count (plan_of 0 ss ts)) (i : p ≡ turn_point (plan_of 0 ss ts) t) where
    pub turn_low : p < 768
    turn_low = omega (arith, (plan_turned (plan_of ok.points ss ts) ok.passes).each t l)

    -- one turn more
    pub asked_more : (v : ℕ) {may : ℕ → Bool} {need : ℕ} {points : List Bool} {r : Bool} → Asked (plan_of v ss ts) may need points t → TurnServed (plan_of v ss ts) may need t r
        → Asked (plan_of v ss ts) may need (set points p r) (t + 1)
    asked_more v {may} {need} {points} {r} k w = record { long = rw length-set k.long; at = λ u h. go u (ℕ_discrete u t) h }
      where
        go : (u : ℕ) → Dec (u ≡ t) → u < t + 1 → TurnServed (plan_of v ss ts) may need u (get_or (set points p r) (turn_point (plan_of 0 ss ts) u) false)
        go u (yes d) h = rw (d, ← i, get_or-set_same points p r false (omega (arith, k.long, turn_low))) w
        go u (no d) h =
            rw (get_or-set_other points p (turn_point (plan_of 0 ss ts) u) r false (λ e. sound.one_turn u t (omega arith) l d (e ∙ i)))
            (k.at u (omega arith))

  -- all turns have been asked for
  module _ (v : ℕ) {may : ℕ → Bool} {need : ℕ} {points : List Bool} (k : Asked (plan_of v ss ts) may need points (turn_count (plan_of 0 ss ts))) where
    -- what is known of the turn u, whose sections and point are a, b and p
    there : (u : ℕ) {a b p : ℕ} → u < turn_count (plan_of 0 ss ts) → turn_point (plan_of 0 ss ts) u ≡ p → turn_section (plan_of 0 ss ts) u 0 ≡ a
        → turn_section (plan_of 0 ss ts) u 1 ≡ b
        → (get_or points p false ≡ true → (qs : List ℕ) × PullOut (plan_of v ss ts) any_section need a p b qs)
        × (get_or points p false ≡ false → T (may a) ⊎ T (may b) → NoPullOut (plan_of v ss ts) any_section need a p b)
    there u l ip ia ib =
        let w = k.at u l in
        (λ z. rw (ip, ia, ib) at (w.served (rw ip z)), λ z m. rw (ip, ia, ib) at (w.unserved (rw ip z) (rw (ia, ib) m)))

    turn_of : {c p s : ℕ} → Barred (plan_of v ss ts) c p s → (u : ℕ) × (u < turn_count (plan_of 0 ss ts)) × (turn_point (plan_of 0 ss ts) u ≡ p) × T (is_turn (plan_of 0 ss ts) c s u)
    turn_of b = turn_there sound b.c_inside b.s_inside (λ e. b.differ (sym e)) b.c_touch b.s_touch b.turn

    -- the pull-outs of a turn are those of the turn the other way
    other_way : {c p s : ℕ} {qs : List ℕ} → Barred (plan_of v ss ts) c p s → PullOut (plan_of v ss ts) any_section need c p s qs
        → PullOut (plan_of v ss ts) any_section need s p c qs
    other_way b q = pull_points ok.points v (swapped sound (barred_points v ok.points b) (pull_points v ok.points q))

    pub asked_all : Served (plan_of v ss ts) may need points
    asked_all = record { served = yes_there; unserved = no_there }
      where
        yes_there : (c p s : ℕ) → Barred (plan_of v ss ts) c p s → get_or points p false ≡ true → (qs : List ℕ) × PullOut (plan_of v ss ts) any_section need c p s qs
        yes_there c p s b z =
            let u = turn_of b in
            ⊎_elim (λ i. (there u.0 u.1 u.2 i.0 i.1).0 z)
            (λ i. let q = (there u.0 u.1 u.2 i.0 i.1).0 z in (q.0, other_way (barred_back b) q.1))
            (turn_cases (plan_of 0 ss ts) c s u.0 u.3)

        no_there : (c p s : ℕ) → Barred (plan_of v ss ts) c p s → T (may s) → get_or points p false ≡ false → NoPullOut (plan_of v ss ts) any_section need c p s
        no_there c p s b m z qs q =
            let u = turn_of b in
            ⊎_elim (λ i. (there u.0 u.1 u.2 i.0 i.1).1 z (inr m) qs q)
            (λ i. (there u.0 u.1 u.2 i.0 i.1).1 z (inl m) qs (other_way b q)) (turn_cases (plan_of 0 ss ts) c s u.0 u.3)
